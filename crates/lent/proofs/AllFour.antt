-- All four figures of an image on lent slices: the quotation of the image was handed its places or none (answers/proofs/Handing.antt), so its promise is the
-- promise on the slices (`quotes_done`). Its numbers fit, since the plan is within the limits. Assumes nothing.
use mathlib.Core.List.{List}
use mathlib.Core.Path.{◌≡◌, refl, sym, ap, subst, ◌∙◌}
use Prim.Native.Nat.{ℕ}
use native.Mathlib.Omega.{arith}
use lib.ListN.{length}
use Rattle.rules.specs.Answer.{Quotations}
use Rattle.std.proofs.Common.{Ok, Err}
use Rattle.rules.specs.Image.{graph_in, image_rows}
use Rattle.rules.specs.Quotations.{AllStated, QuotesHeld, held_rows, held_rule, lent_held_rule, said_quotations}
use Rattle.rules.specs.Refusal.{Result, code}
use Rattle.rules.proofs.Results.{never}
use Rattle.rules.proofs.Small.{four_small}
use Rattle.rules.proofs.Kept.{held-within-limits}
use Rattle.answers.specs.Answered.{AllSmall, AllFit, all_numbers_in, Answered}
use Rattle.answers.specs.Handed.{Handed}
use Rattle.lent.specs.Quoted.{LentQuotes}
use Rattle.answers.proofs.Handing.{part, back, rule-same, enough, handed-all, handed-back, rest_kept}

-- ---- the numbers fit

pub all_small : (image before after : List ℕ) (r : Quotations) → QuotesHeld image before after r → AllSmall r
all_small image before after r x q e = four_small (graph_in image) (held-within-limits image before after r x q e) q before after (x.quoted q e)

-- ---- the promise on the slices

module _ (image walks out : List ℕ) (end : ℕ) (h : Handed (length walks) (length out) 16 end) where
  -- what was handed over is refused or accepted as all that was lent
  same : held_rule image (part end walks) ≡ lent_held_rule image walks out
  unfolding held_rule lent_held_rule
  same = rule-same walks out 16 end h (image_rows image) 2048 (λ k. omega arith)

  -- where it is accepted there are sixteen places for the answer
  pub sixteen_places : (left : List ℕ) (r : Quotations) → QuotesHeld image (part end walks) left r → AllFit r out
  unfolding lent_held_rule
  sixteen_places left r x q e = enough walks out 16 end h (held_rows image walks) (sym same ∙ sym x.answer ∙ ap said_quotations e)

  pub quotes_done : (left out' : List ℕ) (a : Quotations) (r : ℕ) → QuotesHeld image (part end walks) left a → Answered (all_numbers_in a) out out' r
      → LentQuotes image walks (back end walks left) out out' r
  quotes_done left out' (Ok q) r x a =
      let g = graph_in image in
      let l = sixteen_places left (Ok q) x q refl in
      let e = x.answer ∙ same in
      let stated : AllStated g q walks left = subst (λ (z : List ℕ). AllStated g q z left) (handed-all walks out 16 end h l) (x.quoted q refl) in
      record {
        answer = a.0 ∙ ap (λ (o : Result (Unit {0})). code o) e;
        kept = λ k f. absurd (never tt k (sym f ∙ sym e));
        quoted = λ f. record {
          quotes = q;
          stated = subst (λ (z : List ℕ). AllStated g q walks z) (sym (handed-back walks out 16 end h l left)) stated;
          places = a.1;
        };
      }
  quotes_done left out' (Err n) r x a =
      let e = x.answer ∙ same in
      record {
        answer = a.0 ∙ ap (λ (o : Result (Unit {0})). code o) e;
        kept = λ k f. (rest_kept end walks left (x.kept n (sym x.answer)), a.1);
        quoted = λ f. absurd (never tt n (e ∙ f));
      }
