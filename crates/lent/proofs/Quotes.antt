-- What a quotation on lent slices promises. The walk of an accepted quotation has at most as many transitions as the plan has states, and j is below
-- their number or 0, so both fit their places. It was handed its places or none (answers/proofs/Handing.antt), so the promise of the plan's own call is the
-- promise on the slices: accepted with the figure's numbers put, refused with every place as it was.
-- Assumes nothing.
use mathlib.Core.Bool.{true, false}
use mathlib.Core.List.{List, ◌∷◌}
use mathlib.Core.Path.{◌≡◌, refl, sym, ap, ◌∙◌, subst}
use Prim.Native.Nat.{ℕ}
use lib.ListN.{length}
use Rattle.graph.specs.Class.{figure_of, counting}
use Rattle.graph.specs.Graph.{Graph, states}
use Rattle.graph.specs.declared.Asked.{Asked}
use Rattle.rules.specs.Answer.{Quotation}
use Rattle.std.proofs.Common.{Ok, Err}
use Rattle.rules.specs.Quotations.{Quotes, Stated, says_asked, name_rows, quote_rows, quote_rule, lent_quote_rule, said_quotation, meant}
use Rattle.rules.specs.Refusal.{Result, code}
use Rattle.rules.specs.Limits.{within}
use Rattle.rules.specs.Rules.{limit_row}
use Rattle.rules.proofs.ReadWrite.{limited}
use Rattle.rules.proofs.Results.{never, not-false}
use Rattle.rules.proofs.Tables.{accepted_only}
use Rattle.arrays.specs.declared.Plan.{Plan}
use Rattle.plan.specs.View.{view}
use Rattle.rules.proofs.Small.{small_quote}
use Rattle.slices.specs.Lent.{Slices, has_room, plan_in}
use Rattle.answers.specs.Answered.{Small, Fits, numbers_in, Answered}
use Rattle.answers.specs.Handed.{Handed}
use Rattle.lent.specs.Quoted.{LentQuote}
use Rattle.slices.proofs.Stores.{true-false}
use Rattle.answers.proofs.Handing.{part, back, rule-same, enough, handed-all, handed-back, rest_kept}

-- ---- k and j fit

pub small : (asked : Asked) (g : Graph) (walk walk' : List ℕ) (r : Quotation) → Quotes asked g walk walk' r → Small r
unfolding quote_rule
small asked g walk walk' r x q e =
    let k = accepted_only (quote_rows asked g walk) tt tt (sym x.answer ∙ ap said_quotation e) in
    small_quote g (not-false (within g) k.0.0) (figure_of asked) (counting asked g) q walk walk' (x.quoted q e)

-- ---- the promise on the slices

pub quote-short : (asked : Asked) (s : Slices) (walk out : List ℕ) → has_room s ≡ false → LentQuote asked s walk walk out out 255
quote-short asked s walk out e =
    record {
      short = λ h. (refl, refl, refl);
      answer = λ h. true-false (has_room s) h e;
      kept = λ h. true-false (has_room s) h e;
      quoted = λ h. true-false (has_room s) h e;
    }

module _ (asked : Asked) (g : Graph) (walk out : List ℕ) (end : ℕ) (h : Handed (length walk) (length out) 4 end) where
  -- what was handed over is refused or accepted as all that was lent
  same : quote_rule asked g (part end walk) ≡ lent_quote_rule asked g walk out
  unfolding quote_rule lent_quote_rule
  same = rule-same walk out 4 end h (limit_row g ∷ name_rows asked) (states g) (λ k. (limited g (not-false (within g) k.0)).least)

  -- where it is accepted there are four places for the answer
  pub four-places : (left : List ℕ) (r : Quotation) → Quotes asked g (part end walk) left r → Fits r out
  unfolding lent_quote_rule
  four-places left r x q e = enough walk out 4 end h (quote_rows asked g walk) (sym same ∙ sym x.answer ∙ ap said_quotation e)

-- a quotation of the plan's own whose numbers were put keeps its promise on the slices
pub quote-finished : (asked : Asked) (p : Plan) (s : Slices) (walk left out out' : List ℕ) (end : ℕ) (q : Quotation) (r : ℕ)
    → Handed (length walk) (length out) 4 end → has_room s ≡ true → p ≡ plan_in s
    → Quotes asked (view p) (part end walk) left q → Answered (numbers_in q) out out' r → LentQuote asked s walk (back end walk left) out out' r
quote-finished asked p s walk left out out' end (Ok q) r h room i x a =
    let g = view (plan_in s) in
    let y : Quotes asked g (part end walk) left (Ok q) = rw i at x in
    let l = four-places asked g walk out end h left (Ok q) y q refl in
    let e = y.answer ∙ same asked g walk out end h in
    let said : Stated (says_asked asked g) q walk left = subst (λ (z : List ℕ). Stated (says_asked asked g) q z left) (handed-all walk out 4 end h l) (y.quoted q refl) in
    record {
      short = λ f. true-false (has_room s) room f;
      answer = λ _. a.0 ∙ ap (λ (o : Result (Unit {0})). code o) e;
      kept = λ _ k f. absurd (never tt k (sym f ∙ sym e));
      quoted = λ _ f. record {
        figure = meant q.figure;
        k = q.k;
        j = q.j;
        says = subst (λ (z : List ℕ). Stated (says_asked asked g) q walk z) (sym (handed-back walk out 4 end h l left)) said;
        places = a.1;
      };
    }
quote-finished asked p s walk left out out' end (Err n) r h room i x a =
    let g = view (plan_in s) in
    let y : Quotes asked g (part end walk) left (Err n) = rw i at x in
    let e = y.answer ∙ same asked g walk out end h in
    record {
      short = λ f. true-false (has_room s) room f;
      answer = λ _. a.0 ∙ ap (λ (o : Result (Unit {0})). code o) e;
      kept = λ _ k f. (rest_kept end walk left (y.kept n (sym y.answer)), a.1);
      quoted = λ _ f. absurd (never tt n (e ∙ f));
    }
