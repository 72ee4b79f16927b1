-- Promises kept, of one quotation and of all four: by a refusal that leaves the places, and by an accepted call of which the figures' sentences hold. And
-- what the rules say of an accepted one: the plan is within the limits, and there are places for the walk. Assumes nothing.
use mathlib.Core.Bool.{true}
use mathlib.Core.List.{List, [], ◌∷◌}
use mathlib.Core.Path.{◌≡◌, refl, sym, ap, ◌∙◌, subst}
use Prim.Native.Nat.{ℕ, ◌≤◌, ◌<◌}
use native.Mathlib.Omega.{arith}
use borrow.Author.Tests.{ltb-false, lt-ltb, le-ltb}
use lib.ListN.{length}
use Rattle.graph.specs.declared.Asked.{Asked}
use Rattle.graph.specs.Graph.{Graph, states}
use Rattle.rules.specs.declared.Refusal.{Refusal}
use Rattle.rules.specs.declared.Refusal.TheVariants.{BufferLength}
use Rattle.rules.specs.declared.Quote.{Quote}
use Rattle.rules.specs.declared.FourQuotes.{FourQuotes}
use Rattle.rules.specs.Answer.{Accepted, Quotations}
use Rattle.std.proofs.Common.{Ok, Err}
use Rattle.rules.specs.Limits.{within}
use Rattle.rules.specs.Image.{read_image, image_rows, graph_in}
use Rattle.rules.specs.Quotations.{says_asked, Stated, Quotes, name_rows, quote_rows, quote_rule, AllStated, QuotesAll, QuotesHeld, all_rows, all_rule, held_rule, said_quotations}
use Rattle.rules.specs.Refusal.{accepted, refused, said}
use Rattle.rules.specs.Rules.{buffer_row}
use Rattle.rules.specs.Table.{first, NoneHolds}
use Rattle.rules.proofs.Results.{never, not-false}
use Rattle.plan.specs.declared.Edited.{Edited}
use Rattle.plan.specs.Promise.{Held}
use Rattle.plan.specs.View.{view}
use Rattle.plan.specs.Laws.{held-plan}
use Rattle.rules.proofs.Tables.{accepted_only, accepted_where, answer-first, after_none, after-refused, none-append}

-- ---- one quotation

module _ (asked : Asked) (g : Graph) (places : List ℕ) (e : quote_rule asked g places ≡ accepted tt) where
  none : NoneHolds (quote_rows asked g places)
  unfolding quote_rule
  none = (accepted_only (quote_rows asked g places) tt tt e).0

  pub accepted-within : within g ≡ true
  accepted-within = not-false (within g) none.0

  pub room : states g ≤ length places
  room = ltb-false (length places) (states g) (none-append (name_rows asked) (buffer_row places (states g) ∷ []) none.1).1.0

module _ (asked : Asked) (g : Graph) (before : List ℕ) where
  pub refusal : (r : Refusal) → refused r ≡ quote_rule asked g before → Quotes asked g before before (Err r)
  refusal r e = record {
    answer = e;
    kept = λ k f. refl;
    quoted = λ q f. let z : ◌≡◌ {A = ℕ} 0 1 = cc in absurd (omega arith);
  }

  pub acceptance : (after : List ℕ) (q : Quote) → quote_rule asked g before ≡ accepted tt → Stated (says_asked asked g) q before after
      → Quotes asked g before after (Ok q)
  acceptance after q e h = record {
    answer = sym e;
    kept = λ k f. absurd (never tt k (sym f ∙ e));
    quoted = λ r f. let s : q ≡ r = cc in rw (← s) h;
  }

-- ---- all four

module _ (g : Graph) (places : List ℕ) where
  -- where the rule accepts, the plan is within the limits, and there are four parts of 512 places
  pub all-within : all_rule g places ≡ accepted tt → within g ≡ true
  unfolding all_rule
  all-within e = not-false (within g) (accepted_only (all_rows g places) tt tt e).0.0

  pub all_room : all_rule g places ≡ accepted tt → 2048 ≤ length places
  unfolding all_rule
  all_room e = ltb-false (length places) 2048 (accepted_only (all_rows g places) tt tt e).0.1.0

  pub all_done : within g ≡ true → 2048 ≤ length places → all_rule g places ≡ accepted tt
  unfolding all_rule
  all_done w h = rw (w, le-ltb (length places) 2048 h) refl

  pub all-refusal : (r : Refusal) → all_rule g places ≡ refused r → QuotesAll g places places (Err r)
  all-refusal r e = record {
    answer = sym e;
    kept = λ k f. refl;
    quoted = λ q f. let z : ◌≡◌ {A = ℕ} 0 1 = cc in absurd (omega arith);
  }

  pub all-acceptance : (after : List ℕ) (q : FourQuotes) → all_rule g places ≡ accepted tt → AllStated g q places after
      → QuotesAll g places after (Ok q)
  all-acceptance after q e h = record {
    answer = sym e;
    kept = λ k f. absurd (never tt k (sym f ∙ e));
    quoted = λ r f. let s : q ≡ r = cc in rw (← s) h;
  }

  -- where the rule accepts, no refusal is answered
  pub all_not_refused : (after : List ℕ) (a : Quotations) (r : Refusal) → QuotesAll g places after a → a ≡ Err r → all_rule g places ≡ accepted tt → ⊥
  all_not_refused after a r s e d = never tt r (ap said_quotations (sym e) ∙ s.answer ∙ d)

-- ---- all four of an image

module _ (image before : List ℕ) (f : Edited) (e : Held image f) where
  -- the answer of the read is that of the image's rows
  by_rows : said f.answer ≡ first (image_rows image)
  unfolding read_image
  by_rows = e.answer ∙ answer-first (image_rows image) (graph_in image)

  pub held-refused : (x : Refusal) → f.answer ≡ Err x → QuotesHeld image before before (Err x)
  unfolding held_rule
  held-refused x a = record {
    answer = sym (after-refused (image_rows image) (buffer_row before 2048 ∷ []) tt x (sym by_rows ∙ ap said a));
    kept = λ k i. refl;
    quoted = λ q i. let z : ◌≡◌ {A = ℕ} 0 1 = cc in absurd (omega arith);
  }

  module _ (a : f.answer ≡ Accepted) where
    -- the image's rows accept, so the places decide
    by_places : held_rule image before ≡ first (buffer_row before 2048 ∷ [])
    unfolding held_rule
    by_places = after_none (image_rows image) (buffer_row before 2048 ∷ []) tt (accepted_only (image_rows image) tt tt (sym by_rows ∙ ap said a)).0

    -- the plan that was read is the one that the octets hold
    read-plan : view f.plan ≡ graph_in image
    unfolding read_image
    read-plan =
        held-plan image f e (graph_in image) (accepted_where (image_rows image) (graph_in image) (accepted_only (image_rows image) tt tt (sym by_rows ∙ ap said a)).0)

    pub held-short : length before < 2048 → QuotesHeld image before before (Err BufferLength)
    held-short h = record {
      answer = sym (by_places ∙ rw (lt-ltb (length before) 2048 h) refl);
      kept = λ k i. refl;
      quoted = λ q i. let z : ◌≡◌ {A = ℕ} 0 1 = cc in absurd (omega arith);
    }

    pub held-quoted : (after : List ℕ) (q : FourQuotes) → 2048 ≤ length before → AllStated (view f.plan) q before after
        → QuotesHeld image before after (Ok q)
    held-quoted after q h s =
        let d : held_rule image before ≡ accepted tt = by_places ∙ rw (le-ltb (length before) 2048 h) refl in
        record {
          answer = sym d;
          kept = λ k i. absurd (never tt k (sym i ∙ d));
          quoted = λ r i.
              let same : q ≡ r = cc in
              rw (← same) (subst (λ (x : Graph). AllStated x q before after) read-plan s);
        }
