-- A list of calls on lent slices: its promise from those of the calls that are made. What is no plan, what is no list of calls, and a list that is refused leave
-- every place. A list that is made is a run from the plan of an accepted fresh that was stored, and the quotations are of the plan value that the slices then
-- hold, so of the run's plan (`one`). That plan is within the limits after every list, and there are places, so its quotation is not refused (`not_refused`), and
-- the quotes' numbers fit (`replay_small`). Assumes nothing.
use mathlib.Core.Bool.{Bool, true, false}
use mathlib.Core.List.{List, map}
use mathlib.Core.Path.{◌≡◌, refl, sym, ap, ap₂, ◌∙◌, subst}
use Prim.Native.Nat.{ℕ, ◌/◌, ◌≤◌, ◌<◌}
use native.Mathlib.Omega.{arith}
use borrow.Author.Tests.{leb-true, ltb-false}
use lib.Dec.{leb}
use lib.ListN.{length}
use Rattle.graph.specs.Graph.{Graph}
use Rattle.arrays.specs.Tables.{over}
use Rattle.rules.specs.declared.FourQuotes.{FourQuotes}
use Rattle.rules.specs.Answer.{Quotations}
use Rattle.std.proofs.Common.{Ok, Err}
use Rattle.rules.specs.declared.Refusal.{Refusal}
use Rattle.rules.specs.Calls.{Call, run, run_fresh}
use Rattle.rules.specs.Limits.{state_count_ok, within}
use Rattle.rules.specs.Quotations.{AllStated, QuotesAll}
use Rattle.rules.specs.Refusal.{Result, accepted, code}
use Rattle.rules.specs.Rules.{fresh_rule, fresh_graph, next}
use Rattle.rules.specs.Table.{NoneHolds}
use Rattle.rules.proofs.Basic.{fresh_done}
use Rattle.rules.proofs.Figures.{listed_within}
use Rattle.rules.proofs.Results.{and_true, never, not-false}
use Rattle.rules.proofs.Tables.{accepted_only}
use Rattle.rules.proofs.Tabulated.{all-at}
use Rattle.plan.specs.declared.Edited.{Edited}
use Rattle.arrays.specs.declared.Plan.{Plan}
use Rattle.plan.specs.Promise.{Edit, next_value}
use Rattle.plan.specs.View.{view, no_plan}
use Rattle.quotation.proofs.Kept.{all_done, all_not_refused}
use Rattle.rules.proofs.Small.{four_small}
use Rattle.answers.specs.Answered.{AllSmall, AllFit, all_numbers_in, Answered}
use Rattle.calls.specs.Rows.{replay_rows, replay_rule, asked}
use Rattle.calls.specs.Slices.{item_at, is_call, are_calls, calls_in}
use Rattle.slices.specs.Lent.{Slices, has_room, plan_in, storing}
use Rattle.slices.proofs.Stores.{true-false}
use Rattle.replay.specs.Replayed.{OneList, LentReplay, places}
use Rattle.runs.specs.Turns.{Callable, InTurn, LentTurns, run_value}
use Rattle.runs.proofs.Runs.{view-value}

module _ (n : ℕ) (kinds arguments octets answers : List ℕ) (s : Slices) (walks out : List ℕ) where
  -- a list that is not made leaves every place
  pub replay_told : (r : ℕ) → r ≡ asked (has_room s) (are_calls kinds arguments octets) (replay_rule n kinds answers walks out) → r < 256
      → LentReplay n kinds arguments octets (places answers s walks out) (places answers s walks out) r
  replay_told r e l =
      let o : Result (Unit {0}) = replay_rule n kinds answers walks out in
      let by : (x y : Bool) → has_room s ≡ x → are_calls kinds arguments octets ≡ y → r ≡ asked x y o =
      λ x y h i. e ∙ ap₂ (λ (b d : Bool). asked b d o) h i in
      record {
        short = λ h. (by false (are_calls kinds arguments octets) h refl, refl);
        no-calls = λ h i. (by true false h i, refl);
        answer = λ h i. by true true h i;
        kept = λ _ _ k f. refl;
        made = λ h i f. absurd (let z : r ≡ 256 = by true true h i ∙ ap (λ (v : Result (Unit {0})). code v) f in omega arith);
      }

  module _ (room : has_room s ≡ true) (are : are_calls kinds arguments octets ≡ true) where
    module _ (i : replay_rule n kinds answers walks out ≡ accepted tt) where
      none-holds : NoneHolds (replay_rows n kinds answers walks out)
      unfolding replay_rule
      none-holds = (accepted_only (replay_rows n kinds answers walks out) tt tt i).0

      n_ok : state_count_ok n ≡ true
      n_ok = not-false (state_count_ok n) none-holds.0

      pub callable : Callable kinds arguments octets answers
      unfolding are_calls
      callable =
          let (b, d) = and_true (leb (length kinds) (length arguments / 4)) _ are in
          record {
            four = leb-true (length kinds) (length arguments / 4) b;
            room = ltb-false (length answers) (length kinds) none-holds.1.0;
            each = λ j l. all-at (is_call (length octets)) (length kinds) (item_at kinds arguments) d j l;
          }

      walks_fit : 2048 ≤ length walks
      walks_fit = ltb-false (length walks) 2048 none-holds.1.1.0

      pub replay_fits : (a : Quotations) → AllFit a out
      replay_fits a q g = ltb-false (length out) 16 none-holds.1.1.1.0

      -- the fresh plan was stored, the calls made in turn, and the plan that the slices then hold quoted
      module _ (f : Edited) (x : Edit no_plan (fresh_rule n) 0 f) (b : Slices) (st : (b ≡ storing f.plan s) × (plan_in b ≡ f.plan)) (answers' : List ℕ) (t : Slices)
          (l : LentTurns (calls_in kinds arguments octets) answers answers' b t) (p : Plan) (e : p ≡ plan_in t) (left : List ℕ) where
        abbrev calls : List Call
        calls = calls_in kinds arguments octets

        turns : InTurn f.plan calls answers answers' p
        turns = subst (λ (z : Plan). InTurn f.plan calls answers answers' z) (sym e) (subst (λ (z : Plan). InTurn z calls answers answers' (plan_in t)) st.1 l.turns)

        from_fresh : view f.plan ≡ fresh_graph n
        from_fresh = x.plan ∙ ap (next (view no_plan)) (fresh_done n n_ok)

        last : view p ≡ (run_fresh n calls).last
        last = ap view turns.whole ∙ view-value f.plan calls ∙ ap (λ (g : Graph). (run g calls).last) from_fresh

        one : (a : Quotations) (q : FourQuotes) → QuotesAll (view p) walks left a → a ≡ Ok q → OneList n calls answers answers' p q walks left
        one a q y g =
            record {
              answers = turns.answers ∙ ap (λ (z : Graph). over (map code (run z calls).answers) answers) from_fresh;
              plan = last;
              whole = turns.whole ∙ ap (λ (z : Plan). run_value z calls) (x.whole ∙ ap (next_value no_plan) (fresh_done n n_ok));
              quoted = subst (λ (z : Graph). AllStated z q walks left) last (y.quoted q g);
            }

        not_refused : (a : Quotations) (k : Refusal) → QuotesAll (view p) walks left a → a ≡ Err k → ⊥
        not_refused a k y g = all_not_refused (view p) walks left a k y g (all_done (view p) walks (ap within last ∙ listed_within n calls n_ok) walks_fit)

        -- what is quoted is within the limits
        pub replay_small : (a : Quotations) → QuotesAll (view p) walks left a → AllSmall a
        replay_small a y q g = four_small (run_fresh n calls).last (listed_within n calls n_ok) q walks left (one a q y g).quoted

        pub replay_made : (a : Quotations) (out' : List ℕ) (r : ℕ) → QuotesAll (view p) walks left a → Answered (all_numbers_in a) out out' r
            → LentReplay n kinds arguments octets (places answers s walks out) (places answers' t left out') r
        replay_made (Err k) out' r y z = absurd (not_refused (Err k) k y refl)
        replay_made (Ok q) out' r y z =
            let first-is : b ≡ storing (plan_in b) s = st.0 ∙ ap (λ (v : Plan). storing v s) (sym st.1) in
            record {
              short = λ g. true-false (has_room s) room g;
              no-calls = λ _ g. true-false (are_calls kinds arguments octets) are g;
              answer = λ _ _. z.0 ∙ ap (λ (v : Result (Unit {0})). code v) (sym i);
              kept = λ _ _ k g. absurd (never tt k (sym g ∙ i));
              made = λ _ _ _. record {
                value = p;
                quotes = q;
                claim = one (Ok q) q y refl;
                stored = (l.whole s first-is ∙ ap (λ (v : Plan). storing v s) (sym e), sym e);
                figures = z.1;
              };
            }
