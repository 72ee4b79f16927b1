-- Demand 3 of the four figures, as a contract: a list of calls in lent slices is made in turn from a fresh plan that is stored in lent slices, and the plan after it is quoted. Counts
-- for a class are quoted of the slices by calls of their own (binding/specs). Assumes nothing.
use Rattle.std.specs.Prelude.{true, false, List, ◌≡◌, ℕ}
use Rattle.arrays.specs.Tables.{over}
use Rattle.rules.specs.declared.FourQuotes.{FourQuotes}
use Rattle.rules.specs.declared.Refusal.{Refusal}
use Rattle.rules.specs.Calls.{Call, run_fresh}
use Rattle.rules.specs.Quotations.{AllStated}
use Rattle.rules.specs.Refusal.{Result, accepted, refused, code}
use Rattle.rules.specs.Rules.{fresh_graph}
use Rattle.arrays.specs.declared.Plan.{Plan}
use Rattle.plan.specs.View.{view, laid, no_plan}
use Rattle.answers.specs.Answered.{four_numbers}
use Rattle.calls.specs.Rows.{replay_rule}
use Rattle.calls.specs.Slices.{are_calls, calls_in}
use Rattle.slices.specs.Lent.{Slices, has_room, plan_in, storing}
use Rattle.runs.specs.Turns.{answered, run_value}

-- "one claim about the whole list": the answers in their places, the plan value p, and the quotes with their walks
pub record OneList (n : ℕ) (calls : List Call) (before after : List ℕ) (p : Plan) (q : FourQuotes) (lent left : List ℕ) : Type 0 where
  -- "each call's answer and the plan after the list are those that document 01's rules give"
  pub answers : after ≡ answered n calls before
  pub plan : view p ≡ (run_fresh n calls).last
  pub whole : p ≡ run_value (laid no_plan (fresh_graph n)) calls
  -- "That plan is then quoted into n or more places": 512 for each figure
  pub quoted : AllStated (run_fresh n calls).last q lent left

-- the places that are lent to be written to: for the answers of the calls, for the plan, for the walks, and for the figures' numbers
pub record Places : Type 0 where
  pub answers : List ℕ
  pub plan : Slices
  pub walks : List ℕ
  pub out : List ℕ

-- the rule on those places
abbrev pub replaying : ℕ → List ℕ → Places → Result (Unit {0})
replaying n kinds p = replay_rule n kinds p.answers p.walks p.out

-- a list that was made: the one claim, with its plan stored and the numbers of its quotes put
pub record LentList (n : ℕ) (calls : List Call) (before after : Places) : Type 0 where
  pub value : Plan
  pub quotes : FourQuotes
  pub claim : OneList n calls before.answers after.answers value quotes before.walks after.walks
  pub stored : (after.plan ≡ storing value before.plan) × (plan_in after.plan ≡ value)
  pub figures : after.out ≡ over (four_numbers quotes) before.out

-- 255 where the slices are no plan's, 254 where they are no list of calls, and otherwise the rule's number. All but an accepted one leave every place
pub record LentReplay (n : ℕ) (kinds arguments octets : List ℕ) (before after : Places) (r : ℕ) : Type 0 where
  pub short : has_room before.plan ≡ false → (r ≡ 255) × (after ≡ before)
  pub no-calls : has_room before.plan ≡ true → are_calls kinds arguments octets ≡ false → (r ≡ 254) × (after ≡ before)
  pub answer : has_room before.plan ≡ true → are_calls kinds arguments octets ≡ true → r ≡ code (replaying n kinds before)
  pub kept : has_room before.plan ≡ true → are_calls kinds arguments octets ≡ true → (k : Refusal) → replaying n kinds before ≡ refused k
      → after ≡ before
  pub made : has_room before.plan ≡ true → are_calls kinds arguments octets ≡ true → replaying n kinds before ≡ accepted tt
      → LentList n (calls_in kinds arguments octets) before after

-- the places by what they hold
abbrev pub places : List ℕ → Slices → List ℕ → List ℕ → Places
places answers plan walks out = record { answers = answers; plan = plan; walks = walks; out = out }
