-- A list of calls made in turn. Document 01: "Each call is handed the plan that the one before it left, after a refused call the same plan again".
-- Assumes nothing.
use Rattle.std.specs.Prelude.{true, List, [], ◌∷◌, map, ◌≡◌, ℕ, ◌/◌, ◌≤◌, ◌<◌, length}
use Rattle.arrays.specs.Tables.{over}
use Rattle.rules.specs.Calls.{Call, step, run, run_fresh}
use Rattle.rules.specs.Refusal.{code}
use Rattle.arrays.specs.declared.Plan.{Plan}
use Rattle.plan.specs.Promise.{next_value}
use Rattle.plan.specs.View.{view}
use Rattle.calls.specs.Slices.{item_at, is_call}
use Rattle.slices.specs.Lent.{Slices, plan_in, storing}

-- the plan value after a list of calls, every place of it
unfoldable pub run_value : Plan → List Call → Plan
run_value p [] = p
run_value p (call ∷ calls) = run_value (next_value p (step (view p) call)) calls

-- the answers as numbers, at the front of the lent places; later places stay
abbrev pub answered : ℕ → List Call → List ℕ → List ℕ
answered n calls before = over (map code (run_fresh n calls).answers) before

-- the slices have what a list of calls needs
pub record Callable (kinds arguments octets answers : List ℕ) : Type 0 where
  pub four : length kinds ≤ length arguments / 4
  pub room : length kinds ≤ length answers
  pub each : (i : ℕ) → i < length kinds → is_call (length octets) (item_at kinds arguments i) ≡ true

-- the calls in turn from the plan value p
pub record InTurn (p : Plan) (calls : List Call) (before after : List ℕ) (r : Plan) : Type 0 where
  pub answers : after ≡ over (map code (run (view p) calls).answers) before
  pub whole : r ≡ run_value p calls

-- the calls of a list in turn on lent slices, from s to t: the answers and the plan value are the run's, and where s is other slices with a plan stored, t
-- is those with the last plan stored
pub record LentTurns (calls : List Call) (before after : List ℕ) (s t : Slices) : Type 0 where
  pub turns : InTurn (plan_in s) calls before after (plan_in t)
  pub whole : (lent : Slices) → s ≡ storing (plan_in s) lent → t ≡ storing (plan_in t) lent
