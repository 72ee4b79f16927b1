-- What the calls that make or change a plan promise of one in three lent slices. Assumes nothing.
use Rattle.std.specs.Prelude.{true, false, List, ◌≡◌, ℕ}
use Rattle.graph.specs.Graph.{Graph}
use Rattle.generated.specs.Generated.{generate_rule}
use Rattle.rules.specs.Refusal.{Result, accepted, refused, code}
use Rattle.rules.specs.Image.{read_image}
use Rattle.rules.specs.Calls.{Call, step}
use Rattle.rules.specs.Rules.{next, fresh_rule}
use Rattle.arrays.specs.declared.Plan.{Plan}
use Rattle.plan.specs.Promise.{next_value}
use Rattle.plan.specs.View.{view, laid, no_plan}
use Rattle.slices.specs.Lent.{Slices, has_room, plan_in, storing}

-- the slices after a call that was given the plan value p: the new plan in p's arrays, stored; after a refusal every place as it was
abbrev pub next_slices : Plan → Slices → Result Graph → Slices
next_slices p before (accepted g) = storing (laid p g) before
next_slices p before (refused k) = before

-- a call on lent slices that was given the plan value p and for which the rules give o: 255 where the slices are too short, and otherwise the
-- rules' number and plan, and every place by a definition
pub record LentEdit (p : Plan) (before after : Slices) (o : Result Graph) (r : ℕ) : Type 0 where
  pub short : has_room before ≡ false → (r ≡ 255) × (after ≡ before)
  pub answer : has_room before ≡ true → r ≡ code o
  pub plan : has_room before ≡ true → view (plan_in after) ≡ next (view (plan_in before)) o
  pub whole : has_room before ≡ true → after ≡ next_slices p before o

-- a call that makes a plan from nothing: a fresh one, a test plan, or the one that an image holds
abbrev pub LentFresh : ℕ → Slices → Slices → ℕ → Type 0
LentFresh n before after r = LentEdit no_plan before after (fresh_rule n) r

abbrev pub LentGenerate : ℕ → ℕ → ℕ → Slices → Slices → ℕ → Type 0
LentGenerate seed n m before after r = LentEdit no_plan before after (generate_rule seed n m) r

abbrev pub LentHeld : List ℕ → Slices → Slices → ℕ → Type 0
LentHeld image before after r = LentEdit no_plan before after (read_image image) r

-- a call on the plan that lent slices hold: its promise there, and the very plan value that they hold afterwards
pub record LentTurn (s t : Slices) (call : Call) (r : ℕ) : Type 0 where
  pub edit : LentEdit (plan_in s) s t (step (view (plan_in s)) call) r
  pub value : has_room s ≡ true → plan_in t ≡ next_value (plan_in s) (step (view (plan_in s)) call)
