-- `runs::in_turn`. The invariant: slices and answers are those after the calls passed (`LentAfter`), none at first (`lent_none`); a turn is one call more, by
-- the promise of `obey` (`lent-more`). Assumes nothing.
use Prim.Native.Nat.{ℕ}
use mathlib.Core.List.{map}
use mathlib.Core.Path.{◌≡◌, refl, ap, ◌∙◌}
use native.Mathlib.Omega.{arith}
use borrow.Author.Rules.{rules}
use lib.ListN.{length, length-set}
use Rattle.arrays.specs.Tables.{over}
use Rattle.rules.specs.Calls.{Call, run}
use Rattle.rules.specs.Image.{tabulate}
use Rattle.rules.specs.Refusal.{code}
use Rattle.arrays.specs.declared.Plan.{Plan}
use Rattle.plan.specs.View.{view}
use Rattle.calls.specs.Slices.{call_in, item_at, calls_in}
use Rattle.runs.specs.Turns.{run_value}
use Rattle.slices.specs.Lent.{slices, plan_in}
use Rattle.slices.proofs.Stores.{room_of}
use Rattle.runs.proofs.Turns.{lent_none, lent-more}
use Rattle.runs.proofs.in_turn.Goals as goal

pub loop-turn-init : goal.loop-turn-init
loop-turn-init c = (search rules, refl, refl, refl, refl, lent_none _ _ _ (room_of _ c.requires.1))

pub loop-turn-preserved : goal.loop-turn-preserved
loop-turn-preserved c =
    let a = c.args in
    let l = c.loop-turn in (
      omega arith,
      length-set l.answers _ _ ∙ l.invariant.1,
      c.obey.auto.counts ∙ l.invariant.2,
      c.obey.auto.states ∙ l.invariant.3,
      c.obey.auto.fields ∙ l.invariant.4,
      lent-more (λ k. call_in a.octets.now (item_at a.kinds.now a.arguments.now k)) a.answers.now (slices a.counts.now a.states.now a.fields.now) l.turn l.answers (slices l.counts l.states l.fields) _ c.obey.result
          (omega (arith, c.requires.0.room)) l.invariant.5 c.obey.ensures,
    )

pub returns : goal.returns
unfolding calls_in
returns c =
    let a = c.args in
    let l = c.loop-turn in
    let e : l.turn ≡ length a.kinds.now = omega arith in
    let f : ℕ → Call = λ k. call_in a.octets.now (item_at a.kinds.now a.arguments.now k) in
    let p : Plan = plan_in (slices a.counts.now a.states.now a.fields.now) in
    record {
      turns = record {
        answers = l.invariant.5.run.answers ∙ ap (λ (n : ℕ). over (map code (run (view p) (tabulate n f)).answers) a.answers.now) e;
        whole = l.invariant.5.run.whole ∙ ap (λ (n : ℕ). run_value p (tabulate n f)) e;
      };
      whole = l.invariant.5.whole;
    }
