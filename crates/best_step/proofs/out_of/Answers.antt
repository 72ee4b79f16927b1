-- `best_step::out_of` meets its contract. The invariant: of whatever transitions the chains are, and whatever states the step was the best of, it is the best of these and of
-- the transitions of the chain that were passed (`Choosing`). The measure is what is left of the numbers of transitions. Assumes nothing.
use Prim.Native.Nat.{ℕ, ◌+◌}
use mathlib.Core.Path.{◌≡◌, ap}
use Rattle.search.specs.Arrays.{at}
use Rattle.search.proofs.Chained.{followed-next}
use Rattle.best_step.specs.Steps.{weighs}
use Rattle.best_step.proofs.Choosing.{chosen, passed_over, chosen-all}
use Rattle.best_step.proofs.out_of.Goals.{then-not-better, else-not-better}
use Rattle.best_step.proofs.out_of.Goals as goal

pub loop-t-preserved : goal.loop-t-preserved
loop-t-preserved c =
    let target : c.from.result ≡ at c.args.to.now c.loop-t.t =
    c.from.ensures in
    let a = c.args in
    let t = c.loop-t.t in
    let e : at a.weight.now t + at a.value.now c.from.result ≡ weighs a.to.now a.weight.now a.value.now t =
    ap (λ (x : ℕ). at a.weight.now t + at a.value.now x) target in
    let b = c.better.ensures in (
      λ m from chains. followed-next chains _ (c.loop-t.invariant.0 m from chains) c.loop-t-test.true tt c.from-t-in-loop-t.ensures,
      λ m from chains inside q.
          let r = c.loop-t.invariant.1 m from chains inside q in
          elim c.if-not-better.branch [
            | then-not-better w ↦ rw (w.transition-is, w.cost-is, e) (chosen _ m from _ _ _ inside _ chains r c.loop-t-test.true c.from-t-in-loop-t.ensures (rw e at (b.no w.if-not-better.true)))
            | else-not-better w ↦ rw (w.transition-is, w.cost-is) (let (p, d) = rw e at (b.yes w.if-not-better.false) in passed_over _ m from _ _ _ inside _ chains r c.loop-t-test.true c.from-t-in-loop-t.ensures p d)
          ],
    )

pub returns : goal.returns
returns c = λ m from small chains inside b. chosen-all _ m from _ _ _ inside _ small c.loop-t-test.false (c.loop-t.invariant.1 m from chains inside b)
