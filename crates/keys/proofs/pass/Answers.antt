-- `keys::pass` meets its contract. The loop's invariant: over whatever graph the keys are, the pass is `Passing`; each turn is `pass-turn`.
-- Assumes nothing.
use mathlib.Core.Logic.{inl, inr}
use mathlib.Core.Path.{◌≡◌}
use native.Mathlib.Numerals.{add-one}
use native.Mathlib.Omega.{arith}
use Rattle.keys.proofs.Lowered.{pass-turn}
use Rattle.keys.proofs.pass.Goals.{then-relax, else-relax}
use Rattle.keys.proofs.pass.Goals as goal

pub relax-requires : goal.relax-requires
relax-requires c = let p = c.requires in
    let l = c.loop-t in
    let h = c.loop-t-test.true in
    let k = p.2 in
    let q = (l.invariant p.0 p.1 k).keys in
    let d = k.bounded.arrives l.t h in
    (omega (arith, k.bounded.count), omega (arith, k.bounded.leaves l.t h, k.bounded.states), omega (arith, k.bounded.states), k.weighed.most l.t, q.most _ d, q.sized)

pub loop-t-preserved : goal.loop-t-preserved
loop-t-preserved c = let l = c.loop-t in
    λ n close k. rw add-one (pass-turn k.bounded c.loop-t-test.true (l.invariant n close k) c.relax.ensures
    (elim c.if-relax.branch [
      | then-relax w ↦ inl (w.if-relax.true, w.lowered-is)
      | else-relax w ↦ inr (w.if-relax.false, w.lowered-is)
    ]))

pub returns : goal.returns
returns c = let l = c.loop-t in
    let e : l.t ≡ c.args.m = omega arith in
    λ n close k. rw e at (l.invariant n close k)
