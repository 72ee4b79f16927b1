-- `spreading::spread` meets its contract. The loop's invariant: in whatever graph it is, the keys are kept; and the pending states are states.
-- Assumes nothing.
use Prim.Native.Nat.{ℕ, ◌<◌}
use mathlib.Core.List.{List}
use native.Mathlib.Omega.{arith}
use mathlib.Core.Path.{◌≡◌}
use Rattle.search.specs.Arrays.{arrays, at, Bounded}
use Rattle.search.specs.Chain.{Chains}
use Rattle.keys.specs.Keys.{Weighed, Spreading}
use Rattle.spreading.proofs.spread.Goals as goal

pub loop-init : goal.loop-init
loop-init c = let s = c.seed.ensures in (s.1, λ m to b w h. s.0 m _ to _)

pub loop-preserved : goal.loop-preserved
loop-preserved c =
    let taken : (0 < c.loop.heap.size) × (c.in-Some.s ≡ at c.loop.heap.items 0) = c.in-Some.ensures in
    let below : c.in-Some.s < c.args.n = omega (arith, taken.1, c.loop.invariant.0 0) in
    let a = c.args in
    let spreading : (m : ℕ) (to : List ℕ) → Bounded (arrays a.n m a.marks.now a.from.now to) → Weighed m a.weight.now a.close.now
    → Chains to m a.into.now.head a.into.now.link → Spreading (arrays a.n m a.marks.now a.from.now to) a.weight.now a.close.now a.into.now.head a.into.now.link c.loop.key
    = λ m to b w h. record { keyed = record { bounded = b; weighed = w; keys = c.loop.invariant.1 m to b w h }; chains = h } in
    let p = c.requires.by_index in
    let o = c.relax_into-nearest.ensures in
    let h = c.pop.ensures.1 _ c.loop.invariant.0 in (
      (o a.n p.0 p.1 a.close.now below (spreading p.0 p.1 p.2 p.3 p.4) h).1,
      λ m to b w q. (o a.n m to a.close.now below (spreading m to b w q) h).0,
    )
