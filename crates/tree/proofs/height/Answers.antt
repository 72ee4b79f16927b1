-- `tree::height` meets its contract. The invariant: x is k transitions up from s, and by whatever ranks s can be climbed from, they have risen at each (`Climbing`). Fewer than
-- 512 lead up, so the measure is what is left of 512. Assumes nothing.
use Prim.Native.Nat.{◌<◌}
use mathlib.Core.Path.{◌≡◌, ap, ◌∙◌}
use native.Mathlib.Nat.{le_refl}
use native.Mathlib.Numerals.{add-one}
use native.Mathlib.Omega.{arith}
use Rattle.search.specs.Arrays.{at}
use Rattle.tree.specs.Tree.{up}
use Rattle.tree.proofs.Climbing.{Climbing, climbing-fits, climbing-turn, climbs}
use Rattle.tree.proofs.height.Goals as goal

pub bounds-via-x : goal.bounds-via-x
bounds-via-x c =
    let climbing : Climbing c.requires.0 c.requires.1 c.args.from.now c.requires.2 c.args.via.now c.args.s c.loop-x.k =
    let p = c.requires in c.loop-x.invariant.1 p.0 p.1 p.2 p.3 in
    let x_below : c.loop-x.x < 512 =
    omega (arith, c.loop-x.invariant.0, (climbing.below c.loop-x.k (le_refl c.loop-x.k)).0, c.requires.3.states) in
    omega (arith, x_below)

pub bounds-via-x-in-loop-x : goal.bounds-via-x-in-loop-x
bounds-via-x-in-loop-x c =
    let climbing : Climbing c.requires.0 c.requires.1 c.args.from.now c.requires.2 c.args.via.now c.args.s c.loop-x.k =
    let p = c.requires in c.loop-x.invariant.1 p.0 p.1 p.2 p.3 in
    let x_below : c.loop-x.x < 512 =
    omega (arith, c.loop-x.invariant.0, (climbing.below c.loop-x.k (le_refl c.loop-x.k)).0, c.requires.3.states) in
    omega (arith, x_below)

pub overflow_add-k : goal.overflow_add-k
overflow_add-k c =
    let climbing : Climbing c.requires.0 c.requires.1 c.args.from.now c.requires.2 c.args.via.now c.args.s c.loop-x.k =
    let p = c.requires in c.loop-x.invariant.1 p.0 p.1 p.2 p.3 in
    let k_below : c.loop-x.k < 512 =
    omega (arith, climbing-fits c.requires.3 climbing, c.requires.3.states) in
    omega (arith, k_below)

pub loop-x-smaller : goal.loop-x-smaller
loop-x-smaller c =
    let climbing : Climbing c.requires.0 c.requires.1 c.args.from.now c.requires.2 c.args.via.now c.args.s c.loop-x.k =
    let p = c.requires in c.loop-x.invariant.1 p.0 p.1 p.2 p.3 in
    let k_below : c.loop-x.k < 512 =
    omega (arith, climbing-fits c.requires.3 climbing, c.requires.3.states) in
    omega (arith, k_below)

pub loop-x-preserved : goal.loop-x-preserved
loop-x-preserved c =
    let via-is : c.from.result ≡ at c.args.via.now (up c.args.from.now c.args.via.now c.args.s c.loop-x.k) =
    c.from.ensures ∙ ap (at c.args.via.now) c.loop-x.invariant.0 in
    rw add-one (
      c.from-x.ensures ∙ ap (at c.args.from.now) via-is,
      λ n m rank p. climbing-turn p (c.loop-x.invariant.1 n m rank p) (rw c.loop-x.invariant.0 at c.loop-x-test.true),
    )

pub returns : goal.returns
returns c = λ n m rank p. climbs p (c.loop-x.invariant.1 n m rank p) (rw c.loop-x.invariant.0 at c.loop-x-test.false)
