-- `tree::climb` meets its contract. The invariant: x is k - i transitions up from s, and the places from i on hold those transitions (`Writing`).
-- Assumes nothing.
use Prim.Native.Nat.{ℕ, suc, ◌-◌, ◌≤◌, ◌<◌}
use mathlib.Core.Path.{◌≡◌, ap, ◌∙◌}
use native.Mathlib.Omega.{arith}
use lib.ListN.{length, length-set}
use lib.Seq.{drop-set-lt}
use Rattle.search.specs.Arrays.{at}
use Rattle.tree.specs.Tree.{up, Climbs}
use Rattle.tree.proofs.Climbing.{writing_turn}
use Rattle.tree.proofs.climb.Goals as goal

pub bounds-via-x : goal.bounds-via-x
bounds-via-x c =
    let way : Climbs c.requires.0 c.requires.1 c.args.from.now c.requires.2 c.args.via.now c.args.s c.height-k.result =
    let p = c.requires in c.height-k.ensures p.0 p.1 p.2 p.4 in
    let height : ℕ =
    c.height-k.result - c.loop-i.i in
    let x_below : c.loop-i.x < 512 =
    omega (arith, c.loop-i.invariant.1, (way.below height (omega arith)).0, c.requires.4.states) in
    omega (arith, x_below)

pub offset_bounds-walk-i : goal.offset_bounds-walk-i
offset_bounds-walk-i c =
    let way : Climbs c.requires.0 c.requires.1 c.args.from.now c.requires.2 c.args.via.now c.args.s c.height-k.result =
    let p = c.requires in c.height-k.ensures p.0 p.1 p.2 p.4 in
    let i-below : (c.loop-i.i ≤ 512) × (c.loop-i.i ≤ length c.loop-i.walk) =
    let p = c.requires in
    let f = way.fits in
    (omega (arith, p.4.states), omega (arith, p.3, c.loop-i.invariant.0)) in
    omega (arith, i-below.0)

pub bounds-walk-i : goal.bounds-walk-i
bounds-walk-i c =
    let way : Climbs c.requires.0 c.requires.1 c.args.from.now c.requires.2 c.args.via.now c.args.s c.height-k.result =
    let p = c.requires in c.height-k.ensures p.0 p.1 p.2 p.4 in
    let i-below : (c.loop-i.i ≤ 512) × (c.loop-i.i ≤ length c.loop-i.walk) =
    let p = c.requires in
    let f = way.fits in
    (omega (arith, p.4.states), omega (arith, p.3, c.loop-i.invariant.0)) in
    omega (arith, i-below.1)

pub bounds-via-x-in-loop-i : goal.bounds-via-x-in-loop-i
bounds-via-x-in-loop-i c =
    let way : Climbs c.requires.0 c.requires.1 c.args.from.now c.requires.2 c.args.via.now c.args.s c.height-k.result =
    let p = c.requires in c.height-k.ensures p.0 p.1 p.2 p.4 in
    let height : ℕ =
    c.height-k.result - c.loop-i.i in
    let x_below : c.loop-i.x < 512 =
    omega (arith, c.loop-i.invariant.1, (way.below height (omega arith)).0, c.requires.4.states) in
    omega (arith, x_below)

pub bounds-from-from : goal.bounds-from-from
bounds-from-from c =
    let way : Climbs c.requires.0 c.requires.1 c.args.from.now c.requires.2 c.args.via.now c.args.s c.height-k.result =
    let p = c.requires in c.height-k.ensures p.0 p.1 p.2 p.4 in
    let height : ℕ =
    c.height-k.result - c.loop-i.i in
    let via-is : c.from.result ≡ at c.args.via.now (up c.args.from.now c.args.via.now c.args.s height) =
    c.from.ensures ∙ ap (at c.args.via.now) c.loop-i.invariant.1 in
    let via-below : c.from.result < 2048 =
    omega (arith, via-is, (way.listed height (omega arith)).0, c.requires.4.count) in
    omega (arith, via-below)

pub loop-i-preserved : goal.loop-i-preserved
loop-i-preserved c =
    let way : Climbs c.requires.0 c.requires.1 c.args.from.now c.requires.2 c.args.via.now c.args.s c.height-k.result =
    let p = c.requires in c.height-k.ensures p.0 p.1 p.2 p.4 in
    let i-below : (c.loop-i.i ≤ 512) × (c.loop-i.i ≤ length c.loop-i.walk) =
    let p = c.requires in
    let f = way.fits in
    (omega (arith, p.4.states), omega (arith, p.3, c.loop-i.invariant.0)) in
    let height : ℕ =
    c.height-k.result - c.loop-i.i in
    let via-is : c.from.result ≡ at c.args.via.now (up c.args.from.now c.args.via.now c.args.s height) =
    c.from.ensures ∙ ap (at c.args.via.now) c.loop-i.invariant.1 in
    let a = c.args in
    let l = c.loop-i in
    let k : ℕ = c.height-k.result in
    let u : ℕ = k - l.i in
    let e : l.x ≡ up a.from.now a.via.now a.s u = l.invariant.1 in
    let p : suc (l.i - 1) ≡ l.i = omega arith in
    let q : k - (l.i - 1) ≡ suc u = omega arith in
    let w = writing_turn a.from.now a.via.now a.s k (l.i - 1) u l.walk (omega (arith, i-below.1)) (omega arith) (rw p l.invariant.2) in (
      length-set l.walk _ _ ∙ l.invariant.0,
      rw q (c.from-x.ensures ∙ ap (at a.from.now) via-is),
      rw e w,
      drop-set-lt k l.walk (l.i - 1) _ (omega arith) ∙ l.invariant.3,
    )
