-- `open_search::show`: the walk was written down to the state that the transition leaves, and has a place more (`open_quoted`). Assumes nothing.
use Prim.Native.Nat.{◌≤◌, ◌<◌}
use native.Mathlib.Numerals.{add-one}
use native.Mathlib.Omega.{arith}
use Rattle.greatest_search.proofs.GreatestFigure.{climbable}
use Rattle.open_search.proofs.Opening.{open_quoted}
use Rattle.open_search.proofs.show.Goals as goal

pub offset_bounds-walk-k : goal.offset_bounds-walk-k
offset_bounds-walk-k c =
    let few : (c.climb-k.result < c.requires.0) × (c.requires.0 ≤ 512) =
    ((c.climb-k.ensures.0 c.requires.0 c.requires.1 c.args.searched.now.table.rank (rw c.from-s.ensures c.requires.4)).fits, c.requires.4.states) in
    omega (arith, few)

pub bounds-walk-k : goal.bounds-walk-k
bounds-walk-k c =
    let few : (c.climb-k.result < c.requires.0) × (c.requires.0 ≤ 512) =
    ((c.climb-k.ensures.0 c.requires.0 c.requires.1 c.args.searched.now.table.rank (rw c.from-s.ensures c.requires.4)).fits, c.requires.4.states) in
    omega (arith, few, c.requires.2, c.climb-k.auto.walk)

pub overflow_add-result : goal.overflow_add-result
overflow_add-result c =
    let few : (c.climb-k.result < c.requires.0) × (c.requires.0 ≤ 512) =
    ((c.climb-k.ensures.0 c.requires.0 c.requires.1 c.args.searched.now.table.rank (rw c.from-s.ensures c.requires.4)).fits, c.requires.4.states) in
    omega (arith, few)

pub overflow_add-result-2 : goal.overflow_add-result-2
overflow_add-result-2 c =
    let few : (c.climb-k.result < c.requires.0) × (c.requires.0 ≤ 512) =
    ((c.climb-k.ensures.0 c.requires.0 c.requires.1 c.args.searched.now.table.rank (rw c.from-s.ensures c.requires.4)).fits, c.requires.4.states) in
    omega (arith, few)

pub returns : goal.returns
returns c = λ n m marks to done room b r l p g held cost o.
    let way = c.climb-k.ensures in
    let here = c.from-s.ensures in
    let climbs = way.0 n m c.args.searched.now.table.rank (rw here (climbable {a = c.args.searched.now.table} b r (b.leaves _ l) p)) in
    rw add-one
    (open_quoted b {a = c.args.searched.now.table} r held cost c.args.t c.climb-k.result _ _ room c.climb-k.auto.walk l p o
    (rw here at climbs) (rw here at way.1))
