-- `search::route::follow` meets its contract. The invariant: of whatever arrays and closes a route from s can be read off, what is written is `Tracing`; each turn is
-- `traced-turn`, and at a final state it is the route. A route is shorter than the places, so the measure is what is left of them. Assumes nothing.
use Prim.Native.Nat.{suc, ◌<◌}
use mathlib.Core.Path.{refl, sym, ◌∙◌}
use native.Mathlib.Numerals.{add-one}
use native.Mathlib.Omega.{arith}
use lib.ListN.{length-set}
use Rattle.search.specs.Arrays.{UnfinishedIn}
use Rattle.search.proofs.Tracing.{Tracing, traced-first, traced-below, traced_room, traced-turn, traced-all}
use Rattle.search.proofs.route.follow.Goals as goal

pub loop-t-init : goal.loop-t-init
loop-t-init c = let r = c.requires.5 in
    (refl, omega (arith, r.below, r.linked.bounded.states), omega arith, λ n m from close r. traced-first r c.args.walk.now)

pub accounting-t-requires : goal.accounting-t-requires
accounting-t-requires c =
    let p = c.requires in
    let r = p.5 in
    let b = r.linked.bounded in
    let traced : Tracing r c.loop-t.x c.loop-t.k c.args.walk.now c.loop-t.walk = c.loop-t.invariant.3 p.0 p.1 p.2 p.3 r in
    let u : UnfinishedIn c.args.marks.now c.loop-t.x = sym c.is_final.ensures ∙ c.loop-t-test.true in (
      _,
      c.loop-t.invariant.1,
      b.count,
      r.linked.chains,
      (λ t q. (omega (arith, b.arrives t q, b.states), r.weights t q, r.values _ (b.arrives t q))),
      r.leading.accounted c.loop-t.x (traced-below r traced) (traced.within u) u,
    )

pub bounds-walk-k : goal.bounds-walk-k
bounds-walk-k c =
    let p = c.requires in
    let q = c.accounting-t.ensures in
    let traced : Tracing p.5 c.loop-t.x c.loop-t.k c.args.walk.now c.loop-t.walk = c.loop-t.invariant.3 p.0 p.1 p.2 p.3 p.5 in
    let u : UnfinishedIn c.args.marks.now c.loop-t.x = sym c.is_final.ensures ∙ c.loop-t-test.true in
    let room : suc c.loop-t.k < p.0 = traced_room p.5 traced _ u (q.2 _ p.5.linked.chains) q.1 in
    omega (arith, p.4)

pub loop-t-smaller : goal.loop-t-smaller
loop-t-smaller c =
    let p = c.requires in
    let q = c.accounting-t.ensures in
    let traced : Tracing p.5 c.loop-t.x c.loop-t.k c.args.walk.now c.loop-t.walk = c.loop-t.invariant.3 p.0 p.1 p.2 p.3 p.5 in
    let u : UnfinishedIn c.args.marks.now c.loop-t.x = sym c.is_final.ensures ∙ c.loop-t-test.true in
    let room : suc c.loop-t.k < p.0 = traced_room p.5 traced _ u (q.2 _ p.5.linked.chains) q.1 in
    omega (arith, p.4)

pub loop-t-preserved : goal.loop-t-preserved
loop-t-preserved c =
    let p = c.requires in
    let b = p.5.linked.bounded in
    let q = c.accounting-t.ensures in
    let traced : Tracing p.5 c.loop-t.x c.loop-t.k c.args.walk.now c.loop-t.walk = c.loop-t.invariant.3 p.0 p.1 p.2 p.3 p.5 in
    let u : UnfinishedIn c.args.marks.now c.loop-t.x = sym c.is_final.ensures ∙ c.loop-t-test.true in
    let leaves = q.2 _ p.5.linked.chains in
    let room : suc c.loop-t.k < p.0 = traced_room p.5 traced _ u leaves q.1 in (
      length-set c.loop-t.walk _ _ ∙ c.loop-t.invariant.0,
      omega (arith, c.from-x.ensures, b.arrives _ leaves.listed, b.states),
      omega (arith, b.states),
      λ n m from close r. rw (c.from-x.ensures, add-one)
          (traced-turn r (c.loop-t.invariant.3 n m from close r) _ u (q.2 _ r.linked.chains) q.1 (omega (arith, p.4))),
    )

pub returns : goal.returns
returns c = λ n m from close r. traced-all r (c.loop-t.invariant.3 n m from close r) (sym c.is_final.ensures ∙ c.loop-t-test.false)
