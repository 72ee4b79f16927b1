-- `spreading::relax_into` meets its contract. The loop's invariant: in whatever graph the keys were spread, they are kept, the pending states are states, and the chain
-- of s is followed as far as t. A chain rises, so the measure is what is left of the numbers of transitions. Assumes nothing.
use Prim.Native.Nat.{◌<◌}
use mathlib.Core.Path.{refl}
use native.Mathlib.Omega.{arith}
use Rattle.search.specs.Arrays.{Arrays, arrays}
use Rattle.search.proofs.Chained.{followed-rises, followed-next}
use Rattle.keys.proofs.Lowered.{keys_offered}
use Rattle.spreading.proofs.relax_into.Invariants.{Relaxing}
use Rattle.spreading.proofs.relax_into.Goals as goal

pub overflow_add-x : goal.overflow_add-x
overflow_add-x c =
    let graph : Arrays =
    arrays c.requires.0 c.requires.1 c.args.marks.now c.args.from.now c.requires.2 in
    let relaxing : Relaxing graph c.args.weight.now c.requires.3 c.loop-t.key c.loop-t.heap.items c.args.s c.loop-t.t =
    let p = c.requires in c.loop-t.invariant p.0 p.1 p.2 p.3 p.4 p.5 p.6 in
    let p = c.requires in
    omega (arith, p.5.keyed.weighed.most c.loop-t.t, relaxing.keys.most c.args.s p.4)

pub offer-requires : goal.offer-requires
offer-requires c =
    let graph : Arrays =
    arrays c.requires.0 c.requires.1 c.args.marks.now c.args.from.now c.requires.2 in
    let relaxing : Relaxing graph c.args.weight.now c.requires.3 c.loop-t.key c.loop-t.heap.items c.args.s c.loop-t.t =
    let p = c.requires in c.loop-t.invariant p.0 p.1 p.2 p.3 p.4 p.5 p.6 in
    let behind-below : c.from-behind.result < 512 =
    let k = c.requires.5.keyed.bounded in
    omega (arith, c.from-behind.ensures, k.leaves c.loop-t.t (relaxing.followed.here c.loop-t-test.true).0, k.states) in
    (behind-below, relaxing.keys.sized)

pub bounds-marks-behind : goal.bounds-marks-behind
bounds-marks-behind c =
    let graph : Arrays =
    arrays c.requires.0 c.requires.1 c.args.marks.now c.args.from.now c.requires.2 in
    let relaxing : Relaxing graph c.args.weight.now c.requires.3 c.loop-t.key c.loop-t.heap.items c.args.s c.loop-t.t =
    let p = c.requires in c.loop-t.invariant p.0 p.1 p.2 p.3 p.4 p.5 p.6 in
    let behind-below : c.from-behind.result < 512 =
    let k = c.requires.5.keyed.bounded in
    omega (arith, c.from-behind.ensures, k.leaves c.loop-t.t (relaxing.followed.here c.loop-t-test.true).0, k.states) in
    omega (arith, behind-below)

pub loop-t-smaller : goal.loop-t-smaller
loop-t-smaller c =
    let graph : Arrays =
    arrays c.requires.0 c.requires.1 c.args.marks.now c.args.from.now c.requires.2 in
    let relaxing : Relaxing graph c.args.weight.now c.requires.3 c.loop-t.key c.loop-t.heap.items c.args.s c.loop-t.t =
    let p = c.requires in c.loop-t.invariant p.0 p.1 p.2 p.3 p.4 p.5 p.6 in
    omega (arith, c.from-t-in-loop-t.ensures, followed-rises c.requires.5.chains _ relaxing.followed c.loop-t-test.true)

pub loop-t-preserved : goal.loop-t-preserved
loop-t-preserved c = let b = c.from-behind.ensures in
    let o = c.offer.ensures in
    λ n m to close h w p.
    let r = c.loop-t.invariant n m to close h w p in
    let q = r.followed.here c.loop-t-test.true in
    record {
      keys = keys_offered c.loop-t.t _ w.keyed.bounded q.0 (rw q.1 refl) (rw b at o.0) r.keys;
      pending = o.1 _ (rw b (w.keyed.bounded.leaves c.loop-t.t q.0)) r.pending;
      followed = followed-next w.chains _ r.followed c.loop-t-test.true q.1 c.from-t-in-loop-t.ensures;
    }

pub returns : goal.returns
returns c = λ n m to close h w p. let r = c.loop-t.invariant n m to close h w p in (r.keys, r.pending)
