-- `keys::settle` meets its contract. The invariant: whatever the closes are that the keys are kept for, they are kept. A pass that lowers a key lowers their sum,
-- which is the measure; the last pass leaves the keys as they were. Assumes nothing.
use Prim.Native.Nat.{ℕ}
use mathlib.Core.List.{List}
use Rattle.search.specs.Arrays.{Arrays, arrays}
use Rattle.keys.specs.Keys.{Keyed, Passing}
use Rattle.keys.proofs.settle.Goals as goal

pub returns-then-not-pass : goal.returns-then-not-pass
returns-then-not-pass c =
    let graph : Arrays =
    arrays c.args.n c.args.m c.args.marks.now c.args.from.now c.args.to.now in
    let passed : (close : List ℕ) → Keyed graph c.args.weight.now close c.args.key.now → Passing graph c.args.weight.now close c.first-first.result.cost c.args.m c.loop-first.key c.pass.result c.pass.new.key =
    λ close k. c.pass.ensures c.args.n close (c.loop-first.invariant close k) in
    λ close k.
    let p = passed close k in
    let (same, settled) = p.kept c.if-not-pass.true in
    let b = k.bounded in
    record {
      keyed = record { bounded = b; weighed = k.weighed; keys = p.keys };
      first = rw same (c.first-first.ensures _ _ b.count c.requires.1 b.leaves);
      settled = settled;
    }

pub loop-first-preserved : goal.loop-first-preserved
loop-first-preserved c =
    let graph : Arrays =
    arrays c.args.n c.args.m c.args.marks.now c.args.from.now c.args.to.now in
    let passed : (close : List ℕ) → Keyed graph c.args.weight.now close c.args.key.now → Passing graph c.args.weight.now close c.first-first.result.cost c.args.m c.loop-first.key c.pass.result c.pass.new.key =
    λ close k. c.pass.ensures c.args.n close (c.loop-first.invariant close k) in
    λ close k. record { bounded = k.bounded; weighed = k.weighed; keys = (passed close k).keys }
