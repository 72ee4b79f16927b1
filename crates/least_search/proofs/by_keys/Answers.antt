-- `least_search::by_keys` meets its contract: keys that spread and are settled by the best first step give the figure, and a route is read off them (LeastFigure). Assumes nothing.
use native.Mathlib.Omega.{arith}
use Rattle.search.specs.Arrays.{Arrays, arrays}
use Rattle.keys.specs.Keys.{Keyed, Ready}
use Rattle.least_search.proofs.LeastFigure.{taken, readable, least-quoted, none-quoted}
use Rattle.least_search.proofs.by_keys.Goals as goal

pub returns-then-first-ge-FAR : goal.returns-then-first-ge-FAR
returns-then-first-ge-FAR c =
    let graph : Arrays =
    arrays c.args.n c.args.m c.args.marks.now c.args.from.now c.args.to.now in
    let keyed : Keyed graph c.args.weight.now c.args.close.now c.spread.new.key =
    let p = c.requires.bounded in
    record { bounded = p.0; weighed = p.1; keys = c.spread.ensures _ _ p.0 p.1 c.chains-into.ensures } in
    let ready : Ready graph c.args.weight.now c.args.close.now c.settle-first.result c.settle-first.new.key =
    c.settle-first.ensures c.args.close.now keyed in
    λ g held. none-quoted ready held (omega (arith, c.if-first-ge-FAR.true)) c.args.walk.now

pub trace-k-requires : goal.trace-k-requires
trace-k-requires c =
    let graph : Arrays =
    arrays c.args.n c.args.m c.args.marks.now c.args.from.now c.args.to.now in
    let keyed : Keyed graph c.args.weight.now c.args.close.now c.spread.new.key =
    let p = c.requires.bounded in
    record { bounded = p.0; weighed = p.1; keys = c.spread.ensures _ _ p.0 p.1 c.chains-into.ensures } in
    let ready : Ready graph c.args.weight.now c.args.close.now c.settle-first.result c.settle-first.new.key =
    c.settle-first.ensures c.args.close.now keyed in
    let a = c.args in
    let r = ready in
    (a.n, a.m, a.from.now, a.close.now, c.requires.bounded.2, taken r (omega (arith, c.if-first-ge-FAR.false)), readable r c.requires.chains (omega (arith, c.if-first-ge-FAR.false)))

pub returns : goal.returns
returns c =
    let graph : Arrays =
    arrays c.args.n c.args.m c.args.marks.now c.args.from.now c.args.to.now in
    let keyed : Keyed graph c.args.weight.now c.args.close.now c.spread.new.key =
    let p = c.requires.bounded in
    record { bounded = p.0; weighed = p.1; keys = c.spread.ensures _ _ p.0 p.1 c.chains-into.ensures } in
    let ready : Ready graph c.args.weight.now c.args.close.now c.settle-first.result c.settle-first.new.key =
    c.settle-first.ensures c.args.close.now keyed in
    let t = c.trace-k in
    let a = c.args in
    let r = ready in
    λ g held.
    least-quoted r held c.requires.chains (omega (arith, c.if-first-ge-FAR.false)) c.trace-k.auto.walk c.requires.bounded.2
    (t.ensures a.n a.m a.from.now a.close.now (readable r c.requires.chains (omega (arith, c.if-first-ge-FAR.false))))
