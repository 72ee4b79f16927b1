-- `search::route::trace` meets its contract: the transition stands in the first place, and the route from where it leads behind it (`begun_all`). Assumes nothing.
use Prim.Native.Nat.{◌≤◌}
use native.Mathlib.Omega.{arith}
use lib.ListN.{length}
use Rattle.search.proofs.Tracing.{readable-at, begun_all}
use Rattle.search.proofs.route.trace.Goals as goal

pub overflow_add-result : goal.overflow_add-result
overflow_add-result c = let p = c.requires in
    let x = c.follow-k.ensures p.0 p.1 p.2 p.3 (readable-at c.from.ensures p.6) in
    omega (arith, x.fits, p.6.linked.bounded.states)

pub returns : goal.returns
returns c =
    let some : 1 ≤ length c.args.walk.now =
    let p = c.requires in omega (arith, p.4, p.6.linked.bounded.some) in
    let e = c.from.ensures in
    λ n m from close r. begun_all some e (c.follow-k.ensures n m from close (readable-at e r))
