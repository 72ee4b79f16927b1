-- `shown::show_all`: the limits give what the chains, the search and each figure ask for. The invariant: the figures before place i are shown, each in its part (`Showing`). Assumes nothing.
use mathlib.Core.Path.{◌≡◌, refl}
use Prim.Native.Nat.{◌+◌, ◌*◌, ◌-◌}
use native.Mathlib.Numerals.{add-one}
use native.Mathlib.Omega.{arith}
use Rattle.search.specs.Chain.{Linked}
use Rattle.figures.specs.Figures.{arrays_of}
use Rattle.figures.proofs.Held.{bounded_in, from_small, linked_in}
use Rattle.arrays.specs.declared.Plan.{Plan}
use Rattle.shown.proofs.Parts.{cut-length, there, showing_part, all_shown, in_order}
use Rattle.shown.proofs.show_all.Goals as goal

pub chains-out-requires : goal.chains-out-requires
chains-out-requires c =
    let plan : Plan = c.args.p.now in
    let p = plan in ((bounded_in p c.requires.0).count, from_small p c.requires.0)

pub reach-reached-requires : goal.reach-reached-requires
reach-reached-requires c =
    let plan : Plan = c.args.p.now in
    let linked : Linked (arrays_of plan) c.chains-out.result.head c.chains-out.result.link =
    linked_in plan c.requires.0 c.chains-out.result c.chains-out.ensures in
    (plan.transitions, plan.from, linked)

pub figure-requires-clause-limits : goal.figure-requires-clause-limits
figure-requires-clause-limits c =
    let plan : Plan = c.args.p.now in
    let i = c.loop-i.i in
    let k : 512 * i + 512 - 512 * i ≡ 512 = omega arith in
    let l = cut-length (512 * i) c.loop-i.walks (there c.requires.1 c.loop-i-test.true c.loop-i.invariant) in
    let n = (bounded_in plan c.requires.0).states in
    (c.requires.0, rw k (omega (arith, l, n)))

pub figure-requires-clause-chains : goal.figure-requires-clause-chains
figure-requires-clause-chains c =
    let plan : Plan = c.args.p.now in
    let linked : Linked (arrays_of plan) c.chains-out.result.head c.chains-out.result.link =
    linked_in plan c.requires.0 c.chains-out.result c.chains-out.ensures in
    (c.chains-out.ensures, c.reach-reached.ensures plan.transitions plan.from linked)

pub loop-i-preserved : goal.loop-i-preserved
loop-i-preserved c = let i = c.loop-i.i in
    let f = c.figure in
    let s = rw (in_order i _ c.loop-i-test.true) at f.ensures in
    let k : 512 * i + 512 - 512 * i ≡ 512 = omega arith in
    rw add-one (showing_part c.requires.1 c.loop-i-test.true c.loop-i.invariant f.result c.figure.new.walk (512 * i + 512 - 512 * i) k c.figure.auto.walk s)

pub returns : goal.returns
returns c = let e : c.loop-i.i ≡ 4 = omega arith in
    all_shown _ (rw e at c.loop-i.invariant) refl refl refl refl
