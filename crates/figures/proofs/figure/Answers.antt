-- `figures::figure`: an open transition by which the figure is ENDLESS is shown as it is; where there is none, the search over weights decides. Assumes nothing.
use mathlib.Core.Bool.{Bool}
use mathlib.Core.Path.{sym, ◌∙◌}
use Prim.Native.Nat.{ℕ}
use Rattle.graph.specs.Class.{figure_of, counting}
use Rattle.graph.specs.Route.{highs}
use Rattle.greatest_search.proofs.GreatestFigure.{climbable}
use Rattle.arrays.specs.declared.Plan.{Plan}
use Rattle.plan.specs.View.{view}
use Rattle.open_search.proofs.Opening.{ended_ranked}
use Rattle.turns.specs.declared.Table.{Table}
use Rattle.figures.specs.Figures.{arrays_of}
use Rattle.figures.proofs.Held.{stands, bounded_in, from_small}
use Rattle.figures.proofs.Weighed.{open_said, opens, none_beside}
use Rattle.figures.proofs.figure.Goals as goal

pub find-found-requires : goal.find-found-requires
find-found-requires c =
    let plan : Plan = c.args.p.now in
    ((bounded_in plan c.requires.limits.0).count, from_small plan c.requires.limits.0)

pub show-requires : goal.show-requires
show-requires c =
    let plan : Plan = c.args.p.now in
    let a : Table = c.args.reached.now.table in
    let (which, ended, (none_before, one)) = rw c.in-Some.is at c.find-found.ensures in
    let (done, r) = ended_ranked (arrays_of plan) a c.args.reached.now.found c.requires.chains.1 ended in
    let b = bounded_in plan c.requires.limits.0 in
    (c.args.p.now.states, c.args.p.now.transitions, c.requires.limits.1, one.listed, climbable {a = a} b r (b.leaves _ one.listed) one.entered)

pub returns-in-Some : goal.returns-in-Some
returns-in-Some c =
    let plan : Plan = c.args.p.now in
    let test : ℕ → Bool =
    counting c.args.asked (view plan) in
    let (which, ended, (none_before, one)) = rw c.in-Some.is at c.find-found.ensures in
    let (done, r) = ended_ranked (arrays_of plan) c.args.reached.now.table c.args.reached.now.found c.requires.chains.1 ended in
    open_said plan c.requires.limits.0 test (figure_of c.args.asked) (sym c.figure_of.ensures ∙ which) _ _ _ _ _ c.requires.limits.1 c.show.auto.walk
    (c.show.ensures c.args.p.now.states c.args.p.now.transitions c.args.p.now.marks c.args.p.now.to done c.requires.limits.1 (bounded_in plan c.requires.limits.0) r
    one.listed one.entered (view plan) (stands plan) (highs (view plan)) (opens plan _ one.listed ∙ one.unlimited))

pub search-requires-clause-none_open : goal.search-requires-clause-none_open
search-requires-clause-none_open c =
    let a : Table = c.args.reached.now.table in
    none_beside c.args.p.now c.requires.limits.0 (counting c.args.asked (view c.args.p.now)) (figure_of c.args.asked) a c.args.reached.now.found c.requires.chains.1
    (rw (c.figure_of.ensures, c.in-None.is) at c.find-found.ensures)
