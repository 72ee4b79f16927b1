-- `figures::search`: the limits and the chains give what the searches ask for. What was found over the weights is the figure, and a least one was searched over scaled
-- weights. Assumes nothing.
use mathlib.Core.Bool.{Bool}
use mathlib.Core.Path.{◌≡◌, sym, ap, ◌∙◌}
use Prim.Native.Nat.{ℕ}
use Rattle.graph.specs.Class.{figure_of, counting}
use Rattle.graph.specs.Which.{is_least}
use Rattle.arrays.specs.declared.Plan.{Plan}
use Rattle.plan.specs.View.{view}
use Rattle.search.specs.Chain.{Linked}
use Rattle.search.specs.Weights.{Weights, weights_of}
use Rattle.rules.specs.Quotations.{meant}
use Rattle.figures.specs.Figures.{arrays_of, Weighs}
use Rattle.figures.proofs.Held.{stands, linked_in}
use Rattle.figures.proofs.Weighed.{weighed, least-said, greatest-said}
use Rattle.figures.proofs.search.Goals as goal

pub least-found-requires-clause-linked : goal.least-found-requires-clause-linked
least-found-requires-clause-linked c =
    let plan : Plan = c.args.p.now in
    let linked : Linked (arrays_of plan) c.args.out.now.head c.args.out.now.link =
    linked_in plan c.requires.limits.0 c.args.out.now c.requires.chains.0 in
    let weights : Weights =
    weights_of c.weigh.new.weight c.weigh.new.close in
    let weighs : Weighs c.args.asked plan weights =
    c.weigh.ensures in
    let is-least : c.is_least.result ≡ is_least (figure_of c.args.asked) =
    c.is_least.ensures ∙ ap is_least c.figure_of.ensures in
    (linked, weighed (figure_of c.args.asked) (counting c.args.asked (view plan)) plan weights (sym is-least ∙ c.if-is_least.true) weighs, c.requires.limits.1)

pub greatest-requires-clause-by_index : goal.greatest-requires-clause-by_index
greatest-requires-clause-by_index c =
    let plan : Plan = c.args.p.now in
    let linked : Linked (arrays_of plan) c.args.out.now.head c.args.out.now.link =
    linked_in plan c.requires.limits.0 c.args.out.now c.requires.chains.0 in
    (c.args.p.now.transitions, linked, c.requires.chains.1)

pub returns-then-is_least : goal.returns-then-is_least
returns-then-is_least c =
    let plan : Plan = c.args.p.now in
    let test : ℕ → Bool =
    counting c.args.asked (view plan) in
    let weights : Weights =
    weights_of c.weigh.new.weight c.weigh.new.close in
    let weighs : Weighs c.args.asked plan weights =
    c.weigh.ensures in
    let is-least : c.is_least.result ≡ is_least (figure_of c.args.asked) =
    c.is_least.ensures ∙ ap is_least c.figure_of.ensures in
    let p = plan in
    let r = c.least-found.result in
    rw c.divide.ensures
    (least-said p c.requires.limits.0 weights (meant r.figure) r.k r.j _ _ c.requires.limits.1 c.least-found.auto.walk test (figure_of c.args.asked)
    (sym is-least ∙ c.if-is_least.true) weighs (c.least-found.ensures (view p) (stands p)))

pub returns : goal.returns
returns c =
    let plan : Plan = c.args.p.now in
    let test : ℕ → Bool =
    counting c.args.asked (view plan) in
    let linked : Linked (arrays_of plan) c.args.out.now.head c.args.out.now.link =
    linked_in plan c.requires.limits.0 c.args.out.now c.requires.chains.0 in
    let weights : Weights =
    weights_of c.weigh.new.weight c.weigh.new.close in
    let weighs : Weighs c.args.asked plan weights =
    c.weigh.ensures in
    let is-least : c.is_least.result ≡ is_least (figure_of c.args.asked) =
    c.is_least.ensures ∙ ap is_least c.figure_of.ensures in
    let p = plan in
    let r = c.greatest.result in
    greatest-said p c.requires.limits.0 weights (meant r.figure) r.k r.j _ _ c.requires.limits.1 c.greatest.auto.walk test (figure_of c.args.asked)
    (sym is-least ∙ c.if-is_least.false) weighs
    c.requires.none_open
    (c.greatest.ensures c.args.p.now.transitions linked c.requires.chains.1 (view p) (stands p))
