-- `shown::show`: the limits give what the chains, the search and the figure ask for. Assumes nothing.
use Rattle.search.specs.Chain.{Linked}
use Rattle.figures.specs.Figures.{arrays_of}
use Rattle.figures.proofs.Held.{bounded_in, from_small, linked_in}
use Rattle.shown.proofs.show.Goals as goal

pub chains-out-requires : goal.chains-out-requires
chains-out-requires c = let p = c.args.p in ((bounded_in p c.requires.0).count, from_small p c.requires.0)

pub reach-reached-requires : goal.reach-reached-requires
reach-reached-requires c =
    let linked : Linked (arrays_of c.args.p) c.chains-out.result.head c.chains-out.result.link =
    linked_in c.args.p c.requires.0 c.chains-out.result c.chains-out.ensures in
    let p = c.args.p in (p.transitions, p.from, linked)

pub figure-requires-clause-chains : goal.figure-requires-clause-chains
figure-requires-clause-chains c =
    let linked : Linked (arrays_of c.args.p) c.chains-out.result.head c.chains-out.result.link =
    linked_in c.args.p c.requires.0 c.chains-out.result c.chains-out.ensures in
    (c.chains-out.ensures, c.reach-reached.ensures c.args.p.transitions c.args.p.from linked)
