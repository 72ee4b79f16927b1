-- `shown::show_all`: the limits give what the chains, the search and each figure ask for. The invariant: the figures before place i are shown, each in its part (`Showing`). Assumes nothing.
use Rattle.plan.specs.View.{view}
use Rattle.shown.proofs.Parts.{Showing}
use Rattle.shown.proofs.show_all.Given as goal

abbrev pub invariant-loop-i : goal.invariant-loop-i
invariant-loop-i l = Showing (view l.p) l.i l.quotes l.initial.walks l.walks
