-- `best_step::first` meets its contract. The invariant: of whatever transitions the chains are, the step is the best of those out of the starts below s.
-- Assumes nothing.
use Rattle.best_step.proofs.Choosing.{starts_none}
use Rattle.best_step.proofs.first.Goals as goal

pub loop-s-init : goal.loop-s-init
loop-s-init c = λ m from small chains. starts_none c.args.marks.now (c.none-best.ensures m from _ _ _)
