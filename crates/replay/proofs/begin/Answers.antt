-- `replay::begin`: the plan that fresh makes is stored. Assumes nothing.
use Rattle.replay.proofs.begin.Goals as goal

pub returns : goal.returns
returns c = (c.fresh.result, c.fresh.ensures, c.store.ensures)
