-- `generation::add`: four draws, the transition that they make, and a store of each of its fields (proofs/Drawn.antt, `added`). Assumes nothing.
use Rattle.arrays.specs.Tables.{fields}
use Rattle.generation.proofs.Drawn.{added}
use Rattle.generation.proofs.add.Goals as goal

pub returns : goal.returns
returns c =
    let a = c.args in
    added a.n a.i a.ring.now _ (fields a.from.now a.to.now a.low.now a.high.now) c.four-draws.result c.transition-fields.result c.four-draws.ensures c.transition-fields.ensures
