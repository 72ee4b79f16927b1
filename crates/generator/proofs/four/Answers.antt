-- `generator::four`: four draws, each at the place after the one before (proofs/Turning.antt, `four-drawn`). Assumes nothing.
use Rattle.std.proofs.Common.{refl}
use Rattle.generator.proofs.Turning.{four-drawn}
use Rattle.generator.proofs.four.Goals as goal

pub returns : goal.returns
returns c =
    four-drawn c.args.i _ _ _ _ refl c.after-two.ensures c.after-three.ensures c.after-four.ensures _ _ _ _ _ _ _ _ _
    c.draw-first.ensures c.draw-second.ensures c.draw-third.ensures c.draw-fourth.ensures
