-- `drawing::marks`: 2 at the last state, then 4 more at the first (proofs/Ends.antt). Assumes nothing.
use native.Mathlib.Omega.{arith}
use Rattle.drawing.proofs.Ends.{marked}
use Rattle.drawing.proofs.marks.Goals as goal

pub returns : goal.returns
returns c = marked c.args.n c.requires.0 c.requires.1 _ (omega arith)
