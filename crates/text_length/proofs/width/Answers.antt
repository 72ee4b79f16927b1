-- `text_length::width`: a digit more for each power of ten that is reached (proofs/Widths.antt). Assumes nothing.
use native.Mathlib.Omega.{arith}
use Rattle.text_length.proofs.Widths.{reached_few, reached-is}
use Rattle.text_length.proofs.width.Goals as goal

pub returns : goal.returns
returns c = (omega (arith, reached-is c.args.x c.ranges.x.fits), omega (arith, reached_few c.args.x))
