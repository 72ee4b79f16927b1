-- `text_writing::numbered`: a word and then the digits. Assumes nothing.
use native.Mathlib.Omega.{arith}
use Rattle.text.proofs.Puts.{put_then}
use Rattle.text_writing.proofs.numbered.Goals as goal

pub returns : goal.returns
returns c = put_then c.word-place.ensures (omega (arith, c.requires)) (rw c.from.ensures at c.number.ensures)
