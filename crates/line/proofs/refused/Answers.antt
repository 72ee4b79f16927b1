-- `line::refused`: three puts in a row, each with room because the whole has. Assumes nothing.
use native.Mathlib.Omega.{arith}
use Rattle.wording.specs.Lines.{refused_line}
use Rattle.text.specs.Text.{octets}
use Rattle.text.proofs.Puts.{put_then}
use Rattle.wording.proofs.Lengths.{refused-sum}
use Rattle.line.proofs.refused.Goals as goal

pub word-said-requires : goal.word-said-requires
word-said-requires c = omega (arith, refused-sum c.args.number)

pub number-numbered-requires : goal.number-numbered-requires
number-numbered-requires c = omega (arith, refused-sum c.args.number)

pub word-requires : goal.word-requires
word-requires c = omega (arith, refused-sum c.args.number)

pub returns : goal.returns
unfolding octets refused_line
returns c =
    let sum = refused-sum c.args.number in
    put_then (put_then c.word-said.ensures (omega arith) c.number-numbered.ensures) (omega arith) c.word.ensures
