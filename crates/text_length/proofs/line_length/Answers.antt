-- `text_length::line_length`: the length of the line's words, and of its four numerals. Assumes nothing.
use native.Mathlib.Omega.{arith}
use Rattle.arrays.specs.Tables.{transition}
use Rattle.text_length.proofs.Sums.{line-sum}
use Rattle.text_length.proofs.line_length.Goals as goal

pub returns : goal.returns
returns c = (omega (arith, line-sum (transition c.args.from c.args.to c.args.low c.args.high)), omega arith)
