-- `text_length::first_length`: the length of the line's words, and of its three numerals. Assumes nothing.
use native.Mathlib.Omega.{arith}
use Rattle.text_length.proofs.Sums.{first-sum}
use Rattle.text_length.proofs.first_length.Goals as goal

pub returns : goal.returns
returns c = (omega (arith, first-sum c.args.initial c.args.m c.args.n), omega arith)
