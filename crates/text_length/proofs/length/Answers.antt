-- `text_length::length`: the first line and the others. Assumes nothing.
use native.Mathlib.Omega.{arith}
use Rattle.arrays.specs.Tables.{transition_of}
use Rattle.text_length.proofs.Sums.{text-sum}
use Rattle.text_length.proofs.length.Goals as goal

pub returns : goal.returns
returns c = omega (arith, text-sum (transition_of c.args.p.now.from c.args.p.now.to c.args.p.now.low c.args.p.now.high) c.args.initial c.args.p.now.states c.args.p.now.transitions, c.first_length-first.ensures, c.lines_length.ensures)
