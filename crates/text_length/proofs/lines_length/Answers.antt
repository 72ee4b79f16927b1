-- `text_length::lines_length`. The loop's invariant: the length of the lines of the transitions passed, at most 31 for each. Assumes nothing.
use mathlib.Core.Path.{sym, ap}
use native.Mathlib.Omega.{arith}
use native.Mathlib.Numerals.{add-one}
use lib.ListN as list
use Rattle.arrays.specs.Tables.{transition_of}
use Rattle.text_length.proofs.Sums.{lines_none, lines-length-more}
use Rattle.text_length.proofs.lines_length.Goals as goal

pub loop-i-init : goal.loop-i-init
loop-i-init c = (omega arith, sym (ap list.length (lines_none (transition_of c.args.p.now.from c.args.p.now.to c.args.p.now.low c.args.p.now.high))), omega arith)

pub loop-i-preserved : goal.loop-i-preserved
loop-i-preserved c = (
  omega arith,
  rw (add-one) (omega (arith, lines-length-more (transition_of c.args.p.now.from c.args.p.now.to c.args.p.now.low c.args.p.now.high) c.loop-i.i, c.line_length-length.ensures, c.loop-i.invariant)),
  omega (arith, c.line_length-length.ensures, c.loop-i.invariant),
)
