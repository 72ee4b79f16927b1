-- `line::line`: four puts in a row, each with room because the whole has. Assumes nothing.
use Prim.Native.Nat.{◌≤◌}
use native.Mathlib.Omega.{arith}
use lib.ListN.{length, take}
use Rattle.wording.specs.Lines.{line}
use Rattle.rules.specs.Quotations.{meant}
use Rattle.text.specs.Text.{octets}
use Rattle.text.proofs.Puts.{put_then}
use Rattle.wording.proofs.Lengths.{line-sum}
use Rattle.line.proofs.line.Goals as goal

pub heading-headed-requires : goal.heading-headed-requires
heading-headed-requires c = omega (arith, line-sum c.args.which (meant c.args.quote.figure) (take c.args.quote.k c.args.walk.now) c.args.quote.j, c.requires.2)

pub list-walked-requires-clause-numbers_in_bounds : goal.list-walked-requires-clause-numbers_in_bounds
list-walked-requires-clause-numbers_in_bounds c = omega (arith, line-sum c.args.which (meant c.args.quote.figure) (take c.args.quote.k c.args.walk.now) c.args.quote.j, c.requires.2)

pub added-ended-requires : goal.added-ended-requires
added-ended-requires c = omega (arith, line-sum c.args.which (meant c.args.quote.figure) (take c.args.quote.k c.args.walk.now) c.args.quote.j, c.requires.2)

pub word-requires : goal.word-requires
word-requires c = omega (arith, line-sum c.args.which (meant c.args.quote.figure) (take c.args.quote.k c.args.walk.now) c.args.quote.j, c.requires.2)

pub returns : goal.returns
unfolding octets line
returns c =
    let inside : c.args.at ≤ length c.args.buffer.now = omega (arith, c.requires.2) in
    let walked = put_then c.heading-headed.ensures inside c.list-walked.ensures in
    put_then (put_then walked inside c.added-ended.ensures) inside c.word.ensures
