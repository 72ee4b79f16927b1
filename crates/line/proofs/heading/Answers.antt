-- `line::heading`: four puts in a row, each with room because the whole has. Assumes nothing.
use Prim.Native.Nat.{◌≤◌}
use native.Mathlib.Omega.{arith}
use lib.ListN.{length}
use Rattle.wording.specs.Lines.{heading}
use Rattle.rules.specs.Quotations.{meant}
use Rattle.text.specs.Text.{octets}
use Rattle.text.proofs.Puts.{put_then}
use Rattle.wording.proofs.Lengths.{heading-sum}
use Rattle.line.proofs.heading.Goals as goal

pub name-named-requires : goal.name-named-requires
name-named-requires c = omega (arith, heading-sum c.args.which (meant c.args.shown))

pub word-spaced-requires : goal.word-spaced-requires
word-spaced-requires c = omega (arith, heading-sum c.args.which (meant c.args.shown))

pub figure-figured-requires : goal.figure-figured-requires
figure-figured-requires c = omega (arith, heading-sum c.args.which (meant c.args.shown))

pub word-requires : goal.word-requires
word-requires c = omega (arith, heading-sum c.args.which (meant c.args.shown))

pub returns : goal.returns
unfolding octets heading
returns c =
    let inside : c.args.at ≤ length c.args.buffer.now = omega (arith, c.requires) in
    let named = put_then c.name-named.ensures inside c.word-spaced.ensures in
    put_then (put_then named inside c.figure-figured.ensures) inside c.word.ensures
