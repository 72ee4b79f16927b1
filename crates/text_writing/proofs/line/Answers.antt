-- `text_writing::line`: five puts in a row, each with room because the whole has. Assumes nothing.
use native.Mathlib.Omega.{arith}
use Rattle.arrays.specs.Tables.{transition}
use Rattle.text.specs.Text.{octets}
use Rattle.text_length.proofs.Sums.{line-sum}
use Rattle.text_writing.proofs.InRow.{line-put}
use Rattle.text_writing.proofs.line.Goals as goal

pub numbered-left-requires : goal.numbered-left-requires
numbered-left-requires c =
    let args = c.args in
    omega (arith, line-sum (transition args.from args.to args.low args.high))

pub numbered-least-requires : goal.numbered-least-requires
numbered-least-requires c =
    let args = c.args in
    omega (arith, line-sum (transition args.from args.to args.low args.high))

pub numbered-most-requires : goal.numbered-most-requires
numbered-most-requires c =
    let args = c.args in
    omega (arith, line-sum (transition args.from args.to args.low args.high))

pub numbered-entered-requires : goal.numbered-entered-requires
numbered-entered-requires c =
    let args = c.args in
    omega (arith, line-sum (transition args.from args.to args.low args.high))

pub word-requires : goal.word-requires
word-requires c =
    let args = c.args in
    omega (arith, line-sum (transition args.from args.to args.low args.high))

pub returns : goal.returns
unfolding octets
returns c =
    let at-word = c.before.before.before in
    let at-numbered4 = at-word.before.before.before.before.before in
    let at-numbered3 = at-numbered4.before.before.before.before.before in
    let at-numbered2 = at-numbered3.before.before.before.before.before in
    let at-numbered = at-numbered2.before.before.before.before.before in
    let start = at-numbered.before.before.before.before in
    line-put (transition start.args.from start.args.to start.args.low start.args.high) start.requires at-numbered.numbered-left.ensures at-numbered2.numbered-least.ensures at-numbered3.numbered-most.ensures at-numbered4.numbered-entered.ensures at-word.word.ensures
