-- `text_writing::first`: four puts in a row, each with room because the whole has. Assumes nothing.
use native.Mathlib.Omega.{arith}
use Rattle.text.specs.Text.{octets}
use Rattle.text_length.proofs.Sums.{first-sum}
use Rattle.text_writing.proofs.InRow.{first-put}
use Rattle.text_writing.proofs.first.Goals as goal

pub numbered-begun-requires : goal.numbered-begun-requires
numbered-begun-requires c = omega (arith, first-sum c.args.initial c.args.m c.args.n)

pub numbered-counted-requires : goal.numbered-counted-requires
numbered-counted-requires c = omega (arith, first-sum c.args.initial c.args.m c.args.n)

pub numbered-stated-requires : goal.numbered-stated-requires
numbered-stated-requires c = omega (arith, first-sum c.args.initial c.args.m c.args.n)

pub word-requires : goal.word-requires
word-requires c = omega (arith, first-sum c.args.initial c.args.m c.args.n)

pub returns : goal.returns
unfolding octets
returns c = first-put c.args.initial c.args.m c.args.n c.requires c.numbered-begun.ensures c.numbered-counted.ensures c.numbered-stated.ensures c.word.ensures
