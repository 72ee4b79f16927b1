-- `words::figure`: each arm puts the number, or the word of its kind. Assumes nothing.
use Rattle.wording.specs.Lines.{figure_text}
use Rattle.text.specs.Text.{octets}
use Rattle.words.proofs.figure.Goals as goal

pub number-requires : goal.number-requires
unfolding octets figure_text
number-requires c = rw c.in-Number.is at c.requires

pub word-requires : goal.word-requires
unfolding octets figure_text
word-requires c = rw c.in-None.is at c.requires

pub word-requires-in-Stranded : goal.word-requires-in-Stranded
unfolding octets figure_text
word-requires-in-Stranded c = rw c.in-Stranded.is at c.requires

pub word-requires-in-Endless : goal.word-requires-in-Endless
unfolding octets figure_text
word-requires-in-Endless c = rw c.in-Endless.is at c.requires

pub returns-in-Number : goal.returns-in-Number
unfolding octets figure_text
returns-in-Number c = rw c.in-Number.is c.number.ensures

pub returns-in-None : goal.returns-in-None
unfolding octets figure_text
returns-in-None c = rw c.in-None.is c.word.ensures

pub returns-in-Stranded : goal.returns-in-Stranded
unfolding octets figure_text
returns-in-Stranded c = rw c.in-Stranded.is c.word-in-Stranded.ensures

pub returns-in-Endless : goal.returns-in-Endless
unfolding octets figure_text
returns-in-Endless c = rw c.in-Endless.is c.word-in-Endless.ensures
