-- `words::name`: each arm puts the name of its figure. Assumes nothing.
use Rattle.wording.specs.Lines.{name_text}
use Rattle.text.specs.Text.{octets}
use Rattle.words.proofs.name.Goals as goal

pub word-requires : goal.word-requires
unfolding octets name_text
word-requires c = rw c.in-LeastDelay.is at c.requires

pub word-requires-in-GreatestDelay : goal.word-requires-in-GreatestDelay
unfolding octets name_text
word-requires-in-GreatestDelay c = rw c.in-GreatestDelay.is at c.requires

pub word-requires-in-LeastCount : goal.word-requires-in-LeastCount
unfolding octets name_text
word-requires-in-LeastCount c = rw c.in-LeastCount.is at c.requires

pub word-requires-in-GreatestCount : goal.word-requires-in-GreatestCount
unfolding octets name_text
word-requires-in-GreatestCount c = rw c.in-GreatestCount.is at c.requires

pub returns-in-LeastDelay : goal.returns-in-LeastDelay
unfolding octets name_text
returns-in-LeastDelay c = rw c.in-LeastDelay.is c.word.ensures

pub returns-in-GreatestDelay : goal.returns-in-GreatestDelay
unfolding octets name_text
returns-in-GreatestDelay c = rw c.in-GreatestDelay.is c.word-in-GreatestDelay.ensures

pub returns-in-LeastCount : goal.returns-in-LeastCount
unfolding octets name_text
returns-in-LeastCount c = rw c.in-LeastCount.is c.word-in-LeastCount.ensures

pub returns-in-GreatestCount : goal.returns-in-GreatestCount
unfolding octets name_text
returns-in-GreatestCount c = rw c.in-GreatestCount.is c.word-in-GreatestCount.ensures
