-- `calls::are_calls`: the first test is the first conjunct of `are_calls`, and the last is `each_call`'s answer. Assumes nothing.
use borrow.Author.Tests.{le-leb, lt-leb}
use Rattle.calls.specs.Slices.{are_calls}
use Rattle.calls.proofs.are_calls.Goals as goal

pub returns-then-arguments-kinds : goal.returns-then-arguments-kinds
unfolding are_calls
returns-then-arguments-kinds c = rw (lt-leb _ _ c.if-arguments-kinds.true)

pub returns : goal.returns
unfolding are_calls
returns c = rw (le-leb _ _ c.if-arguments-kinds.false) c.each_call.ensures
