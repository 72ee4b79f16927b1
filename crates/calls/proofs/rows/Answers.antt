-- `calls::rows`: each test is the next row, in its order. Assumes nothing.
use mathlib.Core.Path.{sym, ◌∙◌}
use borrow.Author.Tests.{lt-ltb, le-ltb}
use Rattle.calls.specs.Rows.{replay_rule}
use Rattle.calls.proofs.rows.Goals as goal

pub returns-then-not-state_count_ok : goal.returns-then-not-state_count_ok
unfolding replay_rule
returns-then-not-state_count_ok c = rw (sym c.state_count_ok.ensures ∙ c.if-not-state_count_ok.true)

pub returns-then-answers-kinds : goal.returns-then-answers-kinds
unfolding replay_rule
returns-then-answers-kinds c = rw (sym c.state_count_ok.ensures ∙ c.if-not-state_count_ok.false, lt-ltb _ _ c.if-answers-kinds.true)

pub returns-then-walks-lt2048 : goal.returns-then-walks-lt2048
unfolding replay_rule
returns-then-walks-lt2048 c = rw (sym c.state_count_ok.ensures ∙ c.if-not-state_count_ok.false, le-ltb _ _ c.if-answers-kinds.false, lt-ltb _ _ c.if-walks-lt2048.true)

pub returns-then-out-lt16 : goal.returns-then-out-lt16
unfolding replay_rule
returns-then-out-lt16 c = rw (sym c.state_count_ok.ensures ∙ c.if-not-state_count_ok.false, le-ltb _ _ c.if-answers-kinds.false, le-ltb _ _ c.if-walks-lt2048.false, lt-ltb _ _ c.if-out-lt16.true)

pub returns : goal.returns
unfolding replay_rule
returns c = rw (sym c.state_count_ok.ensures ∙ c.if-not-state_count_ok.false, le-ltb _ _ c.if-answers-kinds.false, le-ltb _ _ c.if-walks-lt2048.false, le-ltb _ _ c.if-out-lt16.false)
