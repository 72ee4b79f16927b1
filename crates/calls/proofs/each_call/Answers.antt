-- `calls::each_call` meets its contract. The invariant: every item passed is a call. An item that is none answers for the whole list (`not_all-tabulate`), and after the last one all
-- are calls (`all-tabulate`). Assumes nothing.
use mathlib.Core.Path.{sym, ◌∙◌}
use native.Mathlib.Omega.{arith}
use lib.ListN.{length}
use Rattle.rules.proofs.Tabulated.{all-tabulate, not_all-tabulate}
use Rattle.calls.specs.Slices.{is_call, item_at}
use Rattle.calls.proofs.each_call.Goals as goal

pub returns-then-not-is_call : goal.returns-then-not-is_call
returns-then-not-is_call c =
    let a = c.args in
    sym (not_all-tabulate (is_call a.long) (length a.kinds.now) (item_at a.kinds.now a.arguments.now) c.loop-i.i (omega arith)
    (sym c.is_call.ensures ∙ c.if-not-is_call.true))

pub returns : goal.returns
returns c =
    let a = c.args in
    sym (all-tabulate (is_call a.long) (length a.kinds.now) (item_at a.kinds.now a.arguments.now) (λ k h. c.loop-i.invariant k (omega arith)))
