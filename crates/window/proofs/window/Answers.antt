-- `window::window` meets its contract. Five octets are those of `five`. The loop's invariant: value is the number of the octets passed. In a turn at
-- most five were passed, so value is below 2^40 and the next one below 2^48.
-- Assumes nothing.
use Prim.Native.Nat.{◌<◌, ◌^◌}
use mathlib.Core.Path.{sym}
use native.Mathlib.Omega.{arith}
use borrow.Author.Rules.{rules}
use Rattle.field.proofs.Windows.{window_none, window_lt, window_more}
use Rattle.window.proofs.window.Goals as goal
use Rattle.window.proofs.window.Tie as tie
use Rattle.window.proofs.window.Lts as lts
use Rattle.window.proofs.window.Reads as reads

-- before a turn at most five octets were passed
bounded : (c : lts.In-loop tie.the-claims reads.Pre reads.Post goal.the-invariant-loop-i goal.the-decreases-loop-i) → c.loop-i.value < 2 ^ 40
bounded c =
    let a = c.args in
    let l = c.loop-i in
    rw l.invariant.2 (window_lt a.octets.now a.first l.i 5 (omega arith) (omega arith))

pub loop-i-init : goal.loop-i-init
loop-i-init c = (search rules, search rules, window_none c.args.octets.now c.args.first)

pub overflow_mul-value : goal.overflow_mul-value
overflow_mul-value c = omega (arith, bounded c.before)

pub overflow_add-value : goal.overflow_add-value
overflow_add-value c = omega (arith, bounded c.before.before)

pub loop-i-preserved : goal.loop-i-preserved
loop-i-preserved c =
    let a = c.args in
    let l = c.loop-i in (
      omega arith,
      omega arith,
      rw (l.invariant.2, c.octet.ensures.0) (sym (window_more a.octets.now a.first l.i (omega arith) (omega arith) (omega arith))),
    )
