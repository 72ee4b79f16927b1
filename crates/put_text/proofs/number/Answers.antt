-- `put_text::number` meets its contract. The loop's invariant: the digits of x after those of rest are in place. Assumes nothing.
use Prim.Native.Nat.{◌+◌, ◌-◌}
use mathlib.Core.Path.{◌≡◌, ◌∙◌}
use native.Mathlib.Omega.{arith}
use lib.ListN.{length, length-set}
use Rattle.text.proofs.Fills.{inside, filled_more, filled_whole}
use Rattle.text.proofs.Numerals.{digits_some}
use Rattle.text.specs.Text.{digits}
use Rattle.put_text.proofs.number.Goals as goal

pub overflow_sub-place : goal.overflow_sub-place
overflow_sub-place c = omega (arith, digits_some c.loop-rest.rest)

pub bounds-buffer-place : goal.bounds-buffer-place
bounds-buffer-place c = omega (arith, inside c.loop-rest.invariant.1 c.requires, digits_some c.loop-rest.rest)

pub loop-rest-preserved : goal.loop-rest-preserved
loop-rest-preserved c =
    let l = c.loop-rest in (
      length-set l.buffer (l.place - 1) _ ∙ l.invariant.0,
      filled_more l.invariant.1 c.requires (omega arith),
    )

pub bounds-buffer-at : goal.bounds-buffer-at
bounds-buffer-at c = omega (arith, digits_some c.args.x)

pub returns : goal.returns
returns c =
    let a = c.args in
    let l = c.loop-rest in
    let e : a.at + c.width.result ≡ a.at + length (digits a.x) = omega arith in
    rw e (filled_whole l.invariant.1 c.requires (omega arith))
