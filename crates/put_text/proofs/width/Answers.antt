-- `put_text::width` meets its contract. The loop's invariant: the digits of rest and those counted are x's, the last one of rest counted already. Assumes nothing.
use Prim.Native.Nat.{◌/◌, ◌%◌}
use mathlib.Core.List.{[], ◌∷◌}
use mathlib.Core.Path.{ap, ◌∙◌}
use native.Mathlib.Omega.{arith}
use lib.ListN.{length, length-append}
use Rattle.text.proofs.Numerals.{digits-one, digits_last, digits_some, digits-length_u32}
use Rattle.text.specs.Text.{digit, digits}
use Rattle.put_text.proofs.width.Goals as goal

pub overflow_add-count : goal.overflow_add-count
overflow_add-count c = omega (arith, digits-length_u32 c.args.x c.ranges.x.fits, digits_some c.loop-rest.rest)

pub loop-rest-preserved : goal.loop-rest-preserved
loop-rest-preserved c =
    let rest = c.loop-rest.rest in
    omega (arith, ap length (digits_last rest (omega arith)) ∙ length-append (digits (rest / 10)) (digit (rest % 10) ∷ []))

pub returns : goal.returns
returns c = omega (arith, ap length (digits-one c.loop-rest.rest (omega arith)))
