-- `scan::more` meets its contract: the test decides as the definition's. Assumes nothing.
use native.Mathlib.Omega.{arith}
use Rattle.aldebaran.proofs.Numbers.{is_digit-true}
use Rattle.scan.proofs.more.Goals as goal

pub overflow_sub-digit : goal.overflow_sub-digit
overflow_sub-digit c = omega (arith, is_digit-true c.args.digit c.requires)
