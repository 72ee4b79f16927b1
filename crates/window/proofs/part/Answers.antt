-- `window::part` meets its contract: a shift is a quotient and a mask a remainder by a power of two.
-- Assumes nothing.
use native.Mathlib.Omega.{arith}
use Rattle.field.proofs.Windows.{masked}
use Rattle.window.proofs.part.Goals as goal

pub returns : goal.returns
returns c = masked _ c.args.width (omega arith)
