-- `writing::header` meets its contract: the four fields, each value within its width.
-- Assumes nothing.
use native.Mathlib.Omega.{arith}
use Rattle.field.specs.Field.{AllFit}
use Rattle.writing.proofs.header.Goals as goal

pub put_four-requires-clause-all_fit : goal.put_four-requires-clause-all_fit
unfolding AllFit
put_four-requires-clause-all_fit c = (omega arith, (omega arith, (omega arith, (omega arith, tt))))
