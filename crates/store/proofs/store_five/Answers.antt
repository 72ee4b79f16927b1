-- `store::store_five` meets its contract: an octet more of the number is stored, five times.
-- Assumes nothing.
use native.Mathlib.Omega.{arith}
use Rattle.field.proofs.Windows.{stored-five}
use Rattle.store.proofs.store_five.Goals as goal

pub returns : goal.returns
returns c = stored-five c.args.octets.now c.args.first c.args.value (omega arith)
