-- `window::five` meets its contract: one octet more makes the number 256 times as large, plus the octet, five times.
-- Assumes nothing.
use native.Mathlib.Omega.{arith}
use Rattle.field.proofs.Windows.{window_five}
use Rattle.window.proofs.five.Goals as goal

pub returns : goal.returns
returns c =
    let a = c.args in
    window_five a.octets.now a.first _ _ _ _ _ (omega arith) c.octet-a.ensures c.octet-b.ensures
    c.octet-c.ensures c.octet-d.ensures c.octet-e.ensures
