-- `scan::number` meets its contract: the digits at the place are read, where they are a numeral (Scanning). Assumes nothing.
use mathlib.Core.Path.{sym, ◌∙◌}
use Rattle.scan.proofs.Scanning.{number_not_there, number-there}
use Rattle.scan.proofs.number.Goals as goal

pub returns-then-not-is_numeral : goal.returns-then-not-is_numeral
returns-then-not-is_numeral c = number_not_there c.args.text.now c.args.at (sym c.is_numeral.ensures ∙ c.if-not-is_numeral.true)

pub returns : goal.returns
returns c = number-there c.args.text.now c.args.at c.digits-read.result (sym c.is_numeral.ensures ∙ c.if-not-is_numeral.false) c.digits-read.ensures
