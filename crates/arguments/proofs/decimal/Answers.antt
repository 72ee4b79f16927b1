-- `decimal`: the digits at the place, where there are some. Assumes nothing.
use native.Mathlib.Omega.{arith}
use Rattle.arguments.proofs.Reading.{decimal_not_there, decimal_there}
use Rattle.arguments.proofs.decimal.Goals as goal

pub returns-then-read-at : goal.returns-then-read-at
returns-then-read-at c = decimal_not_there c.args.octets.now c.args.at (omega (arith, c.digits-read.ensures.end, c.if-read-at.true))

pub returns : goal.returns
returns c = decimal_there c.args.octets.now c.args.at c.digits-read.result (omega (arith, c.digits-read.ensures.end, c.if-read-at.false)) c.digits-read.ensures
