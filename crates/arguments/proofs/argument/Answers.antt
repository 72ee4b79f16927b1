-- `argument`: a number, and the word after it where the number ended. Assumes nothing.
use mathlib.Core.Path.{refl}
use Rattle.aldebaran.specs.Form.{and_then}
use Rattle.arguments.specs.Arguments.{read_argument}
use Rattle.arguments.proofs.argument.Goals as goal

pub returns-in_err-number : goal.returns-in_err-number
unfolding and_then read_argument
returns-in_err-number c = rw (c.from_residual.ensures, c.in_err-number.ensures) refl

pub returns-in_err-word : goal.returns-in_err-word
unfolding and_then read_argument
returns-in_err-word c = rw (c.from_residual-in_err-word.ensures, c.in_ok-number.ensures.told, c.in_err-word.ensures) refl

pub returns : goal.returns
unfolding and_then read_argument
returns c = record {
  inside = c.in_ok-word.ensures.inside;
  number = c.in_ok-number.ensures.number;
  told = rw (c.in_ok-number.ensures.told, c.in_ok-word.ensures.rest) refl;
  value_is = c.in_ok-number.ensures.value_is;
}
