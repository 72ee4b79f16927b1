-- `text_reading::read_first`: word, number, word and so on, each read where the one before ended, and so the form: off it where one of them is, and otherwise their numbers. Assumes nothing.
use mathlib.Core.List.{[], ◌∷◌}
use mathlib.Core.Path.{refl, sym}
use Rattle.text.specs.Text.{octets}
use Rattle.aldebaran.specs.Form.{and_then, read_form}
use Rattle.aldebaran.specs.Text.{first_form}
use Rattle.text_reading.proofs.read_first.Goals as goal

pub returns-in_err-word : goal.returns-in_err-word
unfolding octets first_form and_then read_form
returns-in_err-word c = rw (c.from_residual.ensures, c.in_err-word.ensures) refl

pub returns-in_err-initial : goal.returns-in_err-initial
unfolding octets first_form and_then read_form
returns-in_err-initial c = rw (c.from_residual-in_err-initial.ensures, c.in_ok-word.ensures.rest, c.in_err-initial.ensures) refl

pub returns-in_err-word-2 : goal.returns-in_err-word-2
unfolding octets first_form and_then read_form
returns-in_err-word-2 c = rw (c.from_residual-in_err-word-2.ensures, c.in_ok-word.ensures.rest, c.in_ok-initial.ensures.told, c.in_err-word-2.ensures) refl

pub returns-in_err-transitions : goal.returns-in_err-transitions
unfolding octets first_form and_then read_form
returns-in_err-transitions c = rw (c.from_residual-in_err-transitions.ensures, c.in_ok-word.ensures.rest, c.in_ok-initial.ensures.told, c.in_ok-word-2.ensures.rest, c.in_err-transitions.ensures) refl

pub returns-in_err-word-3 : goal.returns-in_err-word-3
unfolding octets first_form and_then read_form
returns-in_err-word-3 c = rw (c.from_residual-in_err-word-3.ensures, c.in_ok-word.ensures.rest, c.in_ok-initial.ensures.told, c.in_ok-word-2.ensures.rest, c.in_ok-transitions.ensures.told, c.in_err-word-3.ensures) refl

pub returns-in_err-states : goal.returns-in_err-states
unfolding octets first_form and_then read_form
returns-in_err-states c = rw (c.from_residual-in_err-states.ensures, c.in_ok-word.ensures.rest, c.in_ok-initial.ensures.told, c.in_ok-word-2.ensures.rest, c.in_ok-transitions.ensures.told, c.in_ok-word-3.ensures.rest, c.in_err-states.ensures) refl

pub returns-in_err-word-4 : goal.returns-in_err-word-4
unfolding octets first_form and_then read_form
returns-in_err-word-4 c = rw (c.from_residual-in_err-word-4.ensures, c.in_ok-word.ensures.rest, c.in_ok-initial.ensures.told, c.in_ok-word-2.ensures.rest, c.in_ok-transitions.ensures.told, c.in_ok-word-3.ensures.rest, c.in_ok-states.ensures.told, c.in_err-word-4.ensures) refl

pub returns : goal.returns
unfolding octets first_form and_then read_form
returns c = record {
  inside = c.in_ok-word-4.ensures.inside;
  numbers = c.in_ok-initial.ensures.number ∷ c.in_ok-transitions.ensures.number ∷ c.in_ok-states.ensures.number ∷ [];
  told = rw (c.in_ok-word.ensures.rest, c.in_ok-initial.ensures.told, c.in_ok-word-2.ensures.rest, c.in_ok-transitions.ensures.told, c.in_ok-word-3.ensures.rest, c.in_ok-states.ensures.told, c.in_ok-word-4.ensures.rest) refl;
  values_are = λ i. sym c.in_ok-initial.ensures.value_is i ∷ sym c.in_ok-transitions.ensures.value_is i ∷ sym c.in_ok-states.ensures.value_is i ∷ [];
}
