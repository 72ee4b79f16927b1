-- `text_reading::read_line`: word, number, word and so on, each read where the one before ended, and so the form: off it where one of them is, and otherwise their numbers. Assumes nothing.
use mathlib.Core.List.{[], ◌∷◌}
use mathlib.Core.Path.{refl, sym}
use Rattle.text.specs.Text.{octets}
use Rattle.aldebaran.specs.Form.{and_then, read_form}
use Rattle.aldebaran.specs.Text.{line_form}
use Rattle.text_reading.proofs.read_line.Goals as goal

pub returns-in_err-word : goal.returns-in_err-word
unfolding octets line_form and_then read_form
returns-in_err-word c = rw (c.from_residual.ensures, c.in_err-word.ensures) refl

pub returns-in_err-from : goal.returns-in_err-from
unfolding octets line_form and_then read_form
returns-in_err-from c = rw (c.from_residual-in_err-from.ensures, c.in_ok-word.ensures.rest, c.in_err-from.ensures) refl

pub returns-in_err-word-2 : goal.returns-in_err-word-2
unfolding octets line_form and_then read_form
returns-in_err-word-2 c = rw (c.from_residual-in_err-word-2.ensures, c.in_ok-word.ensures.rest, c.in_ok-from.ensures.told, c.in_err-word-2.ensures) refl

pub returns-in_err-low : goal.returns-in_err-low
unfolding octets line_form and_then read_form
returns-in_err-low c = rw (c.from_residual-in_err-low.ensures, c.in_ok-word.ensures.rest, c.in_ok-from.ensures.told, c.in_ok-word-2.ensures.rest, c.in_err-low.ensures) refl

pub returns-in_err-word-3 : goal.returns-in_err-word-3
unfolding octets line_form and_then read_form
returns-in_err-word-3 c = rw (c.from_residual-in_err-word-3.ensures, c.in_ok-word.ensures.rest, c.in_ok-from.ensures.told, c.in_ok-word-2.ensures.rest, c.in_ok-low.ensures.told, c.in_err-word-3.ensures) refl

pub returns-in_err-high : goal.returns-in_err-high
unfolding octets line_form and_then read_form
returns-in_err-high c = rw (c.from_residual-in_err-high.ensures, c.in_ok-word.ensures.rest, c.in_ok-from.ensures.told, c.in_ok-word-2.ensures.rest, c.in_ok-low.ensures.told, c.in_ok-word-3.ensures.rest, c.in_err-high.ensures) refl

pub returns-in_err-word-4 : goal.returns-in_err-word-4
unfolding octets line_form and_then read_form
returns-in_err-word-4 c = rw (c.from_residual-in_err-word-4.ensures, c.in_ok-word.ensures.rest, c.in_ok-from.ensures.told, c.in_ok-word-2.ensures.rest, c.in_ok-low.ensures.told, c.in_ok-word-3.ensures.rest, c.in_ok-high.ensures.told, c.in_err-word-4.ensures) refl

pub returns-in_err-to : goal.returns-in_err-to
unfolding octets line_form and_then read_form
returns-in_err-to c = rw (c.from_residual-in_err-to.ensures, c.in_ok-word.ensures.rest, c.in_ok-from.ensures.told, c.in_ok-word-2.ensures.rest, c.in_ok-low.ensures.told, c.in_ok-word-3.ensures.rest, c.in_ok-high.ensures.told, c.in_ok-word-4.ensures.rest, c.in_err-to.ensures) refl

pub returns-in_err-word-5 : goal.returns-in_err-word-5
unfolding octets line_form and_then read_form
returns-in_err-word-5 c = rw (c.from_residual-in_err-word-5.ensures, c.in_ok-word.ensures.rest, c.in_ok-from.ensures.told, c.in_ok-word-2.ensures.rest, c.in_ok-low.ensures.told, c.in_ok-word-3.ensures.rest, c.in_ok-high.ensures.told, c.in_ok-word-4.ensures.rest, c.in_ok-to.ensures.told, c.in_err-word-5.ensures) refl

pub returns : goal.returns
unfolding octets line_form and_then read_form
returns c = record {
  inside = c.in_ok-word-5.ensures.inside;
  numbers = c.in_ok-from.ensures.number ∷ c.in_ok-low.ensures.number ∷ c.in_ok-high.ensures.number ∷ c.in_ok-to.ensures.number ∷ [];
  told = rw (c.in_ok-word.ensures.rest, c.in_ok-from.ensures.told, c.in_ok-word-2.ensures.rest, c.in_ok-low.ensures.told, c.in_ok-word-3.ensures.rest, c.in_ok-high.ensures.told, c.in_ok-word-4.ensures.rest, c.in_ok-to.ensures.told, c.in_ok-word-5.ensures.rest) refl;
  values_are = λ i. sym c.in_ok-from.ensures.value_is i ∷ sym c.in_ok-low.ensures.value_is i ∷ sym c.in_ok-high.ensures.value_is i ∷ sym c.in_ok-to.ensures.value_is i ∷ [];
}
