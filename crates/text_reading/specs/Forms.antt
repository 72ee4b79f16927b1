-- Forms read from a place of a text. Assumes nothing.
use Rattle.std.specs.Prelude.{ℕ, ◌≤◌, List, [], ◌∷◌, map, ◌≡◌, length, drop}
use Rattle.aldebaran.specs.Form.{Piece, Reading, on, read_form}
use Rattle.scan.specs.Places.{cut}
use Rattle.text_reading.specs.declared.First.{First}
use Rattle.text_reading.specs.declared.Line.{Line}

-- the numbers of a form, read at a place
abbrev pub form_then : List ℕ → ℕ → List Piece → Reading (List ℕ)
form_then text at form = read_form form (drop at text)

-- what was read, as numbers that are cut off with the place after them, which lies in the text
pub record TellsForm (text : List ℕ) (read : Reading (List ℕ)) (values : List ℕ) (next : ℕ) : Type 0 where
  pub inside : next ≤ length text
  pub numbers : List ℕ
  pub told : read ≡ on numbers (drop next text)
  pub values_are : map cut numbers ≡ values

-- the numbers of a line in their order
abbrev pub first_numbers : First → List ℕ
first_numbers f = f.initial ∷ f.transitions ∷ f.states ∷ []

abbrev pub line_numbers : Line → List ℕ
line_numbers l = l.from ∷ l.low ∷ l.high ∷ l.to ∷ []
