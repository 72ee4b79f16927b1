-- Places in a text, and what is read from them. Assumes nothing.
use Rattle.std.specs.Prelude.{ℕ, ◌+◌, ◌-◌, ◌*◌, ◌≤◌, cond, List, [], ◌≡◌, ltb, length, drop}
use Rattle.text.specs.Text.{value}
use Rattle.aldebaran.specs.Form.{Reading, on, read_word, read_number, front}
use Rattle.scan.specs.declared.Taken.{Taken}

-- a word read at a place, and a number
abbrev pub word_then : List ℕ → ℕ → List ℕ → Reading (List ℕ)
word_then text at w = read_word w (drop at text)

abbrev pub number_then : List ℕ → ℕ → Reading ℕ
number_then text at = read_number (drop at text)

-- what was read ended at this place, which lies in the text, and what is left stands there
pub record Passed (text : List ℕ) (read : Reading (List ℕ)) (next : ℕ) : Type 0 where
  pub inside : next ≤ length text
  pub rest : read ≡ on [] (drop next text)

-- ---- numbers, cut off: every limit of a plan, and the number of lines of every text, is below `many`
abbrev pub many : ℕ
many = 10_000_000_000_000_000_000

abbrev pub cut : ℕ → ℕ
cut v = cond (ltb v many) v many

-- one digit more
abbrev pub more : ℕ → ℕ → ℕ
more v d = cond (ltb v 1_000_000_000_000_000_000) (10 * v + (d - 48)) many

-- the digits from the place on: where they end, and their value
pub record DigitsAt (text : List ℕ) (at : ℕ) (r : Taken) : Type 0 where
  pub end : r.next ≡ at + length (front (drop at text))
  pub inside : r.next ≤ length text
  pub number : r.value ≡ cut (value (front (drop at text)))

-- what was read, as a number that is cut off with the place after it, which lies in the text
pub record Tells (text : List ℕ) (read : Reading ℕ) (r : Taken) : Type 0 where
  pub inside : r.next ≤ length text
  pub number : ℕ
  pub told : read ≡ on number (drop r.next text)
  pub value_is : r.value ≡ cut number
