-- Lines of fixed words and numbers: how they are written, and how they are read. Document 02, E1. Assumes nothing.
use Rattle.std.specs.Prelude.{ℕ, suc, Bool, true, false, not, cond, ◌&&◌, List, [], ◌∷◌, ◌++◌, leb, eqb, length, drop}
use Rattle.text.specs.Text.{digits, value}

-- a form is a list of fixed words and of places for numbers
pub data Piece : Type 0 where
  word : List ℕ → Piece
  number : Piece

-- how many numbers a form has places for
unfoldable pub numbers : List Piece → ℕ
numbers [] = 0
numbers (word w ∷ ps) = numbers ps
numbers (number ∷ ps) = suc (numbers ps)

-- the octets of a form, with these numbers in turn, each as its decimal numeral
unfoldable pub written : List Piece → List ℕ → List ℕ
written [] ns = []
written (word w ∷ ps) ns = w ++ written ps ns
written (number ∷ ps) [] = []
written (number ∷ ps) (n ∷ ns) = digits n ++ written ps ns

-- ---- reading

-- octets that are off the form, or what was read from their front, with the rest of them
pub data Reading (A : Type 0) : Type 0 where
  off : Reading A
  on : A → List ℕ → Reading A

-- one thing after another
unfoldable pub and_then : {A B : Type 0} → Reading A → (A → List ℕ → Reading B) → Reading B
and_then off f = off
and_then (on a rest) f = f a rest

-- a fixed word, compared octet by octet
unfoldable pub read_word : List ℕ → List ℕ → Reading (List ℕ)
read_word [] xs = on [] xs
read_word (w ∷ ws) [] = off
read_word (w ∷ ws) (x ∷ xs) = cond (eqb w x) (read_word ws xs) off

-- the digits at the front: 48 is "0", 57 is "9"
unfoldable pub is_digit : ℕ → Bool
is_digit x = leb 48 x && leb x 57

unfoldable pub front : List ℕ → List ℕ
front [] = []
front (x ∷ xs) = cond (is_digit x) (x ∷ front xs) []

-- "a number of any length is on form, one with leading zeros isn't"; some digit there must be
unfoldable pub is_numeral : List ℕ → Bool
is_numeral [] = false
is_numeral (d ∷ []) = true
is_numeral (d ∷ e ∷ ds) = not (eqb d 48)

-- a number: its value is the whole number that the digits at the front stand for
unfoldable pub read_number : List ℕ → Reading ℕ
read_number xs = cond (is_numeral (front xs)) (on (value (front xs)) (drop (length (front xs)) xs)) off

-- the numbers of a form, in turn
unfoldable pub read_form : List Piece → List ℕ → Reading (List ℕ)
read_form [] xs = on [] xs
read_form (word w ∷ ps) xs = and_then (read_word w xs) (λ u rest. read_form ps rest)
read_form (number ∷ ps) xs = and_then (read_number xs) (λ n rest. and_then (read_form ps rest) (λ ns rest'. on (n ∷ ns) rest'))

-- ---- forms that can be read back

-- the octets begin with no digit
unfoldable pub no_digit : List ℕ → Bool
no_digit [] = false
no_digit (x ∷ xs) = not (is_digit x)

-- every number is followed by a word that begins with no digit
unfoldable pub parted : List Piece → Bool
parted [] = true
parted (word w ∷ ps) = parted ps
parted (number ∷ []) = false
parted (number ∷ number ∷ ps) = false
parted (number ∷ word w ∷ ps) = no_digit w && parted ps
