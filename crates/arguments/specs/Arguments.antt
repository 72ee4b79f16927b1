-- What the arguments of generate are: octets with a number, a number and a number in them, each with a line feed after it. A number is one decimal digit or more, as many as there are, leading zeros
-- too; it is its digits' value, cut off as every number that a text holds (scan/specs/Places.antt), far above all limits, so that a count beyond a word is refused as any that is too great. A seed
-- has 32 bits ("From a 32-bit seed s", document 02, E7), so a greater one is none. Assumes nothing.
use Rattle.std.specs.Prelude.{cond, List, [], ◌∷◌, ℕ, leb, length, drop, Option, Some, None}
use Rattle.text.specs.Text.{value}
use Rattle.aldebaran.specs.Form.{Reading, off, on, and_then, read_word, front}
use Rattle.scan.specs.Places.{cut}
use Rattle.arguments.specs.declared.Arguments.{Arguments}

-- a number: the digits at the front, at least one
unfoldable pub read_decimal : List ℕ → Reading ℕ
read_decimal xs = cond (leb 1 (length (front xs))) (on (value (front xs)) (drop (length (front xs)) xs)) off

-- and a line feed, which is 10
unfoldable pub read_argument : List ℕ → Reading ℕ
read_argument xs = and_then (read_decimal xs) (λ v rest. and_then (read_word (10 ∷ []) rest) (λ u rest'. on v rest'))

-- three of them, each from where the one before ended
pub record Three : Type 0 where
  pub seed : ℕ
  pub states : ℕ
  pub transitions : ℕ

unfoldable pub three_in : List ℕ → Reading Three
three_in xs =
    and_then (read_argument xs) (λ s ys. and_then (read_argument ys) (λ n zs. and_then (read_argument zs) (λ m end. on (record { seed = s; states = n; transitions = m }) end)))

-- what they are to generate
abbrev pub given : Three → Option Arguments
given t = cond (leb t.seed 4294967295) (Some (record { seed = t.seed; states = cut t.states; transitions = cut t.transitions })) None

-- and that is all
abbrev pub as_given : Reading Three → Option Arguments
as_given off = None
as_given (on t []) = given t
as_given (on t (x ∷ rest)) = None

unfoldable pub arguments_in : List ℕ → Option Arguments
arguments_in octets = as_given (three_in octets)

-- ---- read from a place of the octets

abbrev pub decimal_then : List ℕ → ℕ → Reading ℕ
decimal_then octets at = read_decimal (drop at octets)

abbrev pub argument_then : List ℕ → ℕ → Reading ℕ
argument_then octets at = read_argument (drop at octets)
