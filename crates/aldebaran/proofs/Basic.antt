-- What the definitions say of small texts, computed. Assumes nothing.
use Prim.Native.Nat.{ℕ}
use mathlib.Core.Bool.{Bool, true, false, ◌&&◌}
use mathlib.Core.List.{List, [], ◌∷◌}
use mathlib.Core.Path.{◌≡◌, refl}
use Rattle.text.specs.Text.{octets, leading, digits, value_after, value}
use Rattle.aldebaran.specs.Form.{written, Reading, off, on, and_then, read_word, is_digit, front, is_numeral, read_number, read_form}
use Rattle.aldebaran.specs.Text.{Holding, first_form, line_form, line_text, lines_text, text_of, read_lines, whole, read_text}

-- two states and a transition, in two lines
abbrev pub small : Holding
small = record { initial = 0; states = 2; transitions = record { from = 0; to = 1; low = 5; high = 20 } ∷ [] }

pub small_text : text_of small ≡ octets "des (0, 1, 2)\n(0, \"5..20\", 1)\n"
unfolding octets leading digits written first_form line_form line_text lines_text text_of
small_text = refl

pub small_read : read_text (octets "des (0, 1, 2)\n(0, \"5..20\", 1)\n") ≡ on small []
unfolding octets value_after value and_then read_word is_digit front is_numeral read_number read_form first_form line_form read_lines whole read_text
small_read = refl

-- "a number of any length is on form": a state count past every machine word
pub long-read : read_text (octets "des (0, 0, 18446744073709551616)\n") ≡ on (record { initial = 0; states = 18446744073709551616; transitions = [] }) []
unfolding octets value_after value and_then read_word is_digit front is_numeral read_number read_form first_form line_form read_lines whole read_text
long-read = refl

-- ---- off the form

unfoldable pub is_off : {A : Type 0} → Reading A → Bool
is_off off = true
is_off (on a rest) = false

unfoldable pub all_off : List (List ℕ) → Bool
all_off [] = true
all_off (t ∷ ts) = is_off (read_text t) && all_off ts

-- no text; no line feed, one too many, a carriage return; a space too many, too few; a quotation mark missing; a leading zero, one full stop, a sign, no digit; a line too few,
-- too many; text after the last line; another word, a capital
abbrev pub bad : List (List ℕ)
bad =
    octets ""
    ∷ octets "des (0, 1, 2)\n(0, \"5..20\", 1)"
    ∷ octets "des (0, 1, 2)\n(0, \"5..20\", 1)\n\n"
    ∷ octets "des (0, 1, 2)\r\n(0, \"5..20\", 1)\r\n"
    ∷ octets "des (0, 1, 2) \n(0, \"5..20\", 1)\n"
    ∷ octets "des (0,  1, 2)\n(0, \"5..20\", 1)\n"
    ∷ octets "des (0,1, 2)\n(0, \"5..20\", 1)\n"
    ∷ octets "des (0, 1, 2)\n(0,\"5..20\", 1)\n"
    ∷ octets "des (0, 1, 2)\n(0, 5..20\", 1)\n"
    ∷ octets "des (0, 1, 2)\n(0, \"5..20, 1)\n"
    ∷ octets "des (0, 1, 2)\n(0, \"05..20\", 1)\n"
    ∷ octets "des (00, 1, 2)\n(0, \"5..20\", 1)\n"
    ∷ octets "des (0, 1, 2)\n(0, \"5.20\", 1)\n"
    ∷ octets "des (0, 1, 2)\n(-1, \"5..20\", 1)\n"
    ∷ octets "des (0, 1, 2)\n(, \"5..20\", 1)\n"
    ∷ octets "des (0, 2, 2)\n(0, \"5..20\", 1)\n"
    ∷ octets "des (0, 0, 2)\n(0, \"5..20\", 1)\n"
    ∷ octets "des (0, 1, 2)\n(0, \"5..20\", 1)\n(0"
    ∷ octets "des(0, 1, 2)\n(0, \"5..20\", 1)\n"
    ∷ octets "DES (0, 1, 2)\n(0, \"5..20\", 1)\n"
    ∷ []

pub bad-off : all_off bad ≡ true
unfolding octets value_after value and_then read_word is_digit front is_numeral read_number read_form first_form line_form read_lines whole read_text is_off all_off
bad-off = refl
