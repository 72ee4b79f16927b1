-- What the definitions say of small numbers and lists, computed. Assumes nothing.
use mathlib.Core.List.{[], ◌∷◌}
use mathlib.Core.Path.{◌≡◌, refl}
use Rattle.text.specs.Text.{octets, leading, digits, value_after, value, spaced, listed}

pub zero_is : digits 0 ≡ octets "0"
unfolding octets leading digits
zero_is = refl

pub seven_is : digits 7 ≡ octets "7"
unfolding octets leading digits
seven_is = refl

pub ten_is : digits 10 ≡ 49 ∷ 48 ∷ []
unfolding leading digits
ten_is = refl

-- P10's delay
pub longest-delay-is : digits 1046017 ≡ octets "1046017"
unfolding octets leading digits
longest-delay-is = refl

pub largest-is : digits 4294967295 ≡ octets "4294967295"
unfolding octets leading digits
largest-is = refl

pub value-is : value (octets "1046017") ≡ 1046017
unfolding octets value_after value
value-is = refl

-- "the transitions each after a space"
pub none_listed : listed [] ≡ octets ""
unfolding octets listed
none_listed = refl

pub two_listed : listed (0 ∷ 2047 ∷ []) ≡ octets " 0 2047"
unfolding octets leading digits spaced listed
two_listed = refl
