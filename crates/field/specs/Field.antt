-- Packed fields: what a field of a list of octets is, most significant bit first, and what a list of octets with another field is.
-- Document 01, "The image": "Bit-packed fields, most significant bit first". Assumes nothing.
use Rattle.std.specs.Prelude.{Bool, true, false, List, [], ◌∷◌, ◌++◌, map, ℕ, zero, suc, ◌+◌, ◌-◌, ◌*◌, ◌/◌, ◌%◌, ◌^◌, ◌≤◌, ◌<◌, eqb, length, get_or, take, drop}
use Rattle.std.proofs.Math.Seq.{paste}
use Rattle.field.specs.declared.Four.{Four}

-- the value of one bit
abbrev pub bit : Bool → ℕ
bit true = 1
bit false = 0

-- the number that a list of bits stands for, most significant bit first
unfoldable pub number : List Bool → ℕ
number [] = 0
number (b ∷ bs) = bit b * 2 ^ length bs + number bs

-- the lowest w bits of a number, most significant bit first
unfoldable pub bits_of : ℕ → ℕ → List Bool
bits_of zero v = []
bits_of (suc w) v = eqb (v / 2 ^ w % 2) 1 ∷ bits_of w v

-- "An octet is 8 bits": the bits of a list of octets, one octet after another
unfoldable pub bits : List ℕ → List Bool
bits [] = []
bits (o ∷ os) = bits_of 8 o ++ bits os

-- the first k octets of a list of bits
unfoldable pub octets_of : ℕ → List Bool → List ℕ
octets_of zero bs = []
octets_of (suc k) bs = number (take 8 bs) ∷ octets_of k (drop 8 bs)

-- the field of w bits at a bit position: the number that those bits stand for
unfoldable pub field_at : List ℕ → ℕ → ℕ → ℕ
field_at os at w = number (take w (drop at (bits os)))

-- the four fields of a, b, c and d bits from a bit position on: "taken .. with a running bit position, one after another"
abbrev pub four_at : List ℕ → ℕ → ℕ → ℕ → ℕ → ℕ → Four
four_at os at a b c d =
    record { first = field_at os at a; second = field_at os (at + a) b; third = field_at os (at + a + b) c; fourth = field_at os (at + a + b + c) d }

-- the octets with the field of w bits at a bit position made v, and every other bit as it was
unfoldable pub with_field : List ℕ → ℕ → ℕ → ℕ → List ℕ
with_field os at w v = octets_of (length os) (take at (bits os) ++ bits_of w v ++ drop (at + w) (bits os))

-- the octets with those from first up to end made the number v, most significant octet first
unfoldable pub stored : List ℕ → ℕ → ℕ → ℕ → List ℕ
stored os first end v = paste os first (octets_of (end - first) (bits_of (8 * (end - first)) v)) (end - first)

-- every element is an octet
abbrev pub Octets : List ℕ → Type 0
Octets os = (i : ℕ) → get_or os i 0 < 256

-- a field of 1 to 32 bits lies within the octets, at a bit position that a machine word holds
pub record Within (os : List ℕ) (at w : ℕ) : Type 0 where
  pub some : 0 < w
  pub most : w ≤ 32
  pub inside : at + w ≤ 8 * length os
  pub near : at + w < 2 ^ 32

-- w bits, 40 or fewer, lie within the octets, at a bit position that a machine word holds
pub record Spans (os : List ℕ) (at w : ℕ) : Type 0 where
  pub most : w ≤ 40
  pub inside : at + w ≤ 8 * length os
  pub near : at + w < 2 ^ 32

-- a width in bits, and a value
pub record Field : Type 0 where
  pub width : ℕ
  pub value : ℕ

-- four fields by their widths and values
abbrev pub fields_of : ℕ → ℕ → ℕ → ℕ → Four → List Field
fields_of a b c d f =
    record { width = a; value = f.first } ∷ record { width = b; value = f.second } ∷ record { width = c; value = f.third } ∷ record { width = d; value = f.fourth } ∷ []

-- a field's value is one of its width's
abbrev pub Fit : Field → Type 0
Fit f = f.value < 2 ^ f.width

-- the bits of fields one after another, and how many there are
unfoldable pub bits_of_all : List Field → List Bool
bits_of_all [] = []
bits_of_all (f ∷ fs) = bits_of f.width f.value ++ bits_of_all fs

unfoldable pub width_of_all : List Field → ℕ
width_of_all [] = 0
width_of_all (f ∷ fs) = f.width + width_of_all fs

-- the octets that fields fill, one field after another
unfoldable pub pack : List Field → List ℕ
pack fs = octets_of (width_of_all fs / 8) (bits_of_all fs)

-- the fields of the given widths, "with a running bit position, one after another"
unfoldable pub unpack : List ℕ → ℕ → List ℕ → List Field
unpack os at [] = []
unpack os at (w ∷ ws) = record { width = w; value = field_at os at w } ∷ unpack os (at + w) ws

-- the octets with fields put one after another from a bit position
unfoldable pub put_all : List ℕ → ℕ → List Field → List ℕ
put_all os at [] = os
put_all os at (f ∷ fs) = put_all (with_field os at f.width f.value) (at + f.width) fs

-- the widths of fields
abbrev pub widths : List Field → List ℕ
widths fs = map (λ (f : Field). f.width) fs

-- every field's value is one of its width's
unfoldable pub AllFit : List Field → Type 0
AllFit [] = Unit {0}
AllFit (f ∷ fs) = Fit f × AllFit fs
