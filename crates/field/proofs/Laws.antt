-- The laws of one field, for any width. All follow from what the bits are: the bits of the octets with a field put are the bits before it, the
-- bits of the value, and the bits after it. So the value comes back, and a field that lies before or after is the one that was there.
-- Assumes nothing.
use mathlib.Core.Bool.{Bool}
use mathlib.Core.List.{List, ◌++◌, append_assoc}
use mathlib.Core.Path.{◌≡◌, sym, ap, ap₂, ◌∙◌}
use Prim.Native.Nat.{ℕ, ◌+◌, ◌-◌, ◌*◌, ◌^◌, ◌≤◌, ◌<◌}
use native.Mathlib.Nat.{lt_of_lt_of_le, min-le_left}
use native.Mathlib.Omega.{arith}
use lib.ListN.{length, take, drop, length-append, length-take, length-drop}
use lib.Pow.{pow_mono}
use lib.Seq.{length-take-le, take_at, drop_at, take-take, drop-drop}
use Rattle.field.specs.Field.{number, bits_of, bits, field_at, with_field, Octets}
use Rattle.field.proofs.Number.{length-bits_of, number_lt, number-bits_of-lt}
use Rattle.field.proofs.Bits.{length-bits, length-octets_of, octets_of-octets, bits-octets_of, within-front}

-- a field is below 2^width
pub field_lt : (os : List ℕ) (at w : ℕ) → field_at os at w < 2 ^ w
unfolding field_at
field_lt os at w =
    let bs : List Bool = drop at (bits os) in
    lt_of_lt_of_le (number_lt (take w bs)) (pow_mono {i = length (take w bs)} {j = w} (omega (arith, length-take w bs, min-le_left w (length bs))))

pub length-with_field : (os : List ℕ) (at w v : ℕ) → length (with_field os at w v) ≡ length os
unfolding with_field
length-with_field os at w v = length-octets_of (length os) _

pub with_field-octets : (os : List ℕ) (at w v : ℕ) → Octets (with_field os at w v)
unfolding with_field
with_field-octets os at w v = octets_of-octets (length os) _

module _ (os : List ℕ) (at w v : ℕ) (h : at + w ≤ 8 * length os) where
  inside : at + w ≤ length (bits os)
  inside = omega (arith, length-bits os)

  front_length : length (take at (bits os)) ≡ at
  front_length = length-take-le at (bits os) (omega (arith, inside))

  upto_length : length (take at (bits os) ++ bits_of w v) ≡ at + w
  upto_length = length-append (take at (bits os)) (bits_of w v) ∙ ap₂ ◌+◌ front_length (length-bits_of w v)

  pub bits-with_field : bits (with_field os at w v) ≡ take at (bits os) ++ bits_of w v ++ drop (at + w) (bits os)
  unfolding with_field
  bits-with_field =
      bits-octets_of (length os) _
      (length-append (take at (bits os) ++ bits_of w v) (drop (at + w) (bits os))
      ∙ omega (arith, upto_length, length-drop (at + w) (bits os), length-bits os))

  -- the bits up to the field's end, and those after it
  pub put_front : take (at + w) (bits (with_field os at w v)) ≡ take at (bits os) ++ bits_of w v
  put_front = ap (λ (l : List Bool). take (at + w) l) bits-with_field ∙ take_at (take at (bits os) ++ bits_of w v) (drop (at + w) (bits os)) (at + w) upto_length

  pub put_back : drop (at + w) (bits (with_field os at w v)) ≡ drop (at + w) (bits os)
  put_back = ap (λ (l : List Bool). drop (at + w) l) bits-with_field ∙ drop_at (take at (bits os) ++ bits_of w v) (drop (at + w) (bits os)) (at + w) upto_length

  -- the bits before it
  pub put-before : take at (bits (with_field os at w v)) ≡ take at (bits os)
  put-before =
      sym (take-take at (at + w) (bits (with_field os at w v)) (omega arith)) ∙ ap (λ (l : List Bool). take at l) put_front
      ∙ take_at (take at (bits os)) (bits_of w v) at front_length

  -- the field's own bits
  pub put-bits : take w (drop at (bits (with_field os at w v))) ≡ bits_of w v
  put-bits =
      ap (λ (l : List Bool). take w (drop at l)) (bits-with_field ∙ append_assoc (take at (bits os)) (bits_of w v) (drop (at + w) (bits os)))
      ∙ ap (λ (l : List Bool). take w l) (drop_at (take at (bits os)) _ at front_length)
      ∙ take_at (bits_of w v) _ w (length-bits_of w v)

  -- taking what was put gives it back
  pub take_put : v < 2 ^ w → field_at (with_field os at w v) at w ≡ v
  unfolding field_at
  take_put hv = ap number put-bits ∙ number-bits_of-lt w v hv

  -- a field that ends before it, or begins after it, is the one that was there
  pub put-earlier : (at' w' : ℕ) → at' + w' ≤ at → field_at (with_field os at w v) at' w' ≡ field_at os at' w'
  unfolding field_at
  put-earlier at' w' e =
      ap number
      (sym (within-front at' w' at (bits (with_field os at w v)) e) ∙ ap (λ (l : List Bool). take w' (drop at' l)) put-before
      ∙ within-front at' w' at (bits os) e)

  pub put_later : (at' w' : ℕ) → at + w ≤ at' → field_at (with_field os at w v) at' w' ≡ field_at os at' w'
  unfolding field_at
  put_later at' w' e =
      ap number (part (bits (with_field os at w v)) ∙ ap (λ (l : List Bool). take w' (drop (at' - (at + w)) l)) put_back ∙ sym (part (bits os)))
    where
      part : (l : List Bool) → take w' (drop at' l) ≡ take w' (drop (at' - (at + w)) (drop (at + w) l))
      part l =
          let d : at + w + (at' - (at + w)) ≡ at' = omega arith in
          sym (ap (λ (x : List Bool). take w' x) (drop-drop (at' - (at + w)) (at + w) l) ∙ ap (λ (k : ℕ). take w' (drop k l)) d)
