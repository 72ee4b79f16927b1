-- Facts that the definitions give at once: fields of two known octets. A wrong definition makes one of them false.
-- Assumes nothing.
use mathlib.Core.Bool.{true, false}
use mathlib.Core.List.{[], ◌∷◌}
use mathlib.Core.Path.{◌≡◌, refl}
use Rattle.field.specs.Field.{number, bits_of, bits, octets_of, field_at, with_field, bits_of_all, width_of_all, pack, unpack}

-- 11 in four bits, most significant first
eleven : bits_of 4 11 ≡ true ∷ false ∷ true ∷ true ∷ []
unfolding bits_of
eleven = refl

-- the middle octet of 12 34, in hexadecimal digits
middle : field_at (0x12 ∷ 0x34 ∷ []) 4 8 ≡ 0x23
unfolding field_at bits bits_of number
middle = refl

-- three bits of it made 5
changed : with_field (0x12 ∷ 0x34 ∷ []) 6 3 5 ≡ 0x12 ∷ 0xB4 ∷ []
unfolding with_field octets_of bits bits_of number
changed = refl

-- two fields one after another, and back
packed : pack (record { width = 3; value = 5 } ∷ record { width = 13; value = 1 } ∷ []) ≡ 0xA0 ∷ 0x01 ∷ []
unfolding pack octets_of bits_of_all width_of_all bits_of number
packed = refl

unpacked : unpack (0xA0 ∷ 0x01 ∷ []) 0 (3 ∷ 13 ∷ []) ≡ record { width = 3; value = 5 } ∷ record { width = 13; value = 1 } ∷ []
unfolding unpack field_at bits bits_of number
unpacked = refl
