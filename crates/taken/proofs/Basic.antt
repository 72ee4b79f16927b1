-- Facts that the definitions give at once, on small images; proof files are checked in the order of their names, so a wrong definition is refused here first. Assumes nothing.
use mathlib.Core.List.{List, [], ◌∷◌}
use mathlib.Core.Path.{◌≡◌, refl}
use Prim.Native.Nat.{ℕ, ◌+◌, ◌*◌}
use Rattle.field.specs.Field.{pack, octets_of, bits, bits_of, bits_of_all, width_of_all, number, field_at}
use Rattle.graph.specs.Graph.{Transition}
use Rattle.graph.specs.Known.{plan, join as to-join}
use Rattle.rules.specs.Image.{image, image_by, image_fields, fields_of_each, header_rows}
use Rattle.rules.specs.Table.{by_number}
use Rattle.rules.proofs.Basic.{octets}
use Rattle.taken.specs.Taken.{refuses, items_taken, bits_taken}

-- of no octets and of three nothing; of a header that is refused, by its version or by a length that its counts do not give, 32; the known octets all, 8 each
pub taken_header : (bits_taken [] ≡ 0) × (bits_taken (0x20 ∷ 0x04 ∷ 0x00 ∷ []) ≡ 0) × (bits_taken (0x30 ∷ 0x04 ∷ 0x00 ∷ 0x00 ∷ 0x80 ∷ []) ≡ 32)
    × (bits_taken (0x20 ∷ 0x04 ∷ 0x00 ∷ 0x00 ∷ []) ≡ 32) × (bits_taken (0x20 ∷ 0x04 ∷ 0x00 ∷ 0x00 ∷ 0x80 ∷ 0x00 ∷ []) ≡ 32)
unfolding bits_taken refuses header_rows by_number items_taken field_at bits bits_of number
taken_header = (refl, refl, refl, refl, refl)

pub taken_known : bits_taken octets ≡ 8 * 28
unfolding bits_taken refuses header_rows by_number items_taken octets field_at bits bits_of number
taken_known = refl

-- two states of version 1 and a transition that is refused: at the first state, at the second, and at the transition, the last
pub taken_states : (bits_taken (0x10 ∷ 0x08 ∷ 0x00 ∷ 0x40 ∷ 0x81 ∷ 0x41 ∷ 0x01 ∷ 0x00 ∷ 0x40 ∷ 0x08 ∷ 0x01 ∷ []) ≡ 32 + 8)
    × (bits_taken (0x10 ∷ 0x08 ∷ 0x00 ∷ 0x40 ∷ 0x80 ∷ 0x41 ∷ 0x01 ∷ 0x00 ∷ 0x40 ∷ 0x08 ∷ 0x01 ∷ []) ≡ 32 + 8 + 8)
    × (bits_taken (0x10 ∷ 0x08 ∷ 0x00 ∷ 0x40 ∷ 0x80 ∷ 0x40 ∷ 0x01 ∷ 0x00 ∷ 0x40 ∷ 0x08 ∷ 0x01 ∷ []) ≡ 8 * 11)
unfolding bits_taken refuses header_rows by_number items_taken field_at bits bits_of number
taken_states = (refl, refl, refl)

-- an image of two states, by its transitions: refused at the first by its from, at the second by its durations, and at none
abbrev one_way : Transition
one_way = to-join 0 1 5 20

abbrev back : Transition
back = to-join 1 0 2 3

abbrev takes : List Transition → ℕ
takes ts = bits_taken (image (plan (4 ∷ 2 ∷ []) ts))

pub taken_transitions : (takes (to-join 2 1 1 1 ∷ one_way ∷ []) ≡ 32 + 16 + 40) × (takes (one_way ∷ to-join 0 1 5 3 ∷ back ∷ []) ≡ 32 + 16 + 80)
    × (takes (one_way ∷ back ∷ []) ≡ 8 * (4 + 2 + 10)) × (takes [] ≡ 8 * (4 + 2))
unfolding bits_taken refuses header_rows by_number items_taken image_by image_fields fields_of_each pack octets_of bits_of bits_of_all width_of_all number field_at bits
taken_transitions = (refl, refl, refl, refl)
