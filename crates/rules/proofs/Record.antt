-- The quotation record: 88 bits, 11 octets, and its fields read back give the four kinds and figures. The record is a list of fields packed by the
-- image's law (field's `unpack_of_bits`): no figure of a plan within the limits is above 1,048,064, and 20 bits hold up to 1,048,575, so each value is one of its
-- width's, the fields come back, and a kind and a figure determine what was quoted.
-- Assumes nothing.
use mathlib.Core.Bool.{Bool, true}
use mathlib.Core.List.{List, [], ◌∷◌, ◌++◌}
use mathlib.Core.Path.{◌≡◌, refl, sym, ap, ap₂, ◌∙◌}
use Prim.Native.Nat.{ℕ, ◌+◌, ◌*◌, ◌^◌, ◌<◌}
use native.Mathlib.Omega.{arith}
use lib.ListN.{length, get_or}
use Rattle.field.specs.Field.{Field, AllFit, bits, width_of_all, unpack, field_at}
use Rattle.field.proofs.Bits.{bits-append}
use Rattle.field.proofs.Pack.{length-pack, bits-pack, unpack_of_bits}
use Rattle.graph.specs.declared.Which.{Which}
use Rattle.graph.specs.declared.Which.TheVariants.{LeastDelay, GreatestDelay, LeastCount, GreatestCount}
use Rattle.graph.specs.Which.{place}
use Rattle.graph.specs.Compute.{figure_for}
use Rattle.graph.specs.Figure.{Figure, number, NONE, STRANDED, ENDLESS, kind, value}
use Rattle.graph.specs.Graph.{Graph}
use Rattle.graph.proofs.Known.{figure_of_lem, figure-same}
use Rattle.rules.specs.Image.{field}
use Rattle.rules.specs.Limits.{within}
use Rattle.rules.specs.Quotations.{record_fields, record_octets, record_rows, record_rule}
use Rattle.rules.specs.Refusal.{accepted}
use Rattle.rules.proofs.Results.{not-false}
use Rattle.rules.proofs.Sizes.{figure-fits}
use Rattle.rules.proofs.Tables.{accepted_only}

-- "88 bits, 11 octets"
pub record_width : (g : Graph) → width_of_all (record_fields g) ≡ 8 * 11
unfolding record_fields width_of_all
record_width g = refl

pub length_record : (g : Graph) → length (record_octets g) ≡ 11
unfolding record_octets
length_record g = length-pack (record_fields g) 11 (record_width g)

-- ---- the values fit their widths

kind_fits : (f : Figure) → kind f < 2 ^ 2
kind_fits (number k) = omega arith
kind_fits NONE = omega arith
kind_fits STRANDED = omega arith
kind_fits ENDLESS = omega arith

-- what an accepted record says of the plan and of the length
pub accepted_record : (g : Graph) (buffer : List ℕ) (n : ℕ) → record_rule g buffer ≡ accepted n → (within g ≡ true) × (n ≡ 11)
unfolding record_rule
accepted_record g buffer n e =
    let ((w, b), same) = accepted_only (record_rows g buffer) 11 n e in
    (not-false (within g) w, sym same)

module _ (g : Graph) (w : within g ≡ true) where
  fits : (which : Which) → value (figure_for which g) < 2 ^ 20
  fits which = omega (arith, figure-fits g w which)

  kinds : (which : Which) → kind (figure_for which g) < 2 ^ 2
  kinds which = kind_fits (figure_for which g)

  -- "no figure passes 1,048,064" (document 02, E8), which 20 bits hold
  pub record_fits : AllFit (record_fields g)
  unfolding record_fields AllFit
  record_fits = (
    kinds LeastDelay,
    (fits LeastDelay, (kinds GreatestDelay, (fits GreatestDelay, (kinds LeastCount, (fits LeastCount, (kinds GreatestCount, (fits GreatestCount, tt))))))),
  )

  -- the fields of the octets from the front of the buffer on, whatever comes after them
  pub record_read : (rest : List ℕ) → unpack (record_octets g ++ rest) 0 (2 ∷ 20 ∷ 2 ∷ 20 ∷ 2 ∷ 20 ∷ 2 ∷ 20 ∷ []) ≡ record_fields g
  unfolding record_octets record_fields
  record_read rest =
      unpack_of_bits (record_octets g ++ rest) (record_fields g) 0 (bits rest) record_fits
      (bits-append (record_octets g) rest ∙ ap {B = List Bool} (λ (l : List Bool). l ++ bits rest) (bits-pack (record_fields g) 11 (record_width g)))

  value_at : ℕ → List Field → ℕ
  value_at i fs = (get_or fs i (field 0 0)).value

  read_at : (rest : List ℕ) (i : ℕ) → value_at i (unpack (record_octets g ++ rest) 0 (2 ∷ 20 ∷ 2 ∷ 20 ∷ 2 ∷ 20 ∷ 2 ∷ 20 ∷ [])) ≡ value_at i (record_fields g)
  read_at rest i = ap (value_at i) (record_read rest)

  -- "for least delay, greatest delay, least count, greatest count in turn": what the kinds and figures stand for
  pub record_figures : (rest : List ℕ) (which : Which)
      → figure_of_lem (field_at (record_octets g ++ rest) (22 * place which) 2) (field_at (record_octets g ++ rest) (22 * place which + 2) 20) ≡ figure_for which g
  unfolding record_fields unpack value_at
  record_figures rest LeastDelay = ap₂ figure_of_lem (read_at rest 0) (read_at rest 1) ∙ figure-same (figure_for LeastDelay g)
  record_figures rest GreatestDelay = ap₂ figure_of_lem (read_at rest 2) (read_at rest 3) ∙ figure-same (figure_for GreatestDelay g)
  record_figures rest LeastCount = ap₂ figure_of_lem (read_at rest 4) (read_at rest 5) ∙ figure-same (figure_for LeastCount g)
  record_figures rest GreatestCount = ap₂ figure_of_lem (read_at rest 6) (read_at rest 7) ∙ figure-same (figure_for GreatestCount g)
