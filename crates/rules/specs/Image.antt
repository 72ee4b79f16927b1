-- The image of a plan, and the plan that octets hold. Document 01, "The image", and the order of read's refusals. Assumes nothing.
use Rattle.std.specs.Prelude.{Bool, not, cond, ◌||◌, List, [], ◌∷◌, ◌++◌, ℕ, zero, suc, ◌+◌, ◌*◌, leb, ltb, eqb, length}
use Rattle.graph.specs.Graph.{Graph, State, Transition, state_with, states, count, start_bit, final_bit, counted_bit, marks_from}
use Rattle.field.specs.Field.{Field, field_at, pack}
use Rattle.rules.specs.declared.Refusal.TheVariants.{ImageShort, ImageLong, Version, StateCount, TransitionCount}
use Rattle.rules.specs.declared.Refusal.TheVariants.{SpareBits, Duration, FromState, ToState}
use Rattle.rules.specs.Refusal.{Result}
use Rattle.rules.specs.Table.{Row, by_table, by_number}
use Rattle.rules.specs.Limits.{state_count_ok, transition_count_ok, durations_ok}

-- the list of f 0 up to f (n - 1)
unfoldable pub tabulate : {A : Type 0} → ℕ → (ℕ → A) → List A
tabulate zero f = []
tabulate (suc n) f = tabulate n f ++ (f n ∷ [])

-- ---- the layout

-- a field by its width and its value
abbrev pub field : ℕ → ℕ → Field
field w v = record { width = w; value = v }

-- the widths of the four fields of the header, of a state and of a transition: "version, 4 bits ..; state count, 10 bits; transition count,
-- 12 bits; pad, 6 bits, zero"
pub record Widths : Type 0 where
  pub first : ℕ
  pub second : ℕ
  pub third : ℕ
  pub fourth : ℕ

abbrev pub header : Widths
header = record { first = 4; second = 10; third = 12; fourth = 6 }

-- "for each state, one octet: start, final, counted, one bit each; then 5" bits: "The five spare bits become a team number" (document 02, E4)
abbrev pub state_item : Widths
state_item = record { first = 1; second = 1; third = 1; fourth = 5 }

-- "for each transition, 40 bits: from, 9; to, 9; low, 11; high, 11"
abbrev pub transition_item : Widths
transition_item = record { first = 9; second = 9; third = 11; fourth = 11 }

-- four values as fields of these widths, one after another
abbrev pub fields_of : Widths → ℕ → ℕ → ℕ → ℕ → List Field
fields_of w a b c d = field w.first a ∷ field w.second b ∷ field w.third c ∷ field w.fourth d ∷ []

abbrev pub header_fields : ℕ → ℕ → ℕ → List Field
header_fields version n m = fields_of header version n m 0

abbrev pub state_fields : State → List Field
state_fields s = fields_of state_item (start_bit s.marks) (final_bit s.marks) (counted_bit s.marks) s.team

abbrev pub transition_fields : Transition → List Field
transition_fields t = fields_of transition_item t.from t.to t.low t.high

-- the fields of one item after another
unfoldable pub fields_of_each : {A : Type 0} → (A → List Field) → List A → List Field
fields_of_each fields [] = []
fields_of_each fields (x ∷ xs) = fields x ++ fields_of_each fields xs

-- "in this order"; a version 1 image has zeros for the teams, so it holds no other plan
unfoldable pub image_fields : ℕ → Graph → List Field
image_fields version g =
    header_fields version (states g) (count g) ++ fields_of_each state_fields g.state_list ++ fields_of_each transition_fields g.transitions

-- the octets of a plan's image by a version
unfoldable pub image_by : ℕ → Graph → List ℕ
image_by version g = pack (image_fields version g)

-- "The image version becomes 2. .. Write always produces version 2" (document 02, E4)
abbrev pub image : Graph → List ℕ
image g = image_by 2 g

-- "The length is 4 + n + 5 × m octets"
abbrev pub image_length : ℕ → ℕ → ℕ
image_length n m = 4 + n + 5 * m

-- ---- reading

-- the field of an item that begins at a bit position, by its place among the four: "one after another"
abbrev pub first_of : Widths → List ℕ → ℕ → ℕ
first_of w os at = field_at os at w.first

abbrev pub second_of : Widths → List ℕ → ℕ → ℕ
second_of w os at = field_at os (at + w.first) w.second

abbrev pub third_of : Widths → List ℕ → ℕ → ℕ
third_of w os at = field_at os (at + (w.first + w.second)) w.third

abbrev pub fourth_of : Widths → List ℕ → ℕ → ℕ
fourth_of w os at = field_at os (at + (w.first + w.second + w.third)) w.fourth

-- the header's, from bit position 0 on
abbrev pub version_of : List ℕ → ℕ
version_of os = first_of header os 0

abbrev pub state_count_of : List ℕ → ℕ
state_count_of os = second_of header os 0

abbrev pub transition_count_of : List ℕ → ℕ
transition_count_of os = third_of header os 0

abbrev pub pad_of : List ℕ → ℕ
pad_of os = fourth_of header os 0

-- the bit positions of state i, and of transition i of an image with n states
abbrev pub state_place : ℕ → ℕ
state_place i = 32 + 8 * i

abbrev pub transition_place : ℕ → ℕ → ℕ
transition_place n i = 32 + 8 * n + 40 * i

-- what the last five bits of a state are: spare in version 1, a team in version 2. "Version 1 .. read with all teams zero"; "in version 2 the spare-bit ground of 6
-- lapses" (document 02, E4)
abbrev pub spare_in : ℕ → ℕ → ℕ
spare_in version five = cond (eqb version 1) five 0

abbrev pub team_in : ℕ → ℕ → ℕ
team_in version five = cond (eqb version 1) 0 five

-- the state at a bit position, and its spare bits
abbrev pub state_at : List ℕ → ℕ → State
state_at os at =
    state_with (marks_from (first_of state_item os at) (second_of state_item os at) (third_of state_item os at))
    (team_in (version_of os) (fourth_of state_item os at))

abbrev pub spare_at : List ℕ → ℕ → ℕ
spare_at os at = spare_in (version_of os) (fourth_of state_item os at)

-- the transition at a bit position
abbrev pub transition_at : List ℕ → ℕ → Transition
transition_at os at =
    record {
      from = first_of transition_item os at;
      to = second_of transition_item os at;
      low = third_of transition_item os at;
      high = fourth_of transition_item os at;
    }

-- the plan that octets hold "by the layout"
unfoldable pub graph_in : List ℕ → Graph
graph_in os =
    record {
      state_list = tabulate (state_count_of os) (λ i. state_at os (state_place i));
      transitions = tabulate (transition_count_of os) (λ i. transition_at os (transition_place (state_count_of os) i));
    }

-- ---- the rows of read

-- "Version 1 and Aldebaran text read ..; other versions return 3." (document 02, E4)
abbrev pub version_ok : ℕ → Bool
version_ok version = eqb version 1 || eqb version 2

-- the header and the length: "1 for under 4 octets, 3, 4, 5, 6 for pad, 1, 2"
unfoldable pub header_rows : List ℕ → List Row
header_rows os =
    (ImageShort, ltb (length os) 4)
    ∷ (Version, not (version_ok (version_of os)))
    ∷ (StateCount, not (state_count_ok (state_count_of os)))
    ∷ (TransitionCount, not (transition_count_ok (transition_count_of os)))
    ∷ (SpareBits, not (eqb (pad_of os) 0))
    ∷ (ImageShort, ltb (length os) (image_length (state_count_of os) (transition_count_of os)))
    ∷ (ImageLong, ltb (image_length (state_count_of os) (transition_count_of os)) (length os))
    ∷ []

-- a state: 6, of version 1
abbrev pub state_rows : List ℕ → ℕ → List Row
state_rows os i = (SpareBits, not (eqb (spare_at os (state_place i)) 0)) ∷ []

-- a transition of a plan with n states: "In join, read and import a bad from returns 16, then a bad to 17, both before 8" (document 02, E3)
abbrev pub transition_rows : ℕ → Transition → List Row
transition_rows n t = (FromState, leb n t.from) ∷ (ToState, leb n t.to) ∷ (Duration, not (durations_ok t)) ∷ []

-- the header, "then states by number, 6; then transitions by number", 16, 17, 8
unfoldable pub image_rows : List ℕ → List Row
image_rows os =
    header_rows os
    ++ (by_number (state_rows os) 0 (state_count_of os)
    ++ by_number (λ i. transition_rows (state_count_of os) (transition_at os (transition_place (state_count_of os) i))) 0 (transition_count_of os))

-- the plan that octets hold, or the refusal
unfoldable pub read_image : List ℕ → Result Graph
read_image os = by_table (image_rows os) (graph_in os)
