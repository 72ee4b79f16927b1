-- The bits that a read takes. Document 02, E6: "Let the reader count the bits it takes over the whole call, and show that an accepted image costs exactly eight times
-- its octets and a refused one never more." Fields are taken once, "one after another", an item's four together: the header, a state or a transition. So the bits taken are
-- the bit position behind the item that decides. Assumes nothing.
use Rattle.std.specs.Prelude.{Bool, false, cond, ◌||◌, List, [], ◌∷◌, ◌≡◌, ℕ, zero, suc, ◌+◌, ◌*◌, ◌≤◌, ◌<◌, ltb, length}
use Rattle.rules.specs.declared.Format.{Format}
use Rattle.rules.specs.declared.Format.TheVariants.{Image, Text}
use Rattle.rules.specs.declared.HeldQuotations.{HeldQuotations}
use Rattle.rules.specs.declared.Refusal.{Refusal}
use Rattle.graph.specs.Graph.{Graph}
use Rattle.rules.specs.declared.Refusal.TheVariants.{ImageShort}
use Rattle.rules.specs.Calls.{Call, mark, team, join, unjoin, read, import}
use Rattle.rules.specs.Limits.{within}
use Rattle.rules.specs.Quotations.{QuotesHeld}
use Rattle.rules.specs.Refusal.{Result, accepted, refused}
use Rattle.rules.specs.Table.{Row, first, by_number, NoneHolds}
use Rattle.rules.specs.Image.{state_count_of, transition_count_of, state_place, transition_place, transition_at, graph_in, header_rows, state_rows, transition_rows, image_rows}

-- whether one of the rows holds
unfoldable pub refuses : List Row → Bool
refuses [] = false
refuses ((r, b) ∷ rows) = b || refuses rows

-- how many of k items are taken, from item i on: up to and including the first that is refused, or all
unfoldable pub items_taken : (ℕ → List Row) → ℕ → ℕ → ℕ
items_taken rows i zero = zero
items_taken rows i (suc k) = suc (cond (refuses (rows i)) zero (items_taken rows (suc i) k))

-- the rows of transition i of an image with n states
abbrev pub listed_rows : List ℕ → ℕ → ℕ → List Row
listed_rows os n i = transition_rows n (transition_at os (transition_place n i))

-- the position after the header: of fewer than 4 octets nothing is taken
abbrev pub past_header : List ℕ → ℕ
past_header os = cond (ltb (length os) 4) 0 (state_place 0)

-- the position after n states, or after the one that is refused
abbrev pub past_states : List ℕ → ℕ → ℕ
past_states os n = state_place (items_taken (state_rows os) 0 n)

-- and after m transitions, of a plan with n states
abbrev pub past_transitions : List ℕ → ℕ → ℕ → ℕ
past_transitions os n m = transition_place n (items_taken (listed_rows os n) 0 m)

-- the bits that are taken of octets: states where the header is not refused, and transitions where no state is
unfoldable pub bits_taken : List ℕ → ℕ
bits_taken os =
    cond (refuses (header_rows os)) (past_header os)
    (cond (refuses (by_number (state_rows os) 0 (state_count_of os))) (past_states os (state_count_of os))
    (past_transitions os (state_count_of os) (transition_count_of os)))

-- the bits that a call takes of what it is lent: of an image's, and none where the plan that it is to replace breaks a limit, since 0 comes first. A text has no fields of bits, and no
-- other call is lent octets
abbrev pub bits_of : Graph → Call → ℕ
bits_of g (mark state value) = 0
bits_of g (team state number) = 0
bits_of g (join t) = 0
bits_of g (unjoin number) = 0
bits_of g (read octets) = cond (within g) (bits_taken octets) 0
bits_of g (import text) = 0

-- and a call that makes the plan that octets hold from nothing: of an image's, and none of a text's
abbrev pub bits_in : Format → List ℕ → ℕ
bits_in Image octets = bits_taken octets
bits_in Text octets = 0

-- all four figures of the plan that an image holds, with the bits that were taken of it
abbrev pub QuotesImage : List ℕ → List ℕ → List ℕ → HeldQuotations → Type 0
QuotesImage os before after r = QuotesHeld os before after r.quotations × (r.taken ≡ bits_taken os)

-- k items of which item i is the first that is refused: no row before it holds
pub record RefusedAt (rows : ℕ → List Row) (k i : ℕ) (r : Refusal) : Type 0 where
  pub before : NoneHolds (by_number rows 0 i)
  pub listed : i < k
  pub here : first (rows i) ≡ refused r

-- an image that is refused at state i, and one at transition i
pub record RefusedAtState (os : List ℕ) (i : ℕ) (r : Refusal) : Type 0 where
  pub header : NoneHolds (header_rows os)
  pub state : RefusedAt (state_rows os) (state_count_of os) i r

pub record RefusedAtTransition (os : List ℕ) (i : ℕ) (r : Refusal) : Type 0 where
  pub header : NoneHolds (header_rows os)
  pub states : NoneHolds (by_number (state_rows os) 0 (state_count_of os))
  pub transition : RefusedAt (listed_rows os (state_count_of os)) (transition_count_of os) i r

-- how a read of octets can end, each way with its answer and the bits that were taken: under 4 octets, refused at the header, at a state or at a transition, and accepted
pub data Ends (os : List ℕ) : Result Graph → ℕ → Type 0 where
  short : length os < 4 → Ends os (refused ImageShort) 0
  at-header : (r : Refusal) → 4 ≤ length os → first (header_rows os) ≡ refused r → Ends os (refused r) 32
  at-state : (i : ℕ) (r : Refusal) → RefusedAtState os i r → Ends os (refused r) (32 + 8 * (i + 1))
  at-transition : (i : ℕ) (r : Refusal) → RefusedAtTransition os i r → Ends os (refused r) (32 + 8 * state_count_of os + 40 * (i + 1))
  at-end : NoneHolds (image_rows os) → Ends os (accepted (graph_in os)) (8 * length os)
