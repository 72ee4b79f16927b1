-- The whole image from its parts. The rows of the image are the header's, the states' and the transitions', one after another: a refused part decides
-- where no row before it holds, and where no row holds at all the octets hold the plan that stands in the arrays. The bits taken are the position after the part that decides.
-- Assumes nothing.
use mathlib.Core.List.{List, [], ◌++◌, append-nil}
use mathlib.Core.Path.{◌≡◌, refl, sym, ap, ap₂, ◌∙◌}
use Prim.Native.Nat.{ℕ}
use native.Mathlib.Omega.{arith}
use borrow.Author.Tests.{le-ltb}
use lib.ListN.{length}
use Rattle.rules.specs.declared.Refusal.{Refusal}
use Rattle.rules.specs.Image.{tabulate, state_count_of, transition_count_of, state_at, state_place, transition_at, transition_place, graph_in}
use Rattle.rules.specs.Image.{header_rows, state_rows, image_rows, read_image}
use Rattle.taken.specs.Taken.{listed_rows, past_header, past_states, past_transitions, bits_taken}
use Rattle.rules.specs.Refusal.{accepted, refused}
use Rattle.image.specs.Read.{states_in, transitions_in}
use Rattle.rules.specs.Table.{Row, by_table, first, by_number, NoneHolds}
use Rattle.rules.proofs.ReadWrite.{Header, clear_header}
use Rattle.taken.proofs.Taken.{items_all, at-states, at-transitions}
use Rattle.rules.proofs.Tables.{accepted_where, accepted_only, after_none, after-refused}
use Rattle.arrays.specs.Tables.{states_of, transitions_of, graph_of}

-- the rows of n states, and of m transitions of a plan with n states
abbrev pub states_rows : List ℕ → ℕ → List Row
states_rows os n = by_number (state_rows os) 0 n

abbrev pub transitions_rows : List ℕ → ℕ → ℕ → List Row
transitions_rows os n m = by_number (listed_rows os n) 0 m

clear : (rows : List Row) → first rows ≡ accepted tt → NoneHolds rows
clear rows e = (accepted_only rows tt tt e).0

pub by_header : (os : List ℕ) (r : Refusal) → first (header_rows os) ≡ refused r → read_image os ≡ refused r
unfolding read_image image_rows
by_header os r e =
    after-refused (header_rows os) (states_rows os (state_count_of os) ++ transitions_rows os (state_count_of os) (transition_count_of os)) (graph_in os) r e

-- what is known once the header is accepted: the two counts are the image's
pub record Head (os : List ℕ) (n m : ℕ) : Type 0 where
  pub rows : first (header_rows os) ≡ accepted tt
  pub states : n ≡ state_count_of os
  pub transitions : m ≡ transition_count_of os

pub header : (os : List ℕ) (n m : ℕ) → Head os n m → Header os
header os n m h = clear_header os (clear (header_rows os) h.rows)

-- so the counts that may stand in the arrays are the image's, and none beside a refusal of the header
pub none-counted : (os : List ℕ) (r : Refusal) → first (header_rows os) ≡ refused r → (states_in os ≡ 0) × (transitions_in os ≡ 0)
none-counted os r e = (rw e refl, rw e refl)

pub states-counted : (os : List ℕ) (n m : ℕ) → Head os n m → n ≡ states_in os
states-counted os n m h = rw h.rows h.states

pub transitions-counted : (os : List ℕ) (n m : ℕ) → Head os n m → m ≡ transitions_in os
transitions-counted os n m h = rw h.rows h.transitions

module _ (os : List ℕ) (n m : ℕ) (h : Head os n m) where
  S : List Row
  S = states_rows os (state_count_of os)

  T : List Row
  T = transitions_rows os (state_count_of os) (transition_count_of os)

  same-states : first S ≡ first (states_rows os n)
  unfolding S
  same-states = ap (λ (k : ℕ). first (states_rows os k)) (sym h.states)

  same-transitions : first T ≡ first (transitions_rows os n m)
  unfolding T
  same-transitions = ap₂ (λ (k j : ℕ). first (transitions_rows os k j)) (sym h.states) (sym h.transitions)

  -- the position after the header is that of the first state
  pub begun : past_header os ≡ state_place 0
  begun = rw (le-ltb (length os) 4 (omega (arith, (header os n m h).long)))

  past-header : read_image os ≡ by_table (S ++ T) (graph_in os)
  unfolding read_image image_rows S T
  past-header = after_none (header_rows os) (S ++ T) (graph_in os) (clear (header_rows os) h.rows)

  pub by_states : (r : Refusal) → first (states_rows os n) ≡ refused r → read_image os ≡ refused r
  by_states r e = past-header ∙ after-refused S T (graph_in os) r (same-states ∙ e)

  pub states-count : (r : Refusal) → first (states_rows os n) ≡ refused r → bits_taken os ≡ past_states os n
  unfolding S
  states-count r e = at-states os r (clear (header_rows os) h.rows) (same-states ∙ e) ∙ ap (past_states os) (sym h.states)

  module _ (s : first (states_rows os n) ≡ accepted tt) where
    -- the position after the states is that of the first transition
    pub all-states : past_states os n ≡ transition_place n 0
    all-states = omega (arith, items_all (state_rows os) n (clear (states_rows os n) s))

    pub transitions-count : bits_taken os ≡ past_transitions os n m
    unfolding S
    transitions-count =
        at-transitions os (clear (header_rows os) h.rows) (clear S (same-states ∙ s)) ∙ ap₂ (past_transitions os) (sym h.states) (sym h.transitions)

    past-states : read_image os ≡ by_table T (graph_in os)
    past-states = past-header ∙ after_none S T (graph_in os) (clear S (same-states ∙ s))

    pub by_transitions : (r : Refusal) → first (transitions_rows os n m) ≡ refused r → read_image os ≡ refused r
    by_transitions r e =
        past-states ∙ ap (λ (rows : List Row). by_table rows (graph_in os)) (sym (append-nil T)) ∙ after-refused T [] (graph_in os) r (same-transitions ∙ e)

    pub by_none : (marks teams from to low high : List ℕ) → first (transitions_rows os n m) ≡ accepted tt
        → states_of n marks teams ≡ tabulate n (λ i. state_at os (state_place i))
        → transitions_of m from to low high ≡ tabulate m (λ i. transition_at os (transition_place n i))
        → read_image os ≡ accepted (graph_of n m marks teams from to low high)
    unfolding graph_in
    by_none marks teams from to low high t es et =
        past-states ∙ accepted_where T (graph_in os) (clear T (same-transitions ∙ t))
        ∙ λ i. accepted (record {
          state_list = sym (es ∙ ap (λ (k : ℕ). tabulate k (λ i. state_at os (state_place i))) h.states) i;
          transitions = sym (et ∙ ap₂ (λ (k j : ℕ). tabulate j (λ i. transition_at os (transition_place k i))) h.states h.transitions) i;
        })
