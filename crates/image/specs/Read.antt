-- What reading an image promises, part by part and whole. Document 01, "The image": "with a running bit position, one after another", and the order
-- of read's refusals. Assumes nothing.
use Rattle.std.specs.Prelude.{List, ◌≡◌, ℕ, ◌+◌, ◌≤◌, ◌<◌, ◌^◌, length, IfOk, Result as Returned}
use Rattle.rules.specs.Answer.{Accepted, Answer}
use Rattle.rules.specs.Image.{tabulate, state_at, state_place, transition_at, transition_place}
use Rattle.rules.specs.Image.{header_rows, state_rows, read_image, state_count_of, transition_count_of}
use Rattle.rules.specs.Refusal.{Result, accepted, refused, said, made}
use Rattle.rules.specs.Table.{first, by_number}
use Rattle.taken.specs.Taken.{listed_rows, past_states, past_transitions, bits_taken}
use Rattle.arrays.specs.Tables.{states_of, transitions_of, graph_of, Later, Fields, LaterFields}
use Rattle.arrays.specs.declared.Counts.{Counts}
use Rattle.rules.specs.declared.Refusal.{Refusal}

-- "then states by number, 6", into the arrays of marks values and of teams; the count grows by the bits from the first state on
pub record StatesRead (os : List ℕ) (n : ℕ) (before after teams teams' : List ℕ) (at taken taken' : ℕ) (r : Answer) : Type 0 where
  pub answer : said r ≡ first (by_number (state_rows os) 0 n)
  pub states : r ≡ Accepted → states_of n after teams' ≡ tabulate n (λ i. state_at os (state_place i))
  pub later : Later n before after
  pub later_teams : Later n teams teams'
  pub all : r ≡ Accepted → at ≡ transition_place n 0
  pub bits : taken' + state_place 0 ≡ taken + past_states os n

-- "then transitions by number", 16, 17, 8; the count grows by the bits from the first transition on
pub record TransitionsRead (os : List ℕ) (n m : ℕ) (before after : Fields) (taken taken' : ℕ) (r : Answer) : Type 0 where
  pub answer : said r ≡ first (by_number (listed_rows os n) 0 m)
  pub transitions : r ≡ Accepted → transitions_of m after.from after.to after.low after.high ≡ tabulate m (λ i. transition_at os (transition_place n i))
  pub later : LaterFields m before after
  pub bits : taken' + transition_place n 0 ≡ taken + past_transitions os n m

-- how many states and transitions of an image may stand in the arrays: its counts, none where its header is refused
abbrev pub counted : Result (Unit {0}) → ℕ → ℕ
counted (accepted u) n = n
counted (refused r) n = 0

abbrev pub states_in : List ℕ → ℕ
states_in os = counted (first (header_rows os)) (state_count_of os)

abbrev pub transitions_in : List ℕ → ℕ
transitions_in os = counted (first (header_rows os)) (transition_count_of os)

-- an image read into arrays: its answer and the plan in the arrays are the rule's, its counts are a plan's and the arrays have the places of one. "Let the reader count the bits it
-- takes over the whole call" (document 02, E6): they are added to the count, and are few
pub record ImageRead (os : List ℕ) (taken taken' : ℕ) (marks teams : List ℕ) (f : Fields) (r : Returned Counts Refusal) : Type 0 where
  pub rule : made r (λ k. graph_of k.states k.transitions marks teams f.from f.to f.low f.high) ≡ read_image os
  pub counts : IfOk r (λ k. (k.states ≡ states_in os) × (k.transitions ≡ transitions_in os))
  pub states : states_in os ≤ 512
  pub transitions : transitions_in os ≤ 2048
  pub room : (512 ≤ length marks) × (512 ≤ length teams) × (2048 ≤ length f.from) × (2048 ≤ length f.to) × (2048 ≤ length f.low) × (2048 ≤ length f.high)
  pub bits : taken' ≡ taken + bits_taken os
  pub few : taken' < taken + 2 ^ 29

-- and places past the counts stay
pub record Fills (os : List ℕ) (taken taken' : ℕ) (before after teams teams' : List ℕ) (fields fields' : Fields) (r : Returned Counts Refusal) : Type 0 where
  pub read : ImageRead os taken taken' after teams' fields' r
  pub marks : Later (states_in os) before after
  pub later_teams : Later (states_in os) teams teams'
  pub later : LaterFields (transitions_in os) fields fields'
