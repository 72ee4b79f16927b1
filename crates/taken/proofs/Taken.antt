-- What a read costs. Rows refuse where not all of them fail. Of items by number all are taken where no row holds, i + 1 where item i is the first that is refused, and
-- never more than there are. So the position that a read comes to is known for each way in which it can end: under 4 octets, at the header, at a state, at a
-- transition, and accepted. Where the header is accepted the length is what the counts give, so the end of the last transition is eight times the octets; a position before
-- it is no more. Assumes nothing.
use mathlib.Core.Bool.{Bool, true, false, cond, true≢false}
use mathlib.Core.List.{List, [], ◌∷◌, ◌++◌, append-nil}
use mathlib.Core.Logic.{◌⊎◌, inl, inr, ⊎_elim}
use mathlib.Core.Path.{◌≡◌, refl, sym, ap, ◌∙◌, subst}
use Prim.Native.Nat.{ℕ, zero, suc, ◌+◌, ◌*◌, ◌≤◌, ◌<◌}
use native.Mathlib.Nat.{add-zero, zero-add, add-suc, suc-add, not-suc-le-zero, le_of_suc-le-suc}
use native.Mathlib.Omega.{arith}
use lib.Dec.{ltb}
use lib.ListN.{length}
use borrow.Author.Tests.{lt-ltb, le-ltb, ltb-true, ltb-false}
use Rattle.graph.specs.Graph.{Graph}
use Rattle.rules.specs.declared.Refusal.{Refusal}
use Rattle.rules.specs.declared.Refusal.TheVariants.{ImageShort}
use Rattle.rules.specs.declared.Format.{Format}
use Rattle.rules.specs.declared.Format.TheVariants.{Image, Text}
use Rattle.rules.specs.Calls.{read, replacing}
use Rattle.rules.specs.Limits.{within}
use Rattle.rules.specs.Refusal.{accepted, refused}
use Rattle.rules.specs.Table.{Row, by_table, first, by_number, NoneHolds}
use Rattle.rules.specs.Image.{state_count_of, transition_count_of, state_place, header_rows, state_rows, graph_in, image_rows, read_image}
use Rattle.taken.specs.Taken.{refuses, items_taken, listed_rows, past_header, past_states, past_transitions, bits_taken, bits_of}
use Rattle.taken.specs.Taken.{RefusedAt, RefusedAtState, RefusedAtTransition, Ends, short, at-header as by_header, at-state as by_state, at-transition as by-transition, at-end}
use Rattle.rules.proofs.ReadWrite.{clear_header}
use Rattle.rules.proofs.Results.{never}
use Rattle.rules.proofs.Tables.{accepted_where, accepted_only, after_none, after-refused, none-append, append-none, each_none, item-decides}

-- ---- rows

pub none-refuses : (rows : List Row) → NoneHolds rows → refuses rows ≡ false
unfolding refuses
none-refuses [] h = refl
none-refuses ((s, b) ∷ rows) h = rw h.0 (none-refuses rows h.1)

pub first-refuses : (rows : List Row) (r : Refusal) → first rows ≡ refused r → refuses rows ≡ true
unfolding refuses
first-refuses [] r e = absurd (never tt r (sym e))
first-refuses ((s, true) ∷ rows) r e = refl
first-refuses ((s, false) ∷ rows) r e = first-refuses rows r e

-- the rows that do not refuse
pub refuses-none : (rows : List Row) → refuses rows ≡ false → NoneHolds rows
unfolding refuses
refuses-none [] e = tt
refuses-none ((s, true) ∷ rows) e = absurd (true≢false e)
refuses-none ((s, false) ∷ rows) e = (refl, refuses-none rows e)

-- ---- items by number

module _ (rows : ℕ → List Row) where
  all_from : (n i : ℕ) → NoneHolds (by_number rows i n) → items_taken rows i n ≡ n
  unfolding items_taken by_number
  all_from zero i h = refl
  all_from (suc n) i h =
      let (here, rest) = none-append (rows i) (by_number rows (suc i) n) h in
      rw (none-refuses (rows i) here, all_from n (suc i) rest)

  pub items_all : (n : ℕ) → NoneHolds (by_number rows 0 n) → items_taken rows 0 n ≡ n
  items_all n h = all_from n 0 h

  most_from : (n i : ℕ) → items_taken rows i n ≤ n
  unfolding items_taken
  most_from zero i = omega arith
  most_from (suc n) i = go (refuses (rows i)) (items_taken rows (suc i) n) (most_from n (suc i))
    where
      go : (b : Bool) (k : ℕ) → k ≤ n → suc (cond b zero k) ≤ suc n
      go true k l = omega arith
      go false k l = omega arith

  pub items_most : (n : ℕ) → items_taken rows 0 n ≤ n
  items_most n = most_from n 0

  up-to_from : (n j i : ℕ) → i < n → NoneHolds (by_number rows j i) → refuses (rows (j + i)) ≡ true → items_taken rows j n ≡ suc i
  unfolding items_taken by_number
  up-to_from zero j i l h e = absurd (not-suc-le-zero l)
  up-to_from (suc n) j zero l h e =
      let e' : refuses (rows j) ≡ true = ap (λ (x : ℕ). refuses (rows x)) (sym (add-zero j)) ∙ e in rw e'
  up-to_from (suc n) j (suc i) l h e =
      let (here, rest) = none-append (rows j) (by_number rows (suc j) i) h in
      let e' : refuses (rows (suc j + i)) ≡ true = ap (λ (x : ℕ). refuses (rows x)) (suc-add j i ∙ sym (add-suc j i)) ∙ e in
      rw (none-refuses (rows j) here, up-to_from n (suc j) i (le_of_suc-le-suc l) rest e')

  -- up to and including the item that decides
  pub items_to : (n i : ℕ) (r : Refusal) → RefusedAt rows n i r → items_taken rows 0 n ≡ suc i
  items_to n i r h =
      up-to_from n 0 i h.listed h.before (ap (λ (x : ℕ). refuses (rows x)) (zero-add i) ∙ first-refuses (rows i) r h.here)

  -- and it decides
  pub refused_by : (n i : ℕ) (r : Refusal) → RefusedAt rows n i r → first (by_number rows 0 n) ≡ refused r
  refused_by n i r h =
      item-decides rows n i r h.listed (λ k l. subst (λ (x : ℕ). NoneHolds (rows x)) (zero-add k) (each_none rows i 0 h.before k l)) h.here

-- rows refuse by a number, or none holds
pub decided : (rows : List Row) → NoneHolds rows ⊎ ((r : Refusal) × (first rows ≡ refused r))
decided [] = inl tt
decided ((s, true) ∷ rows) = inr (s, refl)
decided ((s, false) ∷ rows) = ⊎_elim (λ h. inl (refl, h)) (λ x. inr x) (decided rows)

-- and items by number, or there is a first that is refused
module _ (rows : ℕ → List Row) where
  FirstFrom : ℕ → ℕ → Type 0
  FirstFrom j n = (i : ℕ) × (r : Refusal) × (i < n) × NoneHolds (by_number rows j i) × (first (rows (j + i)) ≡ refused r)

  decided_from : (n j : ℕ) → NoneHolds (by_number rows j n) ⊎ FirstFrom j n
  unfolding by_number FirstFrom
  decided_from zero j = inl tt
  decided_from (suc n) j =
      ⊎_elim
      (λ h. ⊎_elim (λ t. inl (append-none (rows j) (by_number rows (suc j) n) h t))
      (λ (i, r, l, b, e). inr (suc i, r, omega arith, append-none (rows j) (by_number rows (suc j) i) h b, ap (λ (x : ℕ). first (rows x)) (add-suc j i ∙ sym (suc-add j i)) ∙ e)) (decided_from n (suc j)))
      (λ (r, e). inr (0, r, omega arith, tt, ap (λ (x : ℕ). first (rows x)) (add-zero j) ∙ e)) (decided (rows j))

  pub items_decided : (n : ℕ) → NoneHolds (by_number rows 0 n) ⊎ ((i : ℕ) × (r : Refusal) × RefusedAt rows n i r)
  unfolding FirstFrom
  items_decided n =
      ⊎_elim (λ h. inl h)
      (λ (i, r, l, b, e). inr (i, r, record { before = b; listed = l; here = ap (λ (x : ℕ). first (rows x)) (sym (zero-add i)) ∙ e })) (decided_from n 0)

-- ---- where a read ends

module _ (os : List ℕ) where
  -- the rows of the states, and of the transitions
  abbrev S : List Row
  S = by_number (state_rows os) 0 (state_count_of os)

  abbrev T : List Row
  T = by_number (listed_rows os (state_count_of os)) 0 (transition_count_of os)

  pub at-header : (r : Refusal) → first (header_rows os) ≡ refused r → bits_taken os ≡ past_header os
  unfolding bits_taken
  at-header r e = rw (first-refuses (header_rows os) r e)

  pub at-states : (r : Refusal) → NoneHolds (header_rows os) → first S ≡ refused r → bits_taken os ≡ past_states os (state_count_of os)
  unfolding bits_taken
  at-states r h e = rw (none-refuses (header_rows os) h, first-refuses S r e)

  pub at-transitions : NoneHolds (header_rows os) → NoneHolds S
      → bits_taken os ≡ past_transitions os (state_count_of os) (transition_count_of os)
  unfolding bits_taken
  at-transitions h s = rw (none-refuses (header_rows os) h, none-refuses S s)

  -- "fewer than 4 octets": nothing
  pub short_taken : length os < 4 → (read_image os ≡ refused ImageShort) × (bits_taken os ≡ 0)
  unfolding read_image image_rows header_rows
  short_taken l =
      let e : ltb (length os) 4 ≡ true = lt-ltb (length os) 4 l in
      let f : first (header_rows os) ≡ refused ImageShort = rw e in
      (rw e, at-header ImageShort f ∙ rw e)

  -- refused at the header: the header
  pub header_taken : (r : Refusal) → 4 ≤ length os → first (header_rows os) ≡ refused r → (read_image os ≡ refused r) × (bits_taken os ≡ 32)
  unfolding read_image image_rows
  header_taken r l e = (after-refused (header_rows os) _ (graph_in os) r e, at-header r e ∙ rw (le-ltb (length os) 4 l))

  -- refused at state i: the header, and the states up to and including it
  pub state_taken : (i : ℕ) (r : Refusal) → RefusedAtState os i r → (read_image os ≡ refused r) × (bits_taken os ≡ 32 + 8 * (i + 1))
  unfolding read_image image_rows
  state_taken i r h =
      let e : first S ≡ refused r = refused_by (state_rows os) (state_count_of os) i r h.state in
      let t : items_taken (state_rows os) 0 (state_count_of os) ≡ suc i = items_to (state_rows os) (state_count_of os) i r h.state in
      (after_none (header_rows os) _ (graph_in os) h.header ∙ after-refused S _ (graph_in os) r e, at-states r h.header e ∙ omega (arith, t))

  -- refused at transition i: the header, the states, and the transitions up to and including it
  pub transition_taken : (i : ℕ) (r : Refusal) → RefusedAtTransition os i r
      → (read_image os ≡ refused r) × (bits_taken os ≡ 32 + 8 * state_count_of os + 40 * (i + 1))
  unfolding read_image image_rows
  transition_taken i r h =
      let e : first T ≡ refused r = refused_by (listed_rows os (state_count_of os)) (transition_count_of os) i r h.transition in
      let t : items_taken (listed_rows os (state_count_of os)) 0 (transition_count_of os) ≡ suc i = items_to (listed_rows os (state_count_of os)) (transition_count_of os) i r h.transition in (
        after_none (header_rows os) (S ++ T) (graph_in os) h.header ∙ after_none S T (graph_in os) h.states
            ∙ ap (λ (rows : List Row). by_table rows (graph_in os)) (sym (append-nil T)) ∙ after-refused T [] (graph_in os) r e,
        at-transitions h.header h.states ∙ omega (arith, t),
      )

  -- refused at its last transition: all of it, though it is refused
  pub last_taken : (i : ℕ) (r : Refusal) → RefusedAtTransition os i r → i + 1 ≡ transition_count_of os → bits_taken os ≡ 8 * length os
  last_taken i r h l = omega (arith, (transition_taken i r h).1, l, (clear_header os h.header).long)

  -- "an accepted image costs exactly eight times its octets"
  pub accepted_taken : (g : Graph) → read_image os ≡ accepted g → bits_taken os ≡ 8 * length os
  unfolding read_image image_rows
  accepted_taken g e =
      let (h, rest) = none-append (header_rows os) (S ++ T) (accepted_only (image_rows os) (graph_in os) g e).0 in
      let (s, t) = none-append S T rest in
      let k = items_all (listed_rows os (state_count_of os)) (transition_count_of os) t in
      at-transitions h s ∙ omega (arith, k, (clear_header os h).long)

  pub header_few : past_header os ≤ 32
  header_few = go (ltb (length os) 4)
    where
      go : (b : Bool) → cond b 0 (state_place 0) ≤ 32
      go true = omega arith
      go false = omega arith

  header-most : (b : Bool) → ltb (length os) 4 ≡ b → cond b 0 (state_place 0) ≤ 8 * length os
  header-most true e = omega arith
  header-most false e = omega (arith, ltb-false (length os) 4 e)

  items_end : NoneHolds (header_rows os) → (b : Bool)
      → cond b (past_states os (state_count_of os)) (past_transitions os (state_count_of os) (transition_count_of os)) ≤ 8 * length os
  items_end h true = omega (arith, items_most (state_rows os) (state_count_of os), (clear_header os h).long)
  items_end h false = omega (arith, items_most (listed_rows os (state_count_of os)) (transition_count_of os), (clear_header os h).long)

  most : (b : Bool) → refuses (header_rows os) ≡ b
      → cond b (past_header os) (cond (refuses S) (past_states os (state_count_of os)) (past_transitions os (state_count_of os) (transition_count_of os))) ≤ 8 * length os
  most true e = header-most (ltb (length os) 4) refl
  most false e = items_end (refuses-none (header_rows os) e) (refuses S)

  -- "and a refused one never more"
  pub never-more : bits_taken os ≤ 8 * length os
  unfolding bits_taken
  never-more = most (refuses (header_rows os)) refl

  -- there is no other way to end: each way by what it answers and takes
  header-ends : (b : Bool) → ltb (length os) 4 ≡ b → (r : Refusal) → first (header_rows os) ≡ refused r → Ends os (read_image os) (bits_taken os)
  header-ends true l r e = let less = ltb-true (length os) 4 l in let (a, t) = short_taken less in rw (a, t) (short less)
  header-ends false l r e = let four = ltb-false (length os) 4 l in let (a, t) = header_taken r four e in rw (a, t) (by_header r four e)

  no_row : NoneHolds (header_rows os) → NoneHolds S → NoneHolds T → NoneHolds (image_rows os)
  unfolding image_rows
  no_row h s t = append-none (header_rows os) (S ++ T) h (append-none S T s t)

  read_whole : NoneHolds (image_rows os) → read_image os ≡ accepted (graph_in os)
  unfolding read_image
  read_whole h = accepted_where (image_rows os) (graph_in os) h

  accepted-ends : NoneHolds (image_rows os) → Ends os (read_image os) (bits_taken os)
  accepted-ends h = let a = read_whole h in rw (a, accepted_taken (graph_in os) a) (at-end h)

  pub ends : Ends os (read_image os) (bits_taken os)
  ends =
      ⊎_elim
      (λ h. ⊎_elim
      (λ s. ⊎_elim (λ t. accepted-ends (no_row h s t))
      (λ (i, r, x).
      let here : RefusedAtTransition os i r = record { header = h; states = s; transition = x } in
      let (a, t) = transition_taken i r here in rw (a, t) (by-transition i r here)) (items_decided (listed_rows os (state_count_of os)) (transition_count_of os)))
      (λ (i, r, x).
      let here : RefusedAtState os i r = record { header = h; state = x } in
      let (a, t) = state_taken i r here in rw (a, t) (by_state i r here)) (items_decided (state_rows os) (state_count_of os)))
      (λ (r, e). header-ends (ltb (length os) 4) refl r e) (decided (header_rows os))

-- ---- what a call takes

-- a read of octets over a plan within the limits takes what is taken of the octets
pub read-bits : (g : Graph) (os : List ℕ) → within g ≡ true → bits_of g (read os) ≡ bits_taken os
read-bits g os w = rw w

-- and nothing is taken where the old plan breaks a limit
pub limits-bits : (g : Graph) (format : Format) (os : List ℕ) → within g ≡ false → bits_of g (replacing format os) ≡ 0
limits-bits g Image os w = rw w
limits-bits g Text os w = refl

-- "never more" of every call: a read takes no more than its octets, and any other call nothing
pub read-most : (g : Graph) (os : List ℕ) → bits_of g (read os) ≤ 8 * length os
read-most g os = go (within g)
  where
    go : (b : Bool) → cond b (bits_taken os) 0 ≤ 8 * length os
    go true = never-more os
    go false = omega arith
