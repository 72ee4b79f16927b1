-- The grounds of a transition, and which numbers the calls that are given transitions can answer. "In join, read and import a bad from returns 16, then a bad to 17, both
-- before 8; number 7 remains for mark and for an import's initial state" (document 02, E3). Each row of such a call has a number of the call's list (`join_among`,
-- `image_among`, `text_among`), and so has whatever refuses it (`holds_among`). 7 is on import's list alone, and there only where the initial state is no state (`import_7`).
-- Assumes nothing.
use mathlib.Core.Bool.{Bool, true, false, ◌||◌, true≢false}
use mathlib.Core.List.{List, [], ◌∷◌, ◌++◌}
use mathlib.Core.Logic.{inl, inr}
use mathlib.Core.Path.{◌≡◌, refl, sym, ap, ◌∙◌, subst}
use Prim.Native.Nat.{ℕ, zero, suc, ◌≤◌, ◌<◌}
use borrow.Author.Tests.{leb-true, le-leb, lt-leb}
use lib.Dec.{eqb}
use Rattle.graph.specs.Graph.{Graph, Transition}
use Rattle.aldebaran.specs.Form.{Reading, off, on}
use Rattle.aldebaran.specs.Text.{Holding, read_text}
use Rattle.rules.specs.declared.Refusal.{Refusal}
use Rattle.rules.specs.declared.Refusal.TheVariants.{PlanLimits, StateCount, TransitionCount, StateNumber, TextForm, FromState, ToState}
use Rattle.rules.specs.Refusal.{refused, number}
use Rattle.rules.specs.Table.{Row, by_table, first, by_number, each, Holds}
use Rattle.rules.specs.Image.{state_count_of, transition_count_of, transition_place, transition_at, header_rows, state_rows, transition_rows, image_rows, graph_in}
use Rattle.rules.specs.Rules.{with_transition, limit_row, join_rows, read_rows}
use Rattle.rules.specs.Aldebaran.{holding_rows, reading_rows, text_rows, graph_in_text, import_rows}
use Rattle.rules.specs.Calls.{join, read, import, step}
use Rattle.rules.proofs.Tables.{only_grounds}

-- ---- the ends

-- "a bad from returns 16", whatever else is wrong with the transition
pub bad_from : (n : ℕ) (t : Transition) → n ≤ t.from → first (transition_rows n t) ≡ refused FromState
bad_from n t h = rw (le-leb n t.from h)

-- "then a bad to 17", whatever its durations are
pub bad-to : (n : ℕ) (t : Transition) → t.from < n → n ≤ t.to → first (transition_rows n t) ≡ refused ToState
bad-to n t h k = rw (lt-leb n t.from h, le-leb n t.to k)

-- ---- the numbers of rows

-- a number is one of these
abbrev pub listed : ℕ → List ℕ → Bool
listed k [] = false
listed k (x ∷ xs) = eqb k x || listed k xs

-- each row has one of these numbers
abbrev pub Among : List ℕ → List Row → Type 0
Among ks [] = Unit {0}
Among ks ((r, b) ∷ rows) = (listed (number r) ks ≡ true) × Among ks rows

module _ (ks : List ℕ) where
  -- so has the row that holds
  pub holds_among : (rows : List Row) (r : Refusal) → Among ks rows → Holds r rows → listed (number r) ks ≡ true
  holds_among [] r h k = absurd k
  holds_among ((s, b) ∷ rows) r h (inl (p, q)) = subst (λ (x : Refusal). listed (number x) ks ≡ true) p h.0
  holds_among ((s, b) ∷ rows) r h (inr k) = holds_among rows r h.1 k

  -- and what refuses the call
  pub answered_among : {A : Type 0} (rows : List Row) (a : A) (r : Refusal) → Among ks rows → by_table rows a ≡ refused r → listed (number r) ks ≡ true
  answered_among rows a r h e = holds_among rows r h (only_grounds rows a r e)

  pub among_append : (xs ys : List Row) → Among ks xs → Among ks ys → Among ks (xs ++ ys)
  among_append [] ys p q = q
  among_append ((s, b) ∷ xs) ys p q = (p.0, among_append xs ys p.1 q)

  among_number : (rows : ℕ → List Row) → ((i : ℕ) → Among ks (rows i)) → (i k : ℕ) → Among ks (by_number rows i k)
  unfolding by_number
  among_number rows p i zero = tt
  among_number rows p i (suc k) = among_append (rows i) (by_number rows (suc i) k) (p i) (among_number rows p (suc i) k)

  among_each : {A : Type 0} (rows : A → List Row) → ((a : A) → Among ks (rows a)) → (items : List A) → Among ks (each rows items)
  unfolding each
  among_each rows p [] = tt
  among_each rows p (a ∷ items) = among_append (rows a) (each rows items) (p a) (among_each rows p items)

-- a list with one number more
pub among_more : (k : ℕ) (ks : List ℕ) (rows : List Row) → Among ks rows → Among (k ∷ ks) rows
among_more k ks [] h = tt
among_more k ks ((r, b) ∷ rows) h = (or_true (eqb (number r) k) h.0, among_more k ks rows h.1)
  where
    or_true : (a : Bool) {c : Bool} → c ≡ true → (a || c) ≡ true
    or_true true e = refl
    or_true false e = e

-- ---- join, read and import

-- "In join", after 0
abbrev pub join_numbers : List ℕ
join_numbers = 16 ∷ 17 ∷ 8 ∷ 9 ∷ []

pub join_among : (g : Graph) (t : Transition) → Among (0 ∷ join_numbers) (join_rows g t)
join_among g t = (refl, (refl, (refl, (refl, (refl, tt)))))

-- "Order in read", after 0
abbrev pub image_numbers : List ℕ
image_numbers = 1 ∷ 3 ∷ 4 ∷ 5 ∷ 6 ∷ 2 ∷ 16 ∷ 17 ∷ 8 ∷ []

pub image_among : (octets : List ℕ) → Among image_numbers (image_rows octets)
unfolding image_rows header_rows
image_among octets =
    let n : ℕ = state_count_of octets in
    let m : ℕ = transition_count_of octets in
    let transitions : ℕ → List Row = λ i. transition_rows n (transition_at octets (transition_place n i)) in
    among_append image_numbers (header_rows octets) (by_number (state_rows octets) 0 n ++ by_number transitions 0 m) (refl, (refl, (refl, (refl, (refl, (refl, (refl, tt)))))))
    (among_append image_numbers (by_number (state_rows octets) 0 n) (by_number transitions 0 m) (among_number image_numbers (state_rows octets) (λ i. (refl, tt)) 0 n)
    (among_number image_numbers transitions (λ i. (refl, (refl, (refl, tt)))) 0 m))

-- the order in import, after 0
abbrev pub text_numbers : List ℕ
text_numbers = 15 ∷ 4 ∷ 5 ∷ 7 ∷ 16 ∷ 17 ∷ 8 ∷ []

pub text_among : (text : List ℕ) → Among text_numbers (text_rows text)
unfolding text_rows holding_rows
text_among text = go (read_text text)
  where
    go : (r : Reading Holding) → Among text_numbers (reading_rows r)
    go off = (refl, tt)
    go (on h rest) = (refl, (refl, (refl, (refl, among_each text_numbers (transition_rows h.states) (λ t. (refl, (refl, (refl, tt)))) h.transitions))))

-- of a whole call, 0 among them
pub read_among : (g : Graph) (octets : List ℕ) → Among (0 ∷ image_numbers) (read_rows g octets)
read_among g octets = (refl, among_more 0 image_numbers (image_rows octets) (image_among octets))

pub import_among : (g : Graph) (text : List ℕ) → Among (0 ∷ text_numbers) (import_rows g text)
import_among g text = (refl, among_more 0 text_numbers (text_rows text) (text_among text))

-- what each of them can answer: "These conditions are the only grounds."
pub join_answers : (g : Graph) (t : Transition) (r : Refusal) → step g (join t) ≡ refused r → listed (number r) (0 ∷ join_numbers) ≡ true
join_answers g t r e = answered_among (0 ∷ join_numbers) (join_rows g t) (with_transition g t) r (join_among g t) e

pub read-answers : (g : Graph) (octets : List ℕ) (r : Refusal) → step g (read octets) ≡ refused r → listed (number r) (0 ∷ image_numbers) ≡ true
read-answers g octets r e = answered_among (0 ∷ image_numbers) (read_rows g octets) (graph_in octets) r (read_among g octets) e

pub import-answers : (g : Graph) (text : List ℕ) (r : Refusal) → step g (import text) ≡ refused r → listed (number r) (0 ∷ text_numbers) ≡ true
import-answers g text r e = answered_among (0 ∷ text_numbers) (import_rows g text) (graph_in_text text) r (import_among g text) e

-- an import that is refused by 7 has an initial state that is none
pub import_7 : (g : Graph) (text : List ℕ) → step g (import text) ≡ refused StateNumber → (h : Holding) × (rest : List ℕ) × (read_text text ≡ on h rest) × (h.states ≤ h.initial)
unfolding text_rows holding_rows
import_7 g text e = go (read_text text) refl (only_grounds (import_rows g text) (graph_in_text text) StateNumber e)
  where
    other : (r : Refusal) → eqb (number r) 7 ≡ false → r ≡ StateNumber → ⊥
    other r d p = true≢false (sym (ap (λ (x : Refusal). eqb (number x) 7) p) ∙ d)

    go : (r : Reading Holding) → read_text text ≡ r → Holds StateNumber (limit_row g ∷ reading_rows r) → (h : Holding) × (rest : List ℕ) × (read_text text ≡ on h rest) × (h.states ≤ h.initial)
    go r p (inl (q, b)) = absurd (other PlanLimits refl q)
    go off p (inr (inl (q, b))) = absurd (other TextForm refl q)
    go off p (inr (inr k)) = absurd k
    go (on h rest) p (inr (inl (q, b))) = absurd (other TextForm refl q)
    go (on h rest) p (inr (inr (inl (q, b)))) = absurd (other StateCount refl q)
    go (on h rest) p (inr (inr (inr (inl (q, b))))) = absurd (other TransitionCount refl q)
    go (on h rest) p (inr (inr (inr (inr (inl (q, b)))))) = (h, rest, p, leb-true h.states h.initial b)
    go (on h rest) p (inr (inr (inr (inr (inr k))))) =
        let rows : List Row = each (transition_rows h.states) h.transitions in
        let lines : Among (16 ∷ 17 ∷ 8 ∷ []) rows = among_each (16 ∷ 17 ∷ 8 ∷ []) (transition_rows h.states) (λ t. (refl, (refl, (refl, tt)))) h.transitions in
        absurd (true≢false (sym (holds_among (16 ∷ 17 ∷ 8 ∷ []) rows StateNumber lines k)))
