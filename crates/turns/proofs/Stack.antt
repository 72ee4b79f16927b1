-- What the turns of the depth-first search share. What the search keeps is `Searching`: a state has rank 0 until it is entered, 513 and its place while it
-- is on the stack, 1 and its place in the order of leaving once it is left. The states on the stack are different, and so are those left, since their
-- ranks are (`apart`): by pigeonhole one more that is not among them makes no more than n (`room`). Assumes nothing.
use mathlib.Core.List.{List, [], ◌∷◌, ◌++◌}
use mathlib.Core.Logic.{◌⊎◌, inl, inr, ◌≢◌}
use mathlib.Core.Path.{◌≡◌, sym, ◌∙◌}
use Prim.Native.Nat.{ℕ, suc, ◌+◌, ◌-◌, ◌≤◌, ◌<◌}
use native.Mathlib.Omega.{arith}
use borrow.Author.Tests.{lt-ltb, le-ltb, ne_eqb, eq-eqb}
use lib.ListN.{length, set, take, length-append}
use lib.Seq.{get_or-take, length-take-le}
use Rattle.graph.proofs.Repeat.{Apart, nth_snoc, Snoc, different-take, different_snoc, different-length}
use Rattle.search.specs.Arrays.{Arrays, at, FinalIn, Leaves}
use Rattle.search.specs.Chain.{none, First}
use Rattle.turns.specs.declared.Table.{Table}
use Rattle.turns.specs.Search.{table, Placed, Underway, to_do}

-- one more number that is none of the first k
pub room : (n : ℕ) (xs : List ℕ) (k v : ℕ) → k ≤ length xs → v < n → ((i : ℕ) → i < k → at xs i < n) → Apart (at xs) k
    → ((i : ℕ) → i < k → at xs i ≡ v → ⊥) → k < n
room n xs k v h l b a new =
    let f = different-length n (take k xs ++ (v ∷ [])) (different_snoc (take k xs) v absent (different-take xs k a)) below in
    omega (arith, simp (length-append, length-take-le k xs h) at f)
  where
    long : length (take k xs) ≡ k
    long = length-take-le k xs h

    absent : (i : ℕ) → i < length (take k xs) → at (take k xs) i ≡ v → ⊥
    absent i g e = new i (omega (arith, long)) (sym (get_or-take k xs i 0 (omega (arith, long))) ∙ e)

    below : (i : ℕ) → i < length (take k xs ++ (v ∷ [])) → at (take k xs ++ (v ∷ [])) i < n
    below i g = go (nth_snoc (take k xs) v i g)
      where
        go : Snoc (take k xs) v i → at (take k xs ++ (v ∷ [])) i < n
        go (inl u) = rw (u.1, get_or-take k xs i 0 (omega (arith, long))) (b i (omega (arith, long)))
        go (inr u) = rw u.1 l

-- numbers whose ranks rise are apart
pub apart : (rank xs : List ℕ) (k r : ℕ) → ((i : ℕ) → i < k → at rank (at xs i) ≡ r + i) → Apart (at xs) k
apart rank xs k r f i j l h e =
    let p = f i (omega arith) in
    let q = f j h in
    let w : at rank (at xs i) ≡ at rank (at xs j) = rw e in
    omega arith

-- a transition may be passed where it leads to a final state or to one that was left; for x it is behind, where that was left before x
abbrev pub Passable : Arrays → List ℕ → ℕ → Type 0
Passable A rank t = FinalIn A.marks (at A.to t) ⊎ ((0 < at rank (at A.to t)) × (at rank (at A.to t) < 513))

abbrev pub Behind : Arrays → List ℕ → ℕ → ℕ → Type 0
Behind A rank x t = FinalIn A.marks (at A.to t) ⊎ ((0 < at rank (at A.to t)) × (at rank (at A.to t) < 513) × (at rank (at A.to t) < at rank x))

-- u is the end of a chain, or a transition that leaves x
abbrev pub Next : Arrays → ℕ → ℕ → Type 0
Next A x u = (u ≤ none) × (u < none → Leaves A x u)

pub next_of : (A : Arrays) {i x u : ℕ} → First A.from A.m i x u → Next A x u
next_of A f = (f.most, λ l. let h = f.listed l in record { listed = h.1; source = h.2 })

-- a place after a store
abbrev pub Stored : List ℕ → ℕ → ℕ → ℕ → Type 0
Stored xs i x j = ((j ≡ i) × (at (set xs i x) j ≡ x)) ⊎ ((j ≢ i) × (at (set xs i x) j ≡ at xs j))

-- what is left to do at a state that was not entered, at one that was left, and at one on the stack
pub to_do_new : (r c : ℕ) → r ≡ 0 → to_do r c ≡ 3000
to_do_new r c e = rw (eq-eqb r 0 e)

pub to_do_left : (r c : ℕ) → 0 < r → r < 513 → to_do r c ≡ 0
to_do_left r c e l = rw (ne_eqb r 0 (λ w. omega arith), lt-ltb r 513 l)

pub to_do_open : (r c : ℕ) → 513 ≤ r → to_do r c ≡ 2049 - c
to_do_open r c l = rw (ne_eqb r 0 (λ w. omega arith), le-ltb r 513 l)

-- the arrays once v is on the stack at place d, entered by a transition; once s is left, after `done` others; once the cursor of s is at u
abbrev pub on_stack : Table → List ℕ → ℕ → ℕ → ℕ → Table
on_stack a head d v by = table (set a.rank v (513 + d)) (set a.cursor v (at head v)) (set a.stack d v) a.order (set a.via v by)

abbrev pub off_stack : Table → ℕ → ℕ → Table
off_stack a done s = table (set a.rank s (done + 1)) a.cursor a.stack (set a.order done s) a.via

abbrev pub cursor_at : Table → ℕ → ℕ → Table
cursor_at a s u = table a.rank (set a.cursor s u) a.stack a.order a.via

-- tables of the same arrays are the same
pub same_table : (a b : Table) → a.rank ≡ b.rank → a.cursor ≡ b.cursor → a.stack ≡ b.stack → a.order ≡ b.order → a.via ≡ b.via → a ≡ b
same_table a b p q r s t = λ i. record { rank = p i; cursor = q i; stack = r i; order = s i; via = t i }

module _ (A : Arrays) (head link : List ℕ) (a : Table) (d done : ℕ) where
  -- the search with the state s on top of the stack, at the place `high`
  pub record AtTop (high s : ℕ) : Type 0 where
    pub under : Underway A head link a d done
    pub some : suc high ≡ d
    pub top : at a.stack high ≡ s

  -- and with its cursor at the transition t
  pub record AtStep (high s t : ℕ) : Type 0 where
    pub on : AtTop high s
    pub cursor : at a.cursor s ≡ t
    pub more : t < none

module _ {A : Arrays} {head link : List ℕ} {a : Table} {d done : ℕ} (w : Underway A head link a d done) where
  -- a state that was left has a rank of at most `done`
  pub left-rank : (x : ℕ) → x < A.n → at a.rank x < 513 → at a.rank x ≤ done
  left-rank x h l = go (w.search.placed x h)
    where
      go : Placed a d done x → at a.rank x ≤ done
      go (inl e) = omega arith
      go (inr (inl e)) = omega (arith, e.1, e.2)
      go (inr (inr e)) = absurd (omega (arith, e.2))

  -- the i-th on the stack
  pub stack-below : (i : ℕ) → i < d → at a.stack i < A.n
  stack-below i h = (w.search.stacked i h).0

  pub stack-rank : (i : ℕ) → i < d → at a.rank (at a.stack i) ≡ 513 + i
  stack-rank i h = (w.search.stacked i h).1
