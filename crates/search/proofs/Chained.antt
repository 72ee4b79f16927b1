-- Chains of transitions by state. One backward scan makes them: the first transition at or above i is i itself for the state of i, and what it was
-- above i for every other state (`chain-turn`). A chain followed from its head visits every transition of the state, in rising order: at the
-- head none is passed (`followed-first`), and what holds of those below the current one and of it holds of those below the next one
-- (`followed-next`). Assumes nothing.
use mathlib.Core.List.{List}
use mathlib.Core.Logic.{◌⊎◌, inl, inr, ◌≢◌}
use mathlib.Core.Path.{◌≡◌, sym}
use Prim.Native.Nat.{ℕ, suc, ◌≤◌, ◌<◌}
use native.Mathlib.Nat.{le_refl}
use native.Mathlib.Omega.{arith}
use lib.ListN.{length, set}
use Rattle.search.specs.Arrays.{at}
use Rattle.search.specs.Chain.{none, First, Chains}
use Rattle.search.proofs.Places.{at_set}
use Rattle.arrays.proofs.Lists.{same_or_not, below_or_not}

-- the chains of the transitions at or above i
pub record Chaining (keys : List ℕ) (m i : ℕ) (head link : List ℕ) : Type 0 where
  pub heads : (s : ℕ) → s < 512 → First keys m i s (at head s)
  pub links : (t : ℕ) → i ≤ t → t < m → First keys m (suc t) (at keys t) (at link t)

module _ (keys : List ℕ) (m : ℕ) (small : m ≤ 2048) where
  first-none : (s t : ℕ) → t ≡ none → First keys m m s t
  first-none s t e = record { most = omega arith; listed = λ l. absurd (omega arith); none_before = λ k a b d q. omega arith }

  first-here : (i s : ℕ) → i < m → at keys i ≡ s → First keys m i s i
  first-here i s l e = record { most = omega arith; listed = λ h. (le_refl i, l, e); none_before = λ k a b d q. omega arith }

  first-down : (i s t : ℕ) → at keys i ≢ s → First keys m (suc i) s t → First keys m i s t
  first-down i s t d f = record {
    most = f.most;
    listed = λ h. let q = f.listed h in (omega arith, q.1, q.2);
    none_before = λ k a b l q. go k b l q (same_or_not k i) a;
  }
    where
      go : (k : ℕ) → k < m → k < t → at keys k ≡ s → (k ≡ i) ⊎ (k ≢ i) → i ≤ k → ⊥
      go k b l q (inl e) a = d (rw e at q)
      go k b l q (inr ne) a = f.none_before k (omega arith) b l q

  pub chaining_none : (head link : List ℕ) → ((s : ℕ) → s < 512 → at head s ≡ none) → Chaining keys m m head link
  chaining_none head link e = record { heads = λ s h. first-none s (at head s) (e s h); links = λ t a b. absurd (omega arith) }

  pub chain-turn : (i : ℕ) (head link : List ℕ) → i < m → at keys i < 512 → 512 ≤ length head → 2048 ≤ length link → Chaining keys m (suc i) head link
      → Chaining keys m i (set head (at keys i) i) (set link i (at head (at keys i)))
  chain-turn i head link l b hh hl c = record { heads = heads; links = links }
    where
      k : ℕ
      k = at keys i

      heads : (s : ℕ) → s < 512 → First keys m i s (at (set head k i) s)
      heads s h = go (at_set head k i s (omega arith))
        where
          go : ((s ≡ k) × (at (set head k i) s ≡ i)) ⊎ ((s ≢ k) × (at (set head k i) s ≡ at head s)) → First keys m i s (at (set head k i) s)
          go (inl e) = rw e.1 (first-here i s l (sym e.0))
          go (inr e) = rw e.1 (first-down i s (at head s) (λ q. e.0 (sym q)) (c.heads s h))

      links : (t : ℕ) → i ≤ t → t < m → First keys m (suc t) (at keys t) (at (set link i (at head k)) t)
      links t a h = go (at_set link i (at head k) t (omega arith))
        where
          go : ((t ≡ i) × (at (set link i (at head k)) t ≡ at head k)) ⊎ ((t ≢ i) × (at (set link i (at head k)) t ≡ at link t))
              → First keys m (suc t) (at keys t) (at (set link i (at head k)) t)
          go (inl e) = rw (e.1, e.0) (c.heads k b)
          go (inr e) = rw e.1 (c.links t (omega arith) h)

  pub chained : (head link : List ℕ) → Chaining keys m 0 head link → Chains keys m head link
  chained head link c = record { heads = c.heads; links = λ t h. c.links t (omega arith) h }

-- ---- along a chain

-- P holds of the transitions of s below t
abbrev pub Passed : List ℕ → ℕ → (ℕ → Type 0) → ℕ → ℕ → Type 0
Passed keys m P s t = (k : ℕ) → k < t → k < m → at keys k ≡ s → P k

module _ {keys : List ℕ} {m : ℕ} where
  -- it rises
  pub chain-rises : {s t u : ℕ} → First keys m (suc t) s u → t < none → t < u
  chain-rises {s} {t} {u} f h = go (below_or_not u none)
    where
      go : (u < none) ⊎ (none ≤ u) → t < u
      go (inl l) = (f.listed l).0
      go (inr l) = omega arith

  pub passed_none : (P : ℕ → Type 0) {s t : ℕ} → First keys m 0 s t → Passed keys m P s t
  passed_none P f k l h e = absurd (f.none_before k (omega arith) h l e)

  pub first_passed : (P : ℕ → Type 0) {s t u : ℕ} → First keys m (suc t) s u → Passed keys m P s t → P t → Passed keys m P s u
  first_passed P {s} {t} {u} f below here k l h e = go (same_or_not k t) (below_or_not k t)
    where
      go : (k ≡ t) ⊎ (k ≢ t) → (k < t) ⊎ (t ≤ k) → P k
      go (inl q) d = rw q here
      go (inr q) (inl d) = below k d h e
      go (inr q) (inr d) = absurd (f.none_before k (omega arith) h l e)

-- a chain followed as far as t: the transition t of s, or none, and P holds of those before it
pub record Followed (keys : List ℕ) (m : ℕ) (P : ℕ → Type 0) (s t : ℕ) : Type 0 where
  pub most : t ≤ none
  pub here : t < none → (t < m) × (at keys t ≡ s)
  pub passed : Passed keys m P s t

module _ {keys : List ℕ} {m : ℕ} {head link : List ℕ} (chains : Chains keys m head link) (P : ℕ → Type 0) where
  pub followed-first : {s t : ℕ} → s < 512 → t ≡ at head s → Followed keys m P s t
  followed-first {s} h e =
      let f = rw (← e) at (chains.heads s h) in
      record { most = f.most; here = λ l. let q = f.listed l in (q.1, q.2); passed = passed_none P f }

  pub followed-rises : {s t : ℕ} → Followed keys m P s t → t < none → t < at link t
  followed-rises {s} {t} f l = chain-rises (chains.links t (f.here l).0) l

  pub followed-next : {s t u : ℕ} → Followed keys m P s t → t < none → P t → u ≡ at link t → Followed keys m P s u
  followed-next {s} {t} f l p e =
      let n = rw ((f.here l).1, ← e) at (chains.links t (f.here l).0) in
      record { most = n.most; here = λ h. let q = n.listed h in (q.1, q.2); passed = first_passed P n f.passed p }

-- a chain that has ended has passed them all
pub followed-all : {keys : List ℕ} {m : ℕ} {P : ℕ → Type 0} {s t : ℕ} → Followed keys m P s t → m ≤ none → none ≤ t → (k : ℕ) → k < m → at keys k ≡ s → P k
followed-all f small l k h e = f.passed k (omega arith) h e
