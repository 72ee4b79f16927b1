-- The way up the tree. The rank rises at each transition and is at most n, so fewer than n lead up to a start (`climbing-fits`). Written from the
-- last place down, they are a walk from that start to the state: its i-th state is as many transitions up as are left (`climbed_along`), its states
-- differ since their ranks do (`climbed_steps`). Assumes nothing.
use mathlib.Core.List.{List}
use mathlib.Core.Logic.{◌⊎◌, inl, inr, ◌≢◌}
use mathlib.Core.Path.{◌≡◌, refl, sym, ap, subst, ◌∙◌}
use Prim.Native.Nat.{ℕ, zero, suc, ◌+◌, ◌-◌, ◌≤◌, ◌<◌}
use native.Mathlib.Nat.{le_refl}
use native.Mathlib.Omega.{arith}
use lib.ListN.{length, set}
use lib.Seq.{get_or-set_same, get_or-set_other}
use Rattle.search.specs.Arrays.{Arrays, at, Leaves}
use Rattle.search.specs.Chain.{none}
use Rattle.search.specs.Route.{along, Steps}
use Rattle.tree.specs.Tree.{up, Climbable, Climbs, Climbed}
use Rattle.arrays.proofs.Lists.{same_or_not}

module _ (n m : ℕ) (from rank via : List ℕ) (s : ℕ) where
  -- k transitions up from s, and the rank has risen at each
  pub record Climbing (k : ℕ) : Type 0 where
    pub below : (i : ℕ) → i ≤ k → (up from via s i < n) × (0 < at rank (up from via s i)) × (i + at rank s ≤ at rank (up from via s i))
    pub listed : (i : ℕ) → i < k → (at via (up from via s i) < m) × (at rank (up from via s i) < at rank (up from via s (suc i)))

module _ {n m : ℕ} {from rank via : List ℕ} {s : ℕ} (p : Climbable n m from rank via s) where
  pub climbing-first : Climbing n m from rank via s 0
  climbing-first = record { below = below; listed = λ i q. absurd (omega arith) }
    where
      below : (i : ℕ) → i ≤ 0 → (up from via s i < n) × (0 < at rank (up from via s i)) × (i + at rank s ≤ at rank (up from via s i))
      below zero q = (p.below, p.entered, omega arith)
      below (suc i) q = absurd (omega arith)

  module _ {k : ℕ} (c : Climbing n m from rank via s k) where
    pub climbing-fits : k < n
    climbing-fits = let (h, r, q) = c.below k (le_refl k) in omega (arith, (p.rising (up from via s k) h r).0, p.entered)

    -- the transition that led to the state reached
    pub climbing-via : at via (up from via s k) < none
        → (at via (up from via s k) < m) × (at from (at via (up from via s k)) < n) × (at rank (up from via s k) < at rank (at from (at via (up from via s k))))
    climbing-via l = let (h, r, q) = c.below k (le_refl k) in go (p.rising (up from via s k) h r).1
      where
        x : ℕ
        x = up from via s k

        go : (at via x ≡ none) ⊎ ((at via x < m) × (at from (at via x) < n) × (at rank x < at rank (at from (at via x))))
            → (at via x < m) × (at from (at via x) < n) × (at rank x < at rank (at from (at via x)))
        go (inl e) = absurd (omega arith)
        go (inr w) = w

    pub climbing-turn : at via (up from via s k) < none → Climbing n m from rank via s (suc k)
    climbing-turn l = record { below = below; listed = listed }
      where
        below : (i : ℕ) → i ≤ suc k → (up from via s i < n) × (0 < at rank (up from via s i)) × (i + at rank s ≤ at rank (up from via s i))
        below i h = go (same_or_not i (suc k))
          where
            go : (i ≡ suc k) ⊎ (i ≢ suc k) → (up from via s i < n) × (0 < at rank (up from via s i)) × (i + at rank s ≤ at rank (up from via s i))
            go (inl e) = let w = climbing-via l in rw e (w.1, omega (arith, w.2), omega (arith, w.2, (c.below k (le_refl k)).2))
            go (inr d) = c.below i (omega (arith, d))

        listed : (i : ℕ) → i < suc k → (at via (up from via s i) < m) × (at rank (up from via s i) < at rank (up from via s (suc i)))
        listed i h = go (same_or_not i k)
          where
            go : (i ≡ k) ⊎ (i ≢ k) → (at via (up from via s i) < m) × (at rank (up from via s i) < at rank (up from via s (suc i)))
            go (inl e) = let w = climbing-via l in rw e (w.0, w.2)
            go (inr d) = c.listed i (omega (arith, d))

    -- none leads further up
    pub climbs : none ≤ at via (up from via s k) → Climbs n m from rank via s k
    climbs l = record { below = c.below; listed = c.listed; root = root; fits = climbing-fits }
      where
        x : ℕ
        x = up from via s k

        go : (at via x ≡ none) ⊎ ((at via x < m) × (at from (at via x) < n) × (at rank x < at rank (at from (at via x)))) → at via x ≡ none
        go (inl e) = e
        go (inr w) = absurd (omega (arith, p.count))

        root : at via x ≡ none
        root = let (h, r, q) = c.below k (le_refl k) in go (p.rising x h r).1

-- ---- the walk that is written

-- the places from i on hold the way up from s
abbrev pub Writing : List ℕ → List ℕ → ℕ → ℕ → ℕ → List ℕ → Type 0
Writing from via s k i walk = (j u : ℕ) → i ≤ j → j + suc u ≡ k → at walk j ≡ at via (up from via s u)

pub writing_turn : (from via : List ℕ) (s k i u : ℕ) (walk : List ℕ) → i < length walk → i + suc u ≡ k → Writing from via s k (suc i) walk
    → Writing from via s k i (set walk i (at via (up from via s u)))
writing_turn from via s k i u walk h e w j v l q = go (same_or_not j i)
  where
    go : (j ≡ i) ⊎ (j ≢ i) → at (set walk i (at via (up from via s u))) j ≡ at via (up from via s v)
    go (inl p) = let r : u ≡ v = omega arith in rw (p, get_or-set_same walk i (at via (up from via s u)) 0 h, r) refl
    go (inr d) = get_or-set_other walk i j (at via (up from via s u)) 0 d ∙ w j v (omega (arith, d)) q

module _ (A : Arrays) (rank via : List ℕ) (s k : ℕ) (before after : List ℕ)
    (c : Climbs A.n A.m A.from rank via s k) (w : Climbed A.from via s k before after) where
  abbrev first : ℕ
  first = up A.from via s k

  -- each state with a rank is where its transition leads
  module _ (arrives : (x : ℕ) → x < A.n → 0 < at rank x → at via x < A.m → at A.to (at via x) ≡ x) where
    pub climbed_along : (i u : ℕ) → i + u ≡ k → along A.to first after i ≡ up A.from via s u
    climbed_along zero u e = let p : u ≡ k = omega arith in rw p refl
    climbed_along (suc i) u e =
        let (h, r, q) = c.below u (omega arith) in
        ap (at A.to) (w.written i u (omega arith)) ∙ arrives (up A.from via s u) h r (c.listed u (omega arith)).0

    -- the way up from i to j is a rise of the rank
    rise : (i d : ℕ) → suc (i + d) ≤ k → at rank (up A.from via s i) < at rank (up A.from via s (suc (i + d)))
    rise i zero h = let p : i + 0 ≡ i = omega arith in rw p (c.listed i (omega arith)).1
    rise i (suc d) h =
        let p : i + suc d ≡ suc (i + d) = omega arith in
        let a = rise i d (omega arith) in
        let b = (c.listed (suc (i + d)) (omega arith)).1 in rw p (omega arith)

    up_apart : (i j : ℕ) → i < j → j ≤ k → up A.from via s i ≡ up A.from via s j → ⊥
    up_apart i j l h e =
        let p : suc (i + (j - suc i)) ≡ j = omega arith in
        let a = rise i (j - suc i) (omega arith) in
        let b : at rank (up A.from via s i) < at rank (up A.from via s j) = subst (λ (x : ℕ). at rank (up A.from via s i) < at rank (up A.from via s x)) p a in omega (arith, ap (at rank) e)

    pub climbed_steps : Steps A first after k
    climbed_steps = record { below = below; leaves = leaves; apart = apart }
      where
        here : (i : ℕ) → i ≤ k → along A.to first after i ≡ up A.from via s (k - i)
        here i h = climbed_along i (k - i) (omega arith)

        below : (i : ℕ) → i ≤ k → along A.to first after i < A.n
        below i h = rw (here i h) (c.below (k - i) (omega arith)).0

        leaves : (i : ℕ) → i < k → Leaves A (along A.to first after i) (at after i)
        leaves i h =
            let u : ℕ = k - suc i in
            let p : k - i ≡ suc u = omega arith in
            let q : along A.to first after i ≡ up A.from via s (suc u) = here i (omega arith) ∙ ap (up A.from via s) p in
            rw (w.written i u (omega arith), q) (record { listed = (c.listed u (omega arith)).0; source = refl })

        apart : (i j : ℕ) → i < j → j ≤ k → along A.to first after i ≡ along A.to first after j → ⊥
        apart i j l h e = up_apart (k - j) (k - i) (omega arith) (omega arith) (sym (sym (here i (omega arith)) ∙ e ∙ here j h))
