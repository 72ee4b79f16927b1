-- What a turn of figures 5 and 6 makes of what is current.
--
-- The number picked out of a list is in the list and before all of it, for min with ≤ and for max with ≥ (`fold_in`,
-- `fold-before` of graph; `Sided`). It replaces what is current where it is better, and otherwise what is current is
-- before it. So after a turn what is current is before all that it was before, and before all the numbers reached
-- (`covers_old`, `covers_new`), and it is one of them or what it was (`remains`). Assumes nothing.
use Prim.Native.Nat.{ℕ}
use mathlib.Core.Path.{◌≡◌}
use mathlib.Core.Bool.{Bool, true, false, cond}
use mathlib.Core.Logic.{◌⊎◌, inl, inr}
use mathlib.Core.List.Memᴰ
use mathlib.Core.List.{List, [], ◌∷◌}
use Rattle.graph.specs.Compute.{fold}
use Rattle.graph.proofs.Tests.{decided}
use Rattle.graph.proofs.Listed.{◌∈◌}
use Rattle.graph.proofs.Extreme.{Picks, fold_in, fold-before}
use Rattle.report.specs.Bounds.{Bound, finite, ∞}
use Rattle.report.specs.Counts.{Side, improves, updated}

-- what the two figures have in common: `before` is ≤ for min and "<", and ≥ for max and ">"
pub record Sided (z : Side) (before : ℕ → ℕ → Type 0) : Type 0 where
  pub picks : Picks z.pick before
  pub better-before : (m k : ℕ) → z.better m k ≡ true → before m k
  pub else_after : (m k : ℕ) → z.better m k ≡ false → before k m

-- what is current is a number before x
abbrev pub Covers : (ℕ → ℕ → Type 0) → Bound → ℕ → Type 0
Covers before (finite m) x = before m x
Covers before ∞ x = ⊥

-- P holds of what is current, if that is a number
abbrev pub When : (ℕ → Type 0) → Bound → Type 0
When P (finite m) = P m
When P ∞ = Unit {0}

module _ (z : Side) (before : ℕ → ℕ → Type 0) (Z : Sided z before) where
  -- what "if m < current_min then current_min = m" leaves is before m and before all that was covered, and it is m or
  -- what was there (`one_of`)
  record Replaced (b : Bound) (m : ℕ) (b' : Bound) : Type 0 where
    new : Covers before b' m
    old : (x : ℕ) → Covers before b x → Covers before b' x

  replaced : (b : Bound) (m : ℕ) → Replaced b m (cond (improves z m b) (finite m) b)
  replaced ∞ m = record { new = Z.picks.self m; old = λ x o. absurd o }
  replaced (finite l) m = go (decided (z.better m l))
    where
      go : (z.better m l ≡ true) ⊎ (z.better m l ≡ false)
          → Replaced (finite l) m (cond (z.better m l) (finite m) (finite l))
      go (inl h) = rw h (record { new = Z.picks.self m; old = λ x o. Z.picks.trans m l x (Z.better-before m l h) o })
      go (inr h) = rw h (record { new = Z.else_after m l h; old = λ x o. o })

  one_of : (P : ℕ → Type 0) (b : Bound) (m : ℕ) → P m → When P b → When P (cond (improves z m b) (finite m) b)
  one_of P ∞ m p o = p
  one_of P (finite l) m p o = go (z.better m l)
    where
      go : (a : Bool) → When P (cond a (finite m) (finite l))
      go true = p
      go false = o

  later : (b : Bound) (x y : ℕ) → before x y → Covers before b x → Covers before b y
  later (finite m) x y h o = Z.picks.trans m x y o h
  later ∞ x y h o = o

  pub covers_new : (b : Bound) (ks : List ℕ) (k : ℕ) → k ∈ ks → Covers before (updated z ks b) k
  unfolding updated
  covers_new b [] k n = absurd (Memᴰ.not-nil n)
  covers_new b (x ∷ xs) k n =
      let m = fold z.pick x xs in
      later (cond (improves z m b) (finite m) b) m k (fold-before z.pick before Z.picks x xs k n) (replaced b m).new

  pub covers_old : (b : Bound) (ks : List ℕ) (x : ℕ) → Covers before b x → Covers before (updated z ks b) x
  unfolding updated
  covers_old b [] x o = o
  covers_old b (k ∷ ks) x o = (replaced b (fold z.pick k ks)).old x o

  pub remains : (P : ℕ → Type 0) (b : Bound) (ks : List ℕ) → ((k : ℕ) → k ∈ ks → P k) → When P b
      → When P (updated z ks b)
  unfolding updated
  remains P b [] p o = o
  remains P b (x ∷ xs) p o = let m = fold z.pick x xs in one_of P b m (p m (fold_in z.pick before Z.picks x xs)) o
