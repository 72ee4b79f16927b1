-- A loop that fills an array: before the first turn no place is filled, and a turn sets the next one. What it puts there fits into 32 bits: a scale
-- of at most 1,024 times a duration of at most 2,047 seconds, or times the 1 of a counted state. A search asks for such bounds too (`weights_most`,
-- `closes_most`). Assumes nothing.
use Prim.Native.Nat.{ℕ, zero, suc, ◌+◌, ◌*◌, ◌≤◌, ◌<◌}
use mathlib.Core.List.{List}
use mathlib.Core.Logic.{◌⊎◌, inl, inr}
use mathlib.Core.Path.{◌≡◌, refl, ◌∙◌}
use native.Mathlib.Nat.{mul-le-mul}
use native.Mathlib.Omega.{arith}
use borrow.Author.Count.{below_none, below_more}
use lib.ListN.{length, get_or, set, replicate}
use lib.Seq.{get_or-set_same, get_or-set_other}
use Rattle.arrays.proofs.Lists.{below_or_not}
use Rattle.costs.specs.Arrays.{Filled}
use Rattle.costs.specs.Scaled.{scale}

pub zeros : (k i : ℕ) → ◌≡◌ {A = ℕ} (get_or (replicate k 0) i 0) 0
zeros zero i = refl
zeros (suc k) zero = refl
zeros (suc k) (suc i) = zeros k i

pub filled_none : (f : ℕ → ℕ) (k : ℕ) → Filled 0 f (replicate k 0)
filled_none f k = record { each = below_none _; later = λ i h. zeros k i }

pub filled_more : (k : ℕ) (f : ℕ → ℕ) (xs : List ℕ) (v : ℕ) → k < length xs → v ≡ f k → Filled k f xs → Filled (k + 1) f (set xs k v)
filled_more k f xs v h e filled = record {
  each = below_more (λ i. get_or (set xs k v) i 0 ≡ f i) k earlier (get_or-set_same xs k v 0 h ∙ e);
  later = λ i h. get_or-set_other xs k i v 0 (λ e. omega arith) ∙ filled.later i (omega arith);
}
  where
    earlier : (i : ℕ) → i < k → get_or (set xs k v) i 0 ≡ f i
    earlier i l = get_or-set_other xs k i v 0 (λ e. omega arith) ∙ filled.each i l

pub scaled-le : {times x most : ℕ} → times ≤ scale → x ≤ most → times * x ≤ scale * most
scaled-le h l = mul-le-mul h l

-- the weights: at least the extra, and at most the extra over 1,024 times the most
module _ (k times extra most : ℕ) (x : ℕ → ℕ) (xs : List ℕ) (h : times ≤ scale) (each : (i : ℕ) → i < k → x i ≤ most) where
  pub weights_some : Filled k (λ i. times * x i + extra) xs → (i : ℕ) → i < k → extra ≤ get_or xs i 0
  weights_some filled i l = omega (arith, filled.each i l)

  pub weights_most : Filled k (λ i. times * x i + extra) xs → (i : ℕ) → get_or xs i 0 ≤ scale * most + extra
  weights_most filled i = go (below_or_not i k)
    where
      go : (i < k) ⊎ (k ≤ i) → get_or xs i 0 ≤ scale * most + extra
      go (inl l) = omega (arith, filled.each i l, scaled-le h (each i l))
      go (inr l) = omega (arith, filled.later i l)

  pub closes_most : Filled k (λ i. times * x i) xs → (i : ℕ) → get_or xs i 0 ≤ scale * most
  closes_most filled i = go (below_or_not i k)
    where
      go : (i < k) ⊎ (k ≤ i) → get_or xs i 0 ≤ scale * most
      go (inl l) = omega (arith, filled.each i l, scaled-le h (each i l))
      go (inr l) = omega (arith, filled.later i l)
