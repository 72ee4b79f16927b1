-- Places of arrays: what stands at a place after a store, an array of zeros, numbers all below a bound, and sums over places of which one falls.
-- Assumes nothing.
use mathlib.Core.List.{List}
use mathlib.Core.Logic.{◌⊎◌, inl, inr, ◌≢◌}
use mathlib.Core.Path.{◌≡◌, refl}
use Prim.Native.Nat.{ℕ, zero, suc, ◌+◌, ◌≤◌, ◌<◌}
use native.Mathlib.Nat.{not-suc-le-zero}
use native.Mathlib.Omega.{arith}
use lib.ListN.{length, set, replicate}
use lib.Seq.{get_or-set_same, get_or-set_other, set_out}
use Rattle.arrays.proofs.Lists.{same_or_not, below_or_not}
use Rattle.search.specs.Arrays.{at, Below}
use Rattle.search.specs.Sizes.{sum_to}

-- a place after a store: the stored number at its place, and what stood there at every other
pub at_set : (xs : List ℕ) (i x j : ℕ) → i < length xs → ((j ≡ i) × (at (set xs i x) j ≡ x)) ⊎ ((j ≢ i) × (at (set xs i x) j ≡ at xs j))
at_set xs i x j h = go (same_or_not j i)
  where
    go : (j ≡ i) ⊎ (j ≢ i) → ((j ≡ i) × (at (set xs i x) j ≡ x)) ⊎ ((j ≢ i) × (at (set xs i x) j ≡ at xs j))
    go (inl e) = inl (e, rw e (get_or-set_same xs i x 0 h))
    go (inr d) = inr (d, get_or-set_other xs i j x 0 d)

-- an array of zeros
pub zeros : (k i : ℕ) → ◌≡◌ {A = ℕ} (at (replicate k 0) i) 0
zeros zero i = refl
zeros (suc k) zero = refl
zeros (suc k) (suc i) = zeros k i

-- a store of a number below the bound keeps all below it
pub below_store : {k : ℕ} (xs : List ℕ) (i x : ℕ) → x < k → Below k xs → Below k (set xs i x)
below_store {k} xs i x l b j = go (below_or_not i (length xs))
  where
    there : ((j ≡ i) × (at (set xs i x) j ≡ x)) ⊎ ((j ≢ i) × (at (set xs i x) j ≡ at xs j)) → at (set xs i x) j < k
    there (inl e) = rw e.1 l
    there (inr e) = rw e.1 (b j)

    go : (i < length xs) ⊎ (length xs ≤ i) → at (set xs i x) j < k
    go (inl h) = there (at_set xs i x j h)
    go (inr h) = rw (set_out xs i x h) (b j)

-- a sum of which one place falls and no other rises is less
pub sum-le : (n : ℕ) (f f' : ℕ → ℕ) → ((s : ℕ) → s < n → f' s ≤ f s) → sum_to n f' ≤ sum_to n f
unfolding sum_to
sum-le zero f f' h = omega arith
sum-le (suc n) f f' h = let a = sum-le n f f' (λ s l. h s (omega arith)) in omega (arith, h n (omega arith))

pub sum-falls : (n : ℕ) (f f' : ℕ → ℕ) (x : ℕ) → x < n → f' x < f x → ((s : ℕ) → s < n → s ≢ x → f' s ≤ f s) → sum_to n f' < sum_to n f
unfolding sum_to
sum-falls zero f f' x l d h = absurd (not-suc-le-zero l)
sum-falls (suc n) f f' x l d h = go (λ k. sum-falls n f f' x k d (λ s q ne. h s (omega arith) ne)) (same_or_not n x)
  where
    le : (s : ℕ) → s < n → n ≡ x → f' s ≤ f s
    le s q e = h s (omega arith) (λ p. omega arith)

    go : (x < n → sum_to n f' < sum_to n f) → (n ≡ x) ⊎ (n ≢ x) → sum_to n f' + f' n < sum_to n f + f n
    go ih (inl e) = let a = sum-le n f f' (λ s q. le s q e) in let b : f' n < f n = rw e d in omega arith
    go ih (inr ne) = let a = ih (omega (arith, ne)) in let b = h n (omega arith) ne in omega arith
