-- What a test says: of one value, of two tests together, and of the numbers below n.
--
-- A test says yes or no (`decided`), and one that says yes exactly when something holds tells that it does not (`refuted`). A search for a number below n that a test accepts finds one exactly if there is
-- one, by recursion on n (`any_of`, `in_any`); so if it finds none, the test says no of each (`none_of`). Assumes
-- nothing.
use Prim.Native.Nat.{ℕ, zero, suc, ◌<◌}
use mathlib.Core.Path.{◌≡◌, refl, sym, ◌∙◌}
use mathlib.Core.Bool.{Bool, true, false, ◌||◌, true≢false, false≢true}
use mathlib.Core.Logic.{◌⊎◌, inl, inr}
use native.Mathlib.Nat.{not-suc-le-zero, lt-suc_self, le_step}
use native.Mathlib.Decide.{ℕ_discrete}
use native.Mathlib.Omega.{arith}
use Rattle.graph.specs.Compute.{any}

-- yes or no, with the equation
pub decided : (b : Bool) → (b ≡ true) ⊎ (b ≡ false)
decided true = inl refl
decided false = inr refl

pub or_cases : (a b : Bool) → (a || b) ≡ true → (a ≡ true) ⊎ (b ≡ true)
or_cases true b h = inl refl
or_cases false b h = inr h

pub or_right : (a b : Bool) → b ≡ true → (a || b) ≡ true
or_right true b h = refl
or_right false b h = h

pub or_left : (a b : Bool) → a ≡ true → (a || b) ≡ true
or_left true b h = refl
or_left false b h = absurd (false≢true h)

-- a test says yes exactly when A holds
pub record Tests (b : Bool) (A : Type 0) : Type 0 where
  pub sound : b ≡ true → A
  pub complete : A → b ≡ true

pub refuted : {b : Bool} {A : Type 0} → Tests b A → b ≡ false → A → ⊥
refuted t e a = false≢true (sym e ∙ t.complete a)

-- ---- the numbers below n

pub any_of : (p : ℕ → Bool) (n : ℕ) → any p n ≡ true → (i : ℕ) × (i < n) × (p i ≡ true)
unfolding any
any_of p zero h = absurd (false≢true h)
any_of p (suc n) h = go (any_of p n) (or_cases (any p n) (p n) h)
  where
    go : (any p n ≡ true → (i : ℕ) × (i < n) × (p i ≡ true)) → (any p n ≡ true) ⊎ (p n ≡ true)
        → (i : ℕ) × (i < suc n) × (p i ≡ true)
    go ih (inl l) = let (i, h, y) = ih l in (i, le_step h, y)
    go ih (inr y) = (n, lt-suc_self n, y)

pub in_any : (p : ℕ → Bool) (n i : ℕ) → i < n → p i ≡ true → any p n ≡ true
unfolding any
in_any p zero i h y = absurd (not-suc-le-zero h)
in_any p (suc n) i h y = go (in_any p n i) (ℕ_discrete i n)
  where
    go : (i < n → p i ≡ true → any p n ≡ true) → Dec (i ≡ n) → (any p n || p n) ≡ true
    go ih (yes e) = or_right (any p n) (p n) (rw e at y)
    go ih (no e) = or_left (any p n) (p n) (ih (omega arith) y)

pub none_of : (p : ℕ → Bool) (n : ℕ) → any p n ≡ false → (i : ℕ) → i < n → p i ≡ false
none_of p n h i l = go (decided (p i))
  where
    go : (p i ≡ true) ⊎ (p i ≡ false) → p i ≡ false
    go (inl y) = absurd (true≢false (sym (in_any p n i l y) ∙ h))
    go (inr e) = e
