-- Lists that a function tabulates: their elements, and a test of them all. Assumes nothing.
use mathlib.Core.Bool.{Bool, true, false, ◌&&◌}
use mathlib.Core.List.{List, [], ◌∷◌, ◌++◌}
use mathlib.Core.Logic.{◌⊎◌, inl, inr}
use mathlib.Core.Path.{◌≡◌, refl, sym, ap, ap₂, ◌∙◌}
use Prim.Native.Nat.{ℕ, zero, suc, ◌+◌, ◌<◌}
use native.Mathlib.Nat.{not-suc-le-zero, eq-or-lt_of_le, le_of_suc-le-suc}
use native.Mathlib.Omega.{arith}
use native.Mathlib.Numerals.{add-one}
use lib.ListN.{length, get_or, length-append, get_or-append}
use lib.Seq.{ext_get_or, get_or_at}
use Rattle.rules.specs.Image.{tabulate}
use Rattle.rules.specs.Limits.{all}
use Rattle.rules.proofs.Results.{and_false, all_append}

and_unit : (b : Bool) → (b && true) ≡ b
and_unit true = refl
and_unit false = refl

and_assoc : (a b c : Bool) → (a && (b && c)) ≡ ((a && b) && c)
and_assoc true b c = refl
and_assoc false b c = refl

and_more : (b c d : Bool) → (b && c) ≡ false → (c ≡ false → d ≡ false) → (b && d) ≡ false
and_more true c d e f = f e
and_more false c d e f = refl

module _ {A : Type 0} where
  pub length-tabulate : (n : ℕ) (f : ℕ → A) → length (tabulate n f) ≡ n
  unfolding tabulate
  length-tabulate zero f = refl
  length-tabulate (suc n) f = length-append (tabulate n f) (f n ∷ []) ∙ omega (arith, length-tabulate n f)

  pub get_d_tabulate : (n : ℕ) (f : ℕ → A) (i : ℕ) (d : A) → i < n → get_or (tabulate n f) i d ≡ f i
  unfolding tabulate
  get_d_tabulate zero f i d h = absurd (not-suc-le-zero h)
  get_d_tabulate (suc n) f i d h = go (λ l. get_d_tabulate n f i d l) (eq-or-lt_of_le (le_of_suc-le-suc h))
    where
      go : (i < n → get_or (tabulate n f) i d ≡ f i) → (i ≡ n) ⊎ (i < n) → get_or (tabulate n f ++ (f n ∷ [])) i d ≡ f i
      go ih (inl e) = get_or_at (tabulate n f) (f n) [] d i (length-tabulate n f ∙ sym e) ∙ ap f (sym e)
      go ih (inr l) = get_or-append (tabulate n f) (f n ∷ []) d i (rw (length-tabulate n f) l) ∙ ih l

  -- a list is what its elements tabulate
  pub tabulate_of : (d : A) (l : List A) (n : ℕ) (f : ℕ → A) → length l ≡ n → ((i : ℕ) → i < n → get_or l i d ≡ f i) → tabulate n f ≡ l
  tabulate_of d l n f e h =
      ext_get_or d (tabulate n f) l (length-tabulate n f ∙ sym e)
      (λ i k. let k' : i < n = rw (length-tabulate n f) at k in get_d_tabulate n f i d k' ∙ sym (h i k'))

  pub tabulate-same : (n : ℕ) (f g : ℕ → A) → ((i : ℕ) → i < n → f i ≡ g i) → tabulate n f ≡ tabulate n g
  unfolding tabulate
  tabulate-same zero f g h = refl
  tabulate-same (suc n) f g h =
      ap₂ {C = List A} (λ (l : List A) (x : A). l ++ (x ∷ [])) (tabulate-same n f g (λ i k. h i (omega arith))) (h n (omega arith))

  -- a test of all of them
  pub all-tabulate : (test : A → Bool) (n : ℕ) (f : ℕ → A) → ((i : ℕ) → i < n → test (f i) ≡ true) → all test (tabulate n f) ≡ true
  unfolding tabulate all
  all-tabulate test zero f h = refl
  all-tabulate test (suc n) f h =
      all_append test (tabulate n f) (f n ∷ []) (all-tabulate test n f (λ i k. h i (omega arith))) (rw (h n (omega arith)) refl)

  -- a test of one more
  all-last_of : (test : A → Bool) (xs : List A) (x : A) → all test (xs ++ (x ∷ [])) ≡ (all test xs && test x)
  unfolding all
  all-last_of test [] x = and_unit (test x)
  all-last_of test (y ∷ xs) x = ap (λ (b : Bool). test y && b) (all-last_of test xs x) ∙ and_assoc (test y) (all test xs) (test x)

  pub all_more : (test : A → Bool) (n : ℕ) (f : ℕ → A) → (all test (tabulate n f) && test (f n)) ≡ all test (tabulate (n + 1) f)
  unfolding tabulate
  all_more test n f = sym (all-last_of test (tabulate n f) (f n)) ∙ ap (λ (k : ℕ). all test (tabulate k f)) (sym (add-one n))

  -- a test that fails of one of them fails
  all-front : (test : A → Bool) (xs ys : List A) → all test xs ≡ false → all test (xs ++ ys) ≡ false
  unfolding all
  all-front test [] ys e = absurd (let z : ◌≡◌ {A = ℕ} 0 1 = cc in omega arith)
  all-front test (x ∷ xs) ys e = and_more (test x) (all test xs) (all test (xs ++ ys)) e (λ p. all-front test xs ys p)

  all-last : (test : A → Bool) (xs : List A) (x : A) → test x ≡ false → all test (xs ++ (x ∷ [])) ≡ false
  unfolding all
  all-last test [] x e = rw e refl
  all-last test (y ∷ xs) x e = and_false (test y) (all test (xs ++ (x ∷ []))) (all-last test xs x e)

  pub not_all-tabulate : (test : A → Bool) (n : ℕ) (f : ℕ → A) (i : ℕ) → i < n → test (f i) ≡ false → all test (tabulate n f) ≡ false
  unfolding tabulate
  not_all-tabulate test zero f i h e = absurd (not-suc-le-zero h)
  not_all-tabulate test (suc n) f i h e = go (λ l. not_all-tabulate test n f i l e) (eq-or-lt_of_le (le_of_suc-le-suc h))
    where
      go : (i < n → all test (tabulate n f) ≡ false) → (i ≡ n) ⊎ (i < n) → all test (tabulate n f ++ (f n ∷ [])) ≡ false
      go ih (inl p) = all-last test (tabulate n f) (f n) (ap (λ (k : ℕ). test (f k)) (sym p) ∙ e)
      go ih (inr l) = all-front test (tabulate n f) (f n ∷ []) (ih l)

module _ {A : Type 0} (test : A → Bool) (n : ℕ) (f : ℕ → A) where
  -- a test that holds of all of them holds of each
  pub all-at : all test (tabulate n f) ≡ true → (i : ℕ) → i < n → test (f i) ≡ true
  all-at h i l = go (test (f i)) refl
    where
      go : (b : Bool) → test (f i) ≡ b → b ≡ true
      go true e = refl
      go false e = sym (not_all-tabulate test n f i l e) ∙ h
