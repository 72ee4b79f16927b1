-- A sequence of numbers below n has a repeat among its first n + 1.
--
-- A sequence here is a function f, of which the first k numbers are looked at: f 0, .., f (k - 1). They are apart when
-- no two are equal.
-- 1. Whether x is among the first k is found by looking at each (`find`).
-- 2. So the first repeat is found: the least k at which f k is among the numbers before it, or else they are all apart
--    (`first_repeat`).
-- 3. If the first k are apart and all below n, then k ≤ n (`pigeonhole`), by induction on n. If n - 1 is not among
--    them, they are all below n - 1. If it stands at place p, put the last one there instead: the first k - 1 are then
--    apart and below n - 1.
-- 4. So among n + 1 numbers below n there is a first repeat (`repeat_below`).
-- The states on a walk are such a sequence, and `Different` of the specs says that they are apart (the last part).
-- Assumes nothing.
use Prim.Native.Nat.{ℕ, zero, suc, ◌≤◌, ◌<◌, zero-le, suc-le-suc}
use mathlib.Core.Path.{◌≡◌, refl, sym, ◌∙◌, ap}
use mathlib.Core.Bool.{Bool, true, false, cond}
use mathlib.Core.Logic.{◌⊎◌, inl, inr}
use mathlib.Core.List.{List, [], ◌∷◌, ◌++◌}
use native.Mathlib.Nat.{not-suc-le-zero, le_step, le_of_suc-le-suc, lt_irrefl, lt_trans, lt_of_lt_of_le, zero-lt-suc}
use native.Mathlib.Decide.{ℕ_discrete, dec_lt}
use native.Mathlib.Omega.{arith}
use lib.Dec.{eqb}
use lib.ListN.{length, get_or, take, drop, length-take}
use lib.Seq.{get_or-take}
use borrow.Author.Tests.{eqb-true, eqb-false}
use Rattle.graph.specs.Walk.{Different, DifferentButEnds}

-- the first k numbers are apart
abbrev pub Apart : (ℕ → ℕ) → ℕ → Type 0
Apart f k = (i j : ℕ) → i < j → j < k → f i ≡ f j → ⊥

-- x is the i-th, one of the first k
pub record Found (f : ℕ → ℕ) (x k : ℕ) : Type 0 where
  pub place : ℕ
  pub below : place < k
  pub same : f place ≡ x

-- x is none of the first k
abbrev pub Absent : (ℕ → ℕ) → ℕ → ℕ → Type 0
Absent f x k = (i : ℕ) → i < k → f i ≡ x → ⊥

-- ---- 1

or_last : (f : ℕ → ℕ) (x k : ℕ) → Absent f x k → (f k ≡ x → ⊥) → Absent f x (suc k)
or_last f x k a n i h e = go (ℕ_discrete i k)
  where
    go : Dec (i ≡ k) → ⊥
    go (yes p) = n (rw p at e)
    go (no p) = a i (omega arith) e

pub find : (f : ℕ → ℕ) (x k : ℕ) → Found f x k ⊎ Absent f x k
find f x zero = inr (λ i h e. not-suc-le-zero h)
find f x (suc k) = go (find f x k) (ℕ_discrete (f k) x)
  where
    go : Found f x k ⊎ Absent f x k → Dec (f k ≡ x) → Found f x (suc k) ⊎ Absent f x (suc k)
    go (inl r) d = inl (record { place = r.place; below = omega arith; same = r.same })
    go (inr a) (yes e) = inl (record { place = k; below = omega arith; same = e })
    go (inr a) (no n) = inr (or_last f x k a n)

-- ---- 2

-- f at `later` is f at `earlier`, and the numbers before `later` are apart
pub record Repeat (f : ℕ → ℕ) (k : ℕ) : Type 0 where
  pub earlier : ℕ
  pub later : ℕ
  pub order : earlier < later
  pub below : later < k
  pub same : f later ≡ f earlier
  pub apart : Apart f later

apart-suc : (f : ℕ → ℕ) (k : ℕ) → Apart f k → Absent f (f k) k → Apart f (suc k)
apart-suc f k a n i j l h e = go (ℕ_discrete j k)
  where
    go : Dec (j ≡ k) → ⊥
    go (yes p) = n i (omega arith) (rw p at e)
    go (no p) = a i j l (omega arith) e

pub first_repeat : (f : ℕ → ℕ) (k : ℕ) → Repeat f k ⊎ Apart f k
first_repeat f zero = inr (λ i j l h e. not-suc-le-zero h)
first_repeat f (suc k) = go (first_repeat f k) (find f (f k) k)
  where
    go : Repeat f k ⊎ Apart f k → Found f (f k) k ⊎ Absent f (f k) k → Repeat f (suc k) ⊎ Apart f (suc k)
    go (inl r) d = inl (record {
      earlier = r.earlier;
      later = r.later;
      order = r.order;
      below = omega arith;
      same = r.same;
      apart = r.apart;
    })
    go (inr a) (inl r) = inl (record {
      earlier = r.place;
      later = k;
      order = r.below;
      below = omega arith;
      same = sym r.same;
      apart = a;
    })
    go (inr a) (inr n) = inr (apart-suc f k a n)

-- ---- 3

-- f, with x in the place p
instead : (ℕ → ℕ) → ℕ → ℕ → ℕ → ℕ
instead f p x i = cond (eqb i p) x (f i)

instead-is : (f : ℕ → ℕ) (p x i : ℕ) → ((i ≡ p) × (instead f p x i ≡ x)) ⊎ ((i ≡ p → ⊥) × (instead f p x i ≡ f i))
unfolding instead
instead-is f p x i = go (eqb i p) refl
  where
    go : (b : Bool) → eqb i p ≡ b → ((i ≡ p) × (cond b x (f i) ≡ x)) ⊎ ((i ≡ p → ⊥) × (cond b x (f i) ≡ f i))
    go true e = inl (eqb-true i p e, refl)
    go false e = inr (eqb-false i p e, refl)

instead-apart : (f : ℕ → ℕ) (p k : ℕ) → p < suc k → Apart f (suc k) → Apart (instead f p (f k)) k
instead-apart f p k hp a i j l h e = go (instead-is f p (f k) i) (instead-is f p (f k) j)
  where
    f' : ℕ → ℕ
    f' = instead f p (f k)

    go : ((i ≡ p) × (f' i ≡ f k)) ⊎ ((i ≡ p → ⊥) × (f' i ≡ f i))
        → ((j ≡ p) × (f' j ≡ f k)) ⊎ ((j ≡ p → ⊥) × (f' j ≡ f j)) → ⊥
    go (inl u) (inl v) = omega arith
    go (inl u) (inr v) = a j k h (omega arith) (sym v.1 ∙ sym e ∙ u.1)
    go (inr u) (inl v) = a i k (omega arith) (omega arith) (sym u.1 ∙ e ∙ v.1)
    go (inr u) (inr v) = a i j l (omega arith) (sym u.1 ∙ e ∙ v.1)

-- a number that stands at place p stands at no other
pub apart_eq : (f : ℕ → ℕ) (k i j : ℕ) → Apart f k → i < k → j < k → f i ≡ f j → i ≡ j
apart_eq f k i j a hi hj e = go (dec_lt i j) (dec_lt j i)
  where
    go : Dec (i < j) → Dec (j < i) → i ≡ j
    go (yes l) d = absurd (a i j l hj e)
    go (no l) (yes r) = absurd (a j i r hi (sym e))
    go (no l) (no r) = omega arith

below_pred : (f : ℕ → ℕ) (p q k n : ℕ) → p < k → q < k → (q ≡ p → ⊥) → f p ≡ n → Apart f k → f q < suc n → f q < n
below_pred f p q k n hp hq ne e a b = go (ℕ_discrete (f q) n)
  where
    go : Dec (f q ≡ n) → f q < n
    go (yes z) = absurd (ne (apart_eq f k q p a hq hp (z ∙ sym e)))
    go (no z) = omega arith

instead-below : (f : ℕ → ℕ) (p k n : ℕ) → p < suc k → f p ≡ n → Apart f (suc k) → ((i : ℕ) → i < suc k → f i < suc n)
    → (i : ℕ) → i < k → instead f p (f k) i < n
instead-below f p k n hp e a b i h = go (instead-is f p (f k) i)
  where
    f' : ℕ → ℕ
    f' = instead f p (f k)

    go : ((i ≡ p) × (f' i ≡ f k)) ⊎ ((i ≡ p → ⊥) × (f' i ≡ f i)) → f' i < n
    go (inl u) = rw u.1 (below_pred f p k (suc k) n hp (omega arith) (omega arith) e a (b k (omega arith)))
    go (inr v) = rw v.1 (below_pred f p i (suc k) n hp (omega arith) v.0 e a (b i (omega arith)))

absent-below : (f : ℕ → ℕ) (k n : ℕ) → Absent f n k → ((i : ℕ) → i < k → f i < suc n) → (i : ℕ) → i < k → f i < n
absent-below f k n no-n b i h = go (ℕ_discrete (f i) n)
  where
    go : Dec (f i ≡ n) → f i < n
    go (yes z) = absurd (no-n i h z)
    go (no z) = omega (arith, b i h)

pub pigeonhole : (n : ℕ) (f : ℕ → ℕ) (k : ℕ) → Apart f k → ((i : ℕ) → i < k → f i < n) → k ≤ n
pigeonhole zero f zero a b = zero-le
pigeonhole (suc n) f zero a b = zero-le
pigeonhole zero f (suc k) a b = absurd (not-suc-le-zero (b 0 (omega arith)))
pigeonhole (suc n) f (suc k) a b = go (λ f' k'. pigeonhole n f' k') (find f n (suc k))
  where
    go : ((f' : ℕ → ℕ) (k' : ℕ) → Apart f' k' → ((i : ℕ) → i < k' → f' i < n) → k' ≤ n)
        → Found f n (suc k) ⊎ Absent f n (suc k)
        → suc k ≤ suc n
    go ih (inl r) =
        let p = r.place in
        suc-le-suc (ih (instead f p (f k)) k (instead-apart f p k r.below a) (instead-below f p k n r.below r.same a b))
    go ih (inr no-n) = le_step (ih f (suc k) a (absent-below f (suc k) n no-n b))

-- ---- 4

pub repeat_below : (n : ℕ) (f : ℕ → ℕ) (k : ℕ) → n < k → ((i : ℕ) → i < k → f i < n) → Repeat f k
repeat_below n f k l b = go (first_repeat f k)
  where
    go : Repeat f k ⊎ Apart f k → Repeat f k
    go (inl r) = r
    go (inr a) = absurd (lt_irrefl n (lt_of_lt_of_le l (pigeonhole n f k a b)))

-- ---- the places of a list

-- the i-th number of a list
abbrev pub nth : List ℕ → ℕ → ℕ
nth xs i = get_or xs i 0

pub different-take : (xs : List ℕ) (k : ℕ) → Apart (nth xs) k → Different (take k xs)
different-take xs k a i j l h e =
    let hj : j < k = omega (arith, length-take k xs) in
    a i j l hj (sym (get_or-take k xs i 0 (omega arith)) ∙ e ∙ get_or-take k xs j 0 hj)

pub different_cons : (x : ℕ) (xs : List ℕ) → ((i : ℕ) → i < length xs → nth xs i ≡ x → ⊥) → Different xs
    → Different (x ∷ xs)
different_cons x xs new d i zero l h e = not-suc-le-zero l
different_cons x xs new d zero (suc j) l h e = new j (le_of_suc-le-suc h) (sym e)
different_cons x xs new d (suc i) (suc j) l h e = d i j (le_of_suc-le-suc l) (le_of_suc-le-suc h) e

pub different-one : (x : ℕ) → Different (x ∷ [])
different-one x = different_cons x [] (λ i h e. not-suc-le-zero h) (λ i j l h e. not-suc-le-zero h)

-- each place of a list with one more at its end is a place of the list, or the end
abbrev pub Snoc : List ℕ → ℕ → ℕ → Type 0
Snoc xs x i = ((i < length xs) × (nth (xs ++ (x ∷ [])) i ≡ nth xs i)) ⊎ ((i ≡ length xs) × (nth (xs ++ (x ∷ [])) i ≡ x))

pub nth_snoc : (xs : List ℕ) (x i : ℕ) → i < length (xs ++ (x ∷ [])) → Snoc xs x i
nth_snoc [] x zero h = inr (refl, refl)
nth_snoc [] x (suc i) h = absurd (not-suc-le-zero (le_of_suc-le-suc h))
nth_snoc (y ∷ ys) x zero h = inl (zero-lt-suc (length ys), refl)
nth_snoc (y ∷ ys) x (suc i) h = go (nth_snoc ys x i (le_of_suc-le-suc h))
  where
    go : Snoc ys x i → Snoc (y ∷ ys) x (suc i)
    go (inl u) = inl (suc-le-suc u.0, u.1)
    go (inr u) = inr (ap suc u.0, u.1)

pub different_snoc : (xs : List ℕ) (x : ℕ) → ((i : ℕ) → i < length xs → nth xs i ≡ x → ⊥) → Different xs
    → Different (xs ++ (x ∷ []))
different_snoc xs x new d i j l h e = go (nth_snoc xs x i (lt_trans l h)) (nth_snoc xs x j h)
  where
    go : Snoc xs x i → Snoc xs x j → ⊥
    go (inl u) (inl v) = d i j l v.0 (sym u.1 ∙ e ∙ v.1)
    go (inl u) (inr v) = new i u.0 (sym u.1 ∙ e ∙ v.1)
    go (inr u) (inl v) = omega arith
    go (inr u) (inr v) = omega arith

pub different-drop : (i : ℕ) (xs : List ℕ) → Different xs → Different (drop i xs)
different-drop zero xs d = d
different-drop (suc i) [] d = d
different-drop (suc i) (x ∷ xs) d = different-drop i xs (λ u v l h e. d (suc u) (suc v) (suc-le-suc l) (suc-le-suc h) e)

-- a list of different numbers below n is no longer than n
pub different-length : (n : ℕ) (xs : List ℕ) → Different xs → ((i : ℕ) → i < length xs → nth xs i < n) → length xs ≤ n
different-length n xs d b = pigeonhole n (nth xs) (length xs) d b

-- ---- lists whose last number may be the first

-- all different, or with one more in front that is none of them but perhaps the last
pub different-ends : (xs : List ℕ) → Different xs → DifferentButEnds xs
different-ends xs d i j l h e = absurd (d i j l h e)

pub different-ends_cons : (x : ℕ) (xs : List ℕ) → ((i : ℕ) → suc i < length xs → nth xs i ≡ x → ⊥) → Different xs → DifferentButEnds (x ∷ xs)
different-ends_cons x xs new d i zero l h e = absurd (not-suc-le-zero l)
different-ends_cons x xs new d zero (suc j) l h e = go (dec_lt (suc j) (length xs))
  where
    go : Dec (suc j < length xs) → ◌≡◌ {A = ℕ} 0 0 × (suc (suc j) ≡ suc (length xs))
    go (yes r) = absurd (new j r (sym e))
    go (no r) = (refl, omega (arith, le_of_suc-le-suc h))
different-ends_cons x xs new d (suc i) (suc j) l h e = absurd (d i j (le_of_suc-le-suc l) (le_of_suc-le-suc h) e)

-- without the last they all differ
pub different-front : (xs : List ℕ) (k : ℕ) → k < length xs → DifferentButEnds xs → Different (take k xs)
different-front xs k l d = different-take xs k (λ i j o h e. let (z, last) = d i j o (omega arith) e in omega arith)
