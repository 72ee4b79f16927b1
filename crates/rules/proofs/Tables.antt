-- What a table of rows says, once for every call: the first row that holds answers; only a row that holds refuses; a call is accepted where none
-- holds, and only there. Then rows in parts: those of what comes first, and of items by number, where the first item that is refused decides.
-- Each is an induction on the rows. Assumes nothing.
use mathlib.Core.Bool.{true, false}
use mathlib.Core.List.{List, [], ◌∷◌, ◌++◌}
use mathlib.Core.Logic.{inl, inr}
use mathlib.Core.Path.{◌≡◌, refl, sym, ap, ◌∙◌, subst}
use Prim.Native.Nat.{ℕ, zero, suc, ◌+◌, ◌<◌}
use native.Mathlib.Nat.{add-zero, zero-add, add-suc, suc-add, not-suc-le-zero, le_of_suc-le-suc}
use native.Mathlib.Omega.{arith}
use Rattle.rules.specs.declared.Refusal.{Refusal}
use Rattle.rules.specs.Refusal.{accepted, refused, answer_of}
use Rattle.rules.specs.Table.{Row, by_table, first, by_number, Holds, NoneHolds}
use Rattle.rules.proofs.Results.{never}

module _ {A : Type 0} where
  -- the first row that holds answers, whatever stands after it
  pub first-answers : (before after : List Row) (r : Refusal) (a : A) → NoneHolds before → by_table (before ++ ((r, true) ∷ after)) a ≡ refused r
  first-answers [] after r a h = refl
  first-answers ((s, b) ∷ before) after r a h = rw h.0 (first-answers before after r a h.1)

  -- "These conditions are the only grounds."
  pub only_grounds : (rows : List Row) (a : A) (r : Refusal) → by_table rows a ≡ refused r → Holds r rows
  only_grounds [] a r e = absurd (never a r (sym e))
  only_grounds ((s, true) ∷ rows) a r e = inl ((cc), refl)
  only_grounds ((s, false) ∷ rows) a r e = inr (only_grounds rows a r e)

  -- accepted where none holds
  pub accepted_where : (rows : List Row) (a : A) → NoneHolds rows → by_table rows a ≡ accepted a
  accepted_where [] a h = refl
  accepted_where ((s, b) ∷ rows) a h = rw h.0 (accepted_where rows a h.1)

  -- and only there
  pub accepted_only : (rows : List Row) (a b : A) → by_table rows a ≡ accepted b → NoneHolds rows × (a ≡ b)
  accepted_only [] a b e = (tt, cc)
  accepted_only ((s, true) ∷ rows) a b e = absurd (never b s e)
  accepted_only ((s, false) ∷ rows) a b e = let (h, p) = accepted_only rows a b e in ((refl, h), p)

  -- the answer of a call is its rows'
  pub answer-first : (rows : List Row) (a : A) → answer_of (by_table rows a) ≡ first rows
  answer-first [] a = refl
  answer-first ((s, true) ∷ rows) a = refl
  answer-first ((s, false) ∷ rows) a = answer-first rows a

  -- ---- rows in parts

  pub after_none : (xs ys : List Row) (a : A) → NoneHolds xs → by_table (xs ++ ys) a ≡ by_table ys a
  after_none [] ys a h = refl
  after_none ((s, b) ∷ xs) ys a h = rw h.0 (after_none xs ys a h.1)

  pub after-refused : (xs ys : List Row) (a : A) (r : Refusal) → first xs ≡ refused r → by_table (xs ++ ys) a ≡ refused r
  after-refused [] ys a r e = absurd (never tt r (sym e))
  after-refused ((s, true) ∷ xs) ys a r e = let p : s ≡ r = cc in rw p
  after-refused ((s, false) ∷ xs) ys a r e = after-refused xs ys a r e

-- rows after the same rows: what answers there decides
pub tail-decides : (xs ys zs : List Row) → (NoneHolds xs → first ys ≡ first zs) → first (xs ++ ys) ≡ first (xs ++ zs)
tail-decides [] ys zs h = h tt
tail-decides ((s, true) ∷ xs) ys zs h = refl
tail-decides ((s, false) ∷ xs) ys zs h = tail-decides xs ys zs (λ n. h (refl, n))

pub none-append : (xs ys : List Row) → NoneHolds (xs ++ ys) → NoneHolds xs × NoneHolds ys
none-append [] ys h = (tt, h)
none-append ((s, b) ∷ xs) ys h = let (p, q) = none-append xs ys h.1 in ((h.0, p), q)

pub append-none : (xs ys : List Row) → NoneHolds xs → NoneHolds ys → NoneHolds (xs ++ ys)
append-none [] ys p q = q
append-none ((s, b) ∷ xs) ys p q = (p.0, append-none xs ys p.1 q)

-- ---- items by number

module _ (rows : ℕ → List Row) where
  pub each_none : (n i : ℕ) → NoneHolds (by_number rows i n) → (k : ℕ) → k < n → NoneHolds (rows (i + k))
  unfolding by_number
  each_none zero i h k l = absurd (not-suc-le-zero l)
  each_none (suc n) i h zero l = subst (λ (x : ℕ). NoneHolds (rows x)) (sym (add-zero i)) (none-append (rows i) _ h).0
  each_none (suc n) i h (suc k) l =
      subst (λ (x : ℕ). NoneHolds (rows x)) (suc-add i k ∙ sym (add-suc i k)) (each_none n (suc i) (none-append (rows i) _ h).1 k (le_of_suc-le-suc l))

  none_from : (n i : ℕ) → ((k : ℕ) → k < n → NoneHolds (rows (i + k))) → NoneHolds (by_number rows i n)
  unfolding by_number
  none_from zero i h = tt
  none_from (suc n) i h =
      append-none (rows i) (by_number rows (suc i) n) (subst (λ (x : ℕ). NoneHolds (rows x)) (add-zero i) (h zero (omega arith)))
      (none_from n (suc i) (λ k l. subst (λ (x : ℕ). NoneHolds (rows x)) (add-suc i k ∙ sym (suc-add i k)) (h (suc k) (omega arith))))

  pub none_each : (n : ℕ) → ((k : ℕ) → k < n → NoneHolds (rows k)) → NoneHolds (by_number rows 0 n)
  none_each n h = none_from n 0 (λ k l. subst (λ (x : ℕ). NoneHolds (rows x)) (sym (zero-add k)) (h k l))

  decided_from : (n j i : ℕ) (r : Refusal) → i < n → ((k : ℕ) → k < i → NoneHolds (rows (j + k))) → first (rows (j + i)) ≡ refused r
      → first (by_number rows j n) ≡ refused r
  unfolding by_number
  decided_from zero j i r h p e = absurd (not-suc-le-zero h)
  decided_from (suc n) j zero r h p e = after-refused (rows j) (by_number rows (suc j) n) tt r (ap (λ (x : ℕ). first (rows x)) (sym (add-zero j)) ∙ e)
  decided_from (suc n) j (suc i) r h p e =
      after_none (rows j) (by_number rows (suc j) n) tt (subst (λ (x : ℕ). NoneHolds (rows x)) (add-zero j) (p zero (omega arith)))
      ∙ decided_from n (suc j) i r (le_of_suc-le-suc h)
      (λ k l. subst (λ (x : ℕ). NoneHolds (rows x)) (add-suc j k ∙ sym (suc-add j k)) (p (suc k) (omega arith)))
      (ap (λ (x : ℕ). first (rows x)) (suc-add j i ∙ sym (add-suc j i)) ∙ e)

  -- "by number": no row of the items before item i holds, and that one is refused
  pub item-decides : (n i : ℕ) (r : Refusal) → i < n → ((k : ℕ) → k < i → NoneHolds (rows k)) → first (rows i) ≡ refused r
      → first (by_number rows 0 n) ≡ refused r
  item-decides n i r h p e =
      decided_from n 0 i r h (λ k l. subst (λ (x : ℕ). NoneHolds (rows x)) (sym (zero-add k)) (p k l)) (ap (λ (x : ℕ). first (rows x)) (zero-add i) ∙ e)
