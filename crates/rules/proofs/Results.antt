-- Results, accepted and refused, and tests of every element of a list. Assumes nothing.
use mathlib.Core.Bool.{Bool, true, false, not, ◌&&◌}
use mathlib.Core.List.{List, [], ◌∷◌, ◌++◌}
use mathlib.Core.Path.{◌≡◌, refl, sym}
use Prim.Native.Nat.{ℕ, zero, suc, ◌<◌}
use native.Mathlib.Nat.{not-suc-le-zero, le_of_suc-le-suc}
use native.Mathlib.Omega.{arith}
use lib.ListN.{length, get_or, take, drop, set, replicate}
use Rattle.rules.specs.Answer.{Accepted, Answer}
use Rattle.std.proofs.Common.{Ok, Err}
use Rattle.rules.specs.declared.Refusal.{Refusal}
use Rattle.rules.specs.Refusal.{Result, accepted, refused, answer_of, said, code}
use Rattle.rules.specs.Limits.{all}

-- ---- accepted and refused results

pub never : {A : Type 0} (a : A) (r : Refusal) → refused r ≡ accepted a → ⊥
never a k e = let z : ◌≡◌ {A = ℕ} 0 1 = cc in omega arith

pub not-false : (c : Bool) → not c ≡ false → c ≡ true
not-false true e = refl
not-false false e = sym e

-- a result whose answer is known
pub accepted_as : {A : Type 0} (o : Result A) → accepted tt ≡ answer_of o → (a : A) × (o ≡ accepted a)
accepted_as (accepted a) e = (a, refl)
accepted_as (refused k) e = absurd (never tt k (sym e))

pub refused_as : {A : Type 0} (o : Result A) (k : Refusal) → refused k ≡ answer_of o → o ≡ refused k
refused_as (accepted a) k e = absurd (never tt k e)
refused_as (refused j) k e = let i : k ≡ j = cc in rw i

-- an answer that says what it should is the one that it should be
pub accepted-answer : (a : Answer) → said a ≡ accepted tt → a ≡ Accepted
accepted-answer (Ok _) e = refl
accepted-answer (Err r) e = absurd (never tt r e)

-- a result and its answer have one number
pub code_answer : {A : Type 0} (o : Result A) → code o ≡ code (answer_of o)
code_answer (accepted a) = refl
code_answer (refused k) = refl

-- ---- tests

pub and_true : (a b : Bool) → (a && b) ≡ true → (a ≡ true) × (b ≡ true)
and_true true b e = (refl, e)
and_true false b e = absurd (let z : ◌≡◌ {A = ℕ} 0 1 = cc in omega arith)

pub both_true : (a b : Bool) → a ≡ true → b ≡ true → (a && b) ≡ true
both_true a b p q = rw (p, q) refl

pub and_false : (a b : Bool) → b ≡ false → (a && b) ≡ false
and_false true b e = e
and_false false b e = refl

module _ {A : Type 0} (test : A → Bool) where
  pub all_append : (xs ys : List A) → all test xs ≡ true → all test ys ≡ true → all test (xs ++ ys) ≡ true
  unfolding all
  all_append [] ys p q = q
  all_append (x ∷ xs) ys p q =
      let h = and_true (test x) (all test xs) p in
      both_true (test x) (all test (xs ++ ys)) h.0 (all_append xs ys h.1 q)

  pub all_take : (k : ℕ) (xs : List A) → all test xs ≡ true → all test (take k xs) ≡ true
  unfolding all
  all_take zero xs p = refl
  all_take (suc k) [] p = refl
  all_take (suc k) (x ∷ xs) p =
      let h = and_true (test x) (all test xs) p in
      both_true (test x) (all test (take k xs)) h.0 (all_take k xs h.1)

  pub all_drop : (k : ℕ) (xs : List A) → all test xs ≡ true → all test (drop k xs) ≡ true
  unfolding all
  all_drop zero xs p = p
  all_drop (suc k) [] p = refl
  all_drop (suc k) (x ∷ xs) p = all_drop k xs (and_true (test x) (all test xs) p).1

  pub all_set : (xs : List A) (i : ℕ) (v : A) → all test xs ≡ true → test v ≡ true → all test (set xs i v) ≡ true
  unfolding all
  all_set [] i v p q = p
  all_set (x ∷ xs) zero v p q = both_true (test v) (all test xs) q (and_true (test x) (all test xs) p).1
  all_set (x ∷ xs) (suc i) v p q =
      let h = and_true (test x) (all test xs) p in
      both_true (test x) (all test (set xs i v)) h.0 (all_set xs i v h.1 q)

  pub all_replicate : (k : ℕ) (v : A) → test v ≡ true → all test (replicate k v) ≡ true
  unfolding all
  all_replicate zero v q = refl
  all_replicate (suc k) v q = both_true (test v) (all test (replicate k v)) q (all_replicate k v q)

-- a test that holds of all elements holds of each
pub all_get_d : {A : Type 0} (test : A → Bool) (xs : List A) (i : ℕ) (d : A) → all test xs ≡ true → i < length xs → test (get_or xs i d) ≡ true
unfolding all
all_get_d test [] i d h l = absurd (not-suc-le-zero l)
all_get_d test (x ∷ xs) zero d h l = (and_true (test x) (all test xs) h).0
all_get_d test (x ∷ xs) (suc i) d h l = all_get_d test xs i d (and_true (test x) (all test xs) h).1 (le_of_suc-le-suc l)
