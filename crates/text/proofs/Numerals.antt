-- Decimal numerals. The bound in `leading` does not matter once it is no less than the number, so a number below ten is its own digit, and any other
-- has the numeral of its tenth and one digit more. By that rule (`by_tens`): the numeral's value is the number; every octet
-- is a digit; a number but 0 begins with no zero; a number below 10^w has at most w digits. Assumes nothing.
use Prim.Native.Nat.{ℕ, zero, suc, ◌+◌, ◌-◌, ◌*◌, ◌/◌, ◌%◌, ◌^◌, ◌≤◌, ◌<◌}
use mathlib.Core.List.{List, [], ◌∷◌, ◌++◌}
use mathlib.Core.Logic.{◌⊎◌, inl, inr, ⊎_elim}
use mathlib.Core.Path.{◌≡◌, refl, sym, ap, ◌∙◌}
use native.Mathlib.Nat.{pow-suc, eq-zero-or-pos}
use native.Mathlib.Omega.{arith}
use lib.ListN.{length, get_or, length-append, get_or-append}
use Rattle.text.specs.Text.{digit, leading, digits, AllDigits, value_after, value}

-- ---- the rule of the last digit

leading-none : (b q : ℕ) → q ≡ 0 → leading b q ≡ []
unfolding leading
leading-none zero q e = refl
leading-none (suc b) zero e = refl
leading-none (suc b) (suc q) e = absurd (omega arith)

leading-enough : (b c q : ℕ) → q ≤ b → q ≤ c → leading b q ≡ leading c q
unfolding leading
leading-enough zero c q h k = sym (leading-none c q (omega arith))
leading-enough (suc b) zero q h k = leading-none (suc b) q (omega arith)
leading-enough (suc b) (suc c) zero h k = refl
leading-enough (suc b) (suc c) (suc q) h k = ap (λ (l : List ℕ). l ++ (digit (suc q % 10) ∷ [])) (leading-enough b c (suc q / 10) (omega arith) (omega arith))

-- the digits before the last one are a numeral themselves
leading-digits : (b q : ℕ) → q ≤ b → 0 < q → leading b q ≡ digits q
unfolding leading digits
leading-digits zero q h p = absurd (omega arith)
leading-digits (suc b) zero h p = absurd (omega arith)
leading-digits (suc b) (suc q) h p = ap (λ (l : List ℕ). l ++ (digit (suc q % 10) ∷ [])) (leading-enough b (suc q) (suc q / 10) (omega arith) (omega arith))

pub digits-one : (x : ℕ) → x < 10 → digits x ≡ digit x ∷ []
unfolding digits
digits-one x h =
    let e : x % 10 ≡ x = omega arith in
    rw (leading-none x (x / 10) (omega arith), e)

digits-is : (x : ℕ) → digits x ≡ leading x (x / 10) ++ (digit (x % 10) ∷ [])
unfolding digits
digits-is x = refl

pub digits_last : (x : ℕ) → 10 ≤ x → digits x ≡ digits (x / 10) ++ (digit (x % 10) ∷ [])
digits_last x h = digits-is x ∙ ap (λ (l : List ℕ). l ++ (digit (x % 10) ∷ [])) (leading-digits x (x / 10) (omega arith) (omega arith))

below_or_not : (x : ℕ) → (x < 10) ⊎ (10 ≤ x)
below_or_not x = ⊎_elim (λ z. inl (omega arith)) (λ p. inr (omega arith)) (eq-zero-or-pos (x / 10))

-- what holds of the numbers below ten, and of a number if of its tenth, holds of all
module _ (P : ℕ → Type 0) (one : (x : ℕ) → x < 10 → P x) (last : (x : ℕ) → 10 ≤ x → P (x / 10) → P x) where
  by_tens_below : (b x : ℕ) → x ≤ b → P x
  by_tens_below zero x h = one x (omega arith)
  by_tens_below (suc b) x h = ⊎_elim (λ l. one x l) (λ m. last x m (by_tens_below b (x / 10) (omega arith))) (below_or_not x)

  pub by_tens : (x : ℕ) → P x
  by_tens x = by_tens_below x x (omega arith)

-- ---- the value

pub value_snoc : (v : ℕ) (ds : List ℕ) (d : ℕ) → value_after v (ds ++ (d ∷ [])) ≡ 10 * value_after v ds + (d - 48)
unfolding value_after
value_snoc v [] d = refl
value_snoc v (e ∷ ds) d = value_snoc (10 * v + (e - 48)) ds d

pub value-digits : (x : ℕ) → value (digits x) ≡ x
unfolding value_after value
value-digits =
    by_tens
    (λ x. value (digits x) ≡ x)
    (λ x h. rw (digits-one x h) (omega arith))
    (λ x h e. rw (digits_last x h, value_snoc 0 (digits (x / 10)) (digit (x % 10)), e) (omega arith))

-- ---- the octets

pub digits_some : (x : ℕ) → 0 < length (digits x)
digits_some = by_tens (λ x. 0 < length (digits x)) (λ x h. rw (digits-one x h) (omega arith)) (λ x h e. rw (digits_last x h, length-append) (omega arith))

digits_snoc : (ds : List ℕ) (d : ℕ) → AllDigits ds → d < 10 → AllDigits (ds ++ (digit d ∷ []))
unfolding AllDigits
digits_snoc [] d a h = (omega arith, omega arith, tt)
digits_snoc (e ∷ ds) d a h = (a.0, a.1, digits_snoc ds d a.2 h)

pub digits-all : (x : ℕ) → AllDigits (digits x)
unfolding AllDigits
digits-all =
    by_tens
    (λ x. AllDigits (digits x))
    (λ x h. rw (digits-one x h) (omega arith, omega arith, tt))
    (λ x h a. rw (digits_last x h) (digits_snoc (digits (x / 10)) (x % 10) a (omega arith)))

-- no leading zero: only the numeral of 0 begins with one
pub digits_lead : (x : ℕ) → 0 < x → 48 < get_or (digits x) 0 0
digits_lead =
    by_tens
    (λ x. 0 < x → 48 < get_or (digits x) 0 0)
    (λ x h p. rw (digits-one x h) (omega arith))
    (λ x h e p. rw (digits_last x h, get_or-append (digits (x / 10)) (digit (x % 10) ∷ []) 0 0 (digits_some (x / 10))) (e (omega arith)))

-- a number below 10^w has at most w digits, one at least
pub digits-length : (w x : ℕ) → 0 < w → x < 10 ^ w → length (digits x) ≤ w
digits-length zero x p h = absurd (omega arith)
digits-length (suc zero) x p h = rw (digits-one x h) (omega arith)
digits-length (suc (suc w)) x p h =
    ⊎_elim
    (λ l. rw (digits-one x l) (omega arith))
    (λ m. rw (digits_last x m, length-append) (omega (arith, digits-length (suc w) (x / 10) (omega arith) (omega (arith, pow-suc 10 (suc w))))))
    (below_or_not x)

pub digits-length_u32 : (x : ℕ) → x < 2 ^ 32 → length (digits x) ≤ 10
digits-length_u32 x h = digits-length 10 x (omega arith) (omega arith)
