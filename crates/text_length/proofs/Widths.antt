-- How many digits a number of 16 bits has: one, and one more for each of 10, 100, 1,000 and 10,000 that it reaches. For a number from ten on has one digit
-- more than its tenth. Assumes nothing.
use Prim.Native.Nat.{ℕ, ◌+◌, ◌/◌, ◌%◌, ◌≤◌, ◌<◌}
use mathlib.Core.Bool.{Bool, true, false}
use mathlib.Core.List.{[], ◌∷◌}
use mathlib.Core.Logic.{⊎_elim}
use mathlib.Core.Path.{◌≡◌, sym, ap, ◌∙◌}
use native.Mathlib.Omega.{arith}
use borrow.Author.Tests.{le-leb, lt-leb}
use lib.Dec.{leb}
use lib.ListN.{length, length-append}
use mir.Val.{bool_byte}
use Rattle.arrays.proofs.Lists.{below_or_not}
use Rattle.text.specs.Text.{digit, digits}
use Rattle.text.proofs.Numerals.{digits-one, digits_last}

more : (x : ℕ) → 10 ≤ x → length (digits x) ≡ length (digits (x / 10)) + 1
more x h = ap length (digits_last x h) ∙ length-append (digits (x / 10)) (digit (x % 10) ∷ [])

one : (x : ℕ) → x < 10 → length (digits x) ≡ 1
one x h = ap length (digits-one x h)

two : (x : ℕ) → 10 ≤ x → x < 100 → length (digits x) ≡ 2
two x h k = omega (arith, more x h, one (x / 10) (omega arith))

three : (x : ℕ) → 100 ≤ x → x < 1000 → length (digits x) ≡ 3
three x h k = omega (arith, more x (omega arith), two (x / 10) (omega arith) (omega arith))

four : (x : ℕ) → 1000 ≤ x → x < 10000 → length (digits x) ≡ 4
four x h k = omega (arith, more x (omega arith), three (x / 10) (omega arith) (omega arith))

five : (x : ℕ) → 10000 ≤ x → x < 100000 → length (digits x) ≡ 5
five x h k = omega (arith, more x (omega arith), four (x / 10) (omega arith) (omega arith))

-- one, and one more for each power that it reaches
abbrev pub reached : ℕ → ℕ
reached x = 1 + bool_byte (leb 10 x) + bool_byte (leb 100 x) + bool_byte (leb 1000 x) + bool_byte (leb 10000 x)

pub reached_few : (x : ℕ) → reached x ≤ 5
reached_few x = omega (arith, byte (leb 10 x), byte (leb 100 x), byte (leb 1000 x), byte (leb 10000 x))
  where
    byte : (b : Bool) → bool_byte b ≤ 1
    byte true = omega arith
    byte false = omega arith

pub reached-is : (x : ℕ) → x < 65536 → reached x ≡ length (digits x)
reached-is x h =
    ⊎_elim
    (λ a. rw (lt-leb 10 x a, lt-leb 100 x (omega arith), lt-leb 1000 x (omega arith), lt-leb 10000 x (omega arith)) (sym (one x a)))
    (λ a. ⊎_elim
    (λ b. rw (le-leb 10 x a, lt-leb 100 x b, lt-leb 1000 x (omega arith), lt-leb 10000 x (omega arith)) (sym (two x a b)))
    (λ b. ⊎_elim
    (λ d. rw (le-leb 10 x a, le-leb 100 x b, lt-leb 1000 x d, lt-leb 10000 x (omega arith)) (sym (three x b d)))
    (λ d. ⊎_elim
    (λ e. rw (le-leb 10 x a, le-leb 100 x b, le-leb 1000 x d, lt-leb 10000 x e) (sym (four x d e)))
    (λ e. rw (le-leb 10 x a, le-leb 100 x b, le-leb 1000 x d, le-leb 10000 x e) (sym (five x e (omega arith))))
    (below_or_not x 10000))
    (below_or_not x 1000))
    (below_or_not x 100))
    (below_or_not x 10)
