-- A numeral put from its last digit to its first. While `rest` is what is left of x, the digits of x are those of rest and then a tail that is in
-- place already: the buffer is as it was up to the place after rest's digits, then has the tail, and then is as it was. Another digit of rest
-- makes the tail one longer; the last one makes it the numeral. Assumes nothing.
use Prim.Native.Nat.{ℕ, suc, ◌+◌, ◌-◌, ◌/◌, ◌%◌, ◌≤◌, ◌<◌}
use mathlib.Core.List.{List, [], ◌∷◌, ◌++◌, append-nil, append_assoc}
use mathlib.Core.Path.{◌≡◌, refl, sym, ap, ◌∙◌}
use native.Mathlib.Omega.{arith}
use lib.ListN.{length, get_or, set, take, drop, length-append, take-append-drop}
use lib.Seq.{take-suc, set_at, length-take-le}
use Rattle.text.specs.Text.{digit, digits}
use Rattle.text.specs.Put.{Put}
use Rattle.text.proofs.Numerals.{digits-one, digits_last}

-- b is the buffer as it was, c as it is
pub record Filled (b : List ℕ) (at x rest place : ℕ) (c : List ℕ) : Type 0 where
  pub tail : List ℕ
  pub numeral : digits x ≡ digits rest ++ tail
  pub here : place ≡ at + length (digits rest)
  pub places : c ≡ take place b ++ tail ++ drop (at + length (digits x)) b

pub filled_none : (b : List ℕ) (at x place : ℕ) → place ≡ at + length (digits x) → Filled b at x x place b
filled_none b at x place e = record {
  tail = [];
  numeral = sym (append-nil (digits x));
  here = e;
  places = rw (← e) (sym (ap (λ (l : List ℕ). l ++ drop place b) (append-nil (take place b)) ∙ take-append-drop place b));
}

-- a store at the end of what is as it was
set_last : (b tail rear : List ℕ) (k d : ℕ) → k < length b → set (take (suc k) b ++ tail ++ rear) k d ≡ take k b ++ (d ∷ tail) ++ rear
set_last b tail rear k d h =
    let t : take (suc k) b ++ tail ++ rear ≡ take k b ++ (get_or b k 0 ∷ (tail ++ rear)) =
    rw (take-suc b k 0 h, append_assoc, append_assoc) refl in
    ap (λ (l : List ℕ). set l k d) t ∙ set_at (take k b) (get_or b k 0) (tail ++ rear) d k (length-take-le k b (omega arith)) ∙ sym (append_assoc (take k b) (d ∷ tail) rear)

module _ {b : List ℕ} {at x rest place : ℕ} {c : List ℕ} (f : Filled b at x rest place c) (room : at + length (digits x) ≤ length b) where
  pub inside : place ≤ length b
  inside = omega (arith, ap length f.numeral ∙ length-append (digits rest) f.tail, f.here)

  pub filled_more : 10 ≤ rest → Filled b at x (rest / 10) (place - 1) (set c (place - 1) (48 + rest % 10))
  filled_more h =
      let l : length (digits rest) ≡ length (digits (rest / 10)) + 1 = ap length (digits_last rest h) ∙ length-append (digits (rest / 10)) (digit (rest % 10) ∷ []) in
      let e : place ≡ suc (place - 1) = omega (arith, f.here) in
      record {
        tail = digit (rest % 10) ∷ f.tail;
        numeral = f.numeral ∙ ap (λ (l : List ℕ). l ++ f.tail) (digits_last rest h) ∙ append_assoc (digits (rest / 10)) (digit (rest % 10) ∷ []) f.tail;
        here = omega (arith, f.here);
        places = ap (λ (l : List ℕ). set l (place - 1) (digit (rest % 10))) (f.places ∙ ap (λ (k : ℕ). take k b ++ f.tail ++ drop (at + length (digits x)) b) e)
            ∙ set_last b f.tail (drop (at + length (digits x)) b) (place - 1) (digit (rest % 10)) (omega (arith, inside));
      }

  pub filled_whole : rest < 10 → Put b at (digits x) (set c at (48 + rest)) (at + length (digits x))
  filled_whole h =
      let l : length (digits rest) ≡ 1 = ap length (digits-one rest h) in
      let e : place ≡ suc at = omega (arith, f.here) in
      let n : digits x ≡ digit rest ∷ f.tail = f.numeral ∙ ap (λ (l : List ℕ). l ++ f.tail) (digits-one rest h) in
      record {
        places =
            ap (λ (l : List ℕ). set l at (digit rest)) (f.places ∙ ap (λ (k : ℕ). take k b ++ f.tail ++ drop (at + length (digits x)) b) e)
            ∙ set_last b f.tail (drop (at + length (digits x)) b) at (digit rest) (omega (arith, inside))
            ∙ ap (λ (l : List ℕ). take at b ++ l ++ drop (at + length (digits x)) b) (sym n);
        end = refl;
      }
