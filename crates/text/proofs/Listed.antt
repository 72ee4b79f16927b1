-- Lists of numbers, each after a space: one number more at the end, and how long they can be. Assumes nothing.
use Prim.Native.Nat.{ℕ, zero, suc, ◌+◌, ◌*◌, ◌^◌, ◌≤◌, ◌<◌}
use mathlib.Core.List.{List, [], ◌∷◌, ◌++◌, append-nil, append_assoc}
use mathlib.Core.Path.{◌≡◌, refl, sym, ap, ◌∙◌}
use native.Mathlib.Omega.{arith}
use lib.ListN.{length, get_or, take, drop, length-append, take-append-drop}
use lib.Seq.{take-suc, take-take}
use Rattle.text.specs.Text.{digits, spaced, listed}
use Rattle.text.proofs.Numerals.{digits-length}

listed_append : (xs ys : List ℕ) → listed (xs ++ ys) ≡ listed xs ++ listed ys
unfolding listed
listed_append [] ys = refl
listed_append (x ∷ xs) ys = ap (λ (l : List ℕ). spaced x ++ l) (listed_append xs ys) ∙ sym (append_assoc (spaced x) (listed xs) (listed ys))

listed_one : (x : ℕ) → listed (x ∷ []) ≡ spaced x
unfolding listed
listed_one x = append-nil (spaced x)

-- one number more
pub listed_more : (xs : List ℕ) (k : ℕ) → k < length xs → listed (take (suc k) xs) ≡ listed (take k xs) ++ spaced (get_or xs k 0)
listed_more xs k h =
    ap listed (take-suc xs k 0 h)
    ∙ listed_append (take k xs) (get_or xs k 0 ∷ [])
    ∙ ap (λ (l : List ℕ). listed (take k xs) ++ l) (listed_one (get_or xs k 0))

pub spaced-length : (x : ℕ) → length (spaced x) ≡ 1 + length (digits x)
unfolding spaced
spaced-length x = omega arith

-- fewer numbers take no more room
pub listed_front : (xs : List ℕ) (k m : ℕ) → k ≤ m → length (listed (take k xs)) ≤ length (listed (take m xs))
listed_front xs k m h =
    let e : listed (take m xs) ≡ listed (take k xs) ++ listed (drop k (take m xs)) =
    ap listed (sym (take-append-drop k (take m xs))) ∙ listed_append (take k (take m xs)) (drop k (take m xs))
    ∙ ap (λ (l : List ℕ). listed l ++ listed (drop k (take m xs))) (take-take k m xs h) in
    omega (arith, ap length e ∙ length-append (listed (take k xs)) (listed (drop k (take m xs))))

-- k numbers of at most w digits each: 6 octets a number for w = 5, as of u16, and 5 for w = 4, as of numbers below 2,048
pub listed_length : (w : ℕ) (xs : List ℕ) (k : ℕ) → 0 < w → k ≤ length xs → ((i : ℕ) → i < k → get_or xs i 0 < 10 ^ w)
    → length (listed (take k xs)) ≤ (w + 1) * k
unfolding listed
listed_length w xs zero p h small = omega arith
listed_length w xs (suc k) p h small =
    rw (listed_more xs k h, length-append)
    (omega (
      arith,
      listed_length w xs k p (omega arith) (λ i l. small i (omega arith)),
      spaced-length (get_or xs k 0),
      digits-length w (get_or xs k 0) p (small k (omega arith)),
    ))
