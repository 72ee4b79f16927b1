-- Copies into and out of the middle of a list: one number more, a copy behind another one, four of them, and a part.
-- Assumes nothing.
use mathlib.Core.List.{List, [], ◌++◌}
use mathlib.Core.Path.{◌≡◌, refl, sym, ap, ap₂, ◌∙◌}
use Prim.Native.Nat.{ℕ, ◌+◌, ◌<◌}
use native.Mathlib.Numerals.{add-one}
use native.Mathlib.Omega.{arith}
use lib.ListN.{length, get_or, take, drop, set, length-append}
use lib.Seq.{paste, paste-suc, drop-append-add, drop-drop, take_all, drop_at, take_at}
use Rattle.arrays.specs.Tables.{over}

-- one number more of a copy to the places from at on
pub paste_more : (d s : List ℕ) (at i : ℕ) → at + i < length d → i < length s → set (paste d at s i) (at + i) (get_or s i 0) ≡ paste d at s (i + 1)
paste_more d s at i hd hs = paste-suc d at s i 0 hd hs ∙ ap (λ (n : ℕ). paste d at s n) (sym (add-one i))

-- a copy right behind what stands at the front already: both stand at the front
pub paste_over : (d xs s : List ℕ) (at n : ℕ) → length xs ≡ at → length s ≡ n → paste (over xs d) at s n ≡ over (xs ++ s) d
paste_over d xs s at n ex es =
    let r : List ℕ = drop (length xs) d in
    let l : length (xs ++ s) ≡ at + n = length-append xs s ∙ ap₂ ◌+◌ ex es in
    let k : drop (at + n) (xs ++ r) ≡ drop (length (xs ++ s)) d =
    ap (λ (j : ℕ). drop (j + n) (xs ++ r)) (sym ex) ∙ drop-append-add xs r n ∙ drop-drop n (length xs) d ∙ ap (λ (j : ℕ). drop j d) (ap (λ (j : ℕ). j + n) ex ∙ sym l) in
    ap₂ {C = List ℕ} (λ (x y : List ℕ). x ++ y ++ drop (at + n) (xs ++ r)) (take_at xs r at ex) (take_all n s (omega arith))
    ∙ ap {B = List ℕ} (λ (x : List ℕ). xs ++ s ++ x) k

-- a part of a list, by what stands before it
pub part : (a b r : List ℕ) (at n : ℕ) → length a ≡ at → length b ≡ n → take n (drop at (a ++ (b ++ r))) ≡ b
part a b r at n ea eb = ap (λ (l : List ℕ). take n l) (drop_at a (b ++ r) at ea) ∙ take_at b r n eb

-- four lists of w numbers each, copied one behind another, stand at the front
module _ (a b c d : List ℕ) (w : ℕ) (ea : length a ≡ w) (eb : length b ≡ w) (ec : length c ≡ w) (ed : length d ≡ w) where
  pub two : length (a ++ b) ≡ w + w
  two = length-append a b ∙ ap₂ ◌+◌ ea eb

  pub three : length (a ++ b ++ c) ≡ w + w + w
  three = length-append (a ++ b) c ∙ ap₂ ◌+◌ two ec

  pub four_copied : (l : List ℕ) → paste (paste (paste (paste l 0 a w) w b w) (w + w) c w) (w + w + w) d w ≡ over (a ++ b ++ c ++ d) l
  four_copied l =
      ap (λ (x : List ℕ). paste x (w + w + w) d w)
      (ap (λ (x : List ℕ). paste x (w + w) c w) (ap (λ (x : List ℕ). paste x w b w) (paste_over l [] a 0 w refl ea) ∙ paste_over l a b w w ea eb)
      ∙ paste_over l (a ++ b) c (w + w) w two ec)
      ∙ paste_over l (a ++ b ++ c) d (w + w + w) w three ed
