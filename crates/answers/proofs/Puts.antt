-- Four numbers set one after another from a place on are a copy of their list: each store is a turn of the loop that copies. Assumes nothing.
use mathlib.Core.List.{List, [], ◌∷◌}
use mathlib.Core.Path.{◌≡◌, sym, ap, ◌∙◌}
use Prim.Native.Nat.{ℕ, ◌+◌, ◌≤◌}
use native.Mathlib.Nat.{add-zero}
use native.Mathlib.Omega.{arith}
use lib.ListN.{length, set}
use lib.Seq.{paste, paste-zero}
use Rattle.arrays.proofs.Copies.{paste_more}

pub four-set : (l : List ℕ) (at a b c d : ℕ) → at + 4 ≤ length l
    → set (set (set (set l at a) (at + 1) b) (at + 2) c) (at + 3) d ≡ paste l at (a ∷ b ∷ c ∷ d ∷ []) 4
four-set l at a b c d h =
    let s : List ℕ = a ∷ b ∷ c ∷ d ∷ [] in
    let one : set l at a ≡ paste l at s 1 =
    ap (λ (x : List ℕ). set x at a) (paste-zero l at s) ∙ ap (λ (k : ℕ). set (paste l at s 0) k a) (sym (add-zero at)) ∙ paste_more l s at 0 (omega arith) (omega arith) in
    let two : set (set l at a) (at + 1) b ≡ paste l at s 2 = ap (λ (x : List ℕ). set x (at + 1) b) one ∙ paste_more l s at 1 (omega arith) (omega arith) in
    let three : set (set (set l at a) (at + 1) b) (at + 2) c ≡ paste l at s 3 = ap (λ (x : List ℕ). set x (at + 2) c) two ∙ paste_more l s at 2 (omega arith) (omega arith) in
    ap (λ (x : List ℕ). set x (at + 3) d) three ∙ paste_more l s at 3 (omega arith) (omega arith)
