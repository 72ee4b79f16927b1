-- Copies to the front of a list: a turn of the loop that copies, and the whole copy. Assumes nothing.
use mathlib.Core.List.{List, ◌++◌, append-nil}
use mathlib.Core.Path.{◌≡◌, sym, ap, ◌∙◌}
use Prim.Native.Nat.{ℕ, ◌+◌, ◌<◌}
use native.Mathlib.Nat.{zero-add}
use native.Mathlib.Omega.{arith}
use lib.ListN.{length, get_or, take, set, drop_of_length-le}
use lib.Seq.{paste}
use Rattle.arrays.proofs.Copies.{paste_more}

-- a turn of the loop that copies to the front, and the whole copy
pub copy_more : (d s : List ℕ) (i : ℕ) → i < length d → i < length s → set (paste d 0 s i) i (get_or s i 0) ≡ paste d 0 s (i + 1)
copy_more d s i hd hs =
    ap (λ (n : ℕ). set (paste d 0 s i) n (get_or s i 0)) (sym (zero-add i)) ∙ paste_more d s 0 i (omega (arith, zero-add i)) hs

pub copy_all : (d s : List ℕ) (n : ℕ) → length d ≡ n → paste d 0 s n ≡ take n s
copy_all d s n e =
    ap {B = List ℕ} (λ (l : List ℕ). take n s ++ l) (drop_of_length-le d {i = 0 + n} (omega (arith, zero-add n))) ∙ append-nil (take n s)
