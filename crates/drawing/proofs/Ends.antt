-- The marks values of n states: 2 is stored at the last, and 4 added at the first. Where these are one state it has 6; every other one has 0. Assumes nothing.
use mathlib.Core.Bool.{Bool, true, false, cond}
use mathlib.Core.Logic.{◌≢◌, ◌⊎◌, inl, inr}
use mathlib.Core.List.{List}
use mathlib.Core.Path.{◌≡◌, refl, ap, ◌∙◌}
use Prim.Native.Nat.{ℕ, ◌+◌, ◌-◌, ◌*◌, ◌≤◌, ◌<◌}
use native.Mathlib.Omega.{arith}
use borrow.Author.Tests.{eq-eqb, ne_eqb}
use lib.Dec.{eqb}
use lib.ListN.{length, get_or, set, replicate, length-set, length-replicate, get_or-replicate}
use lib.Seq.{get_or-set_same, get_or-set_other}
use Rattle.arrays.proofs.Lists.{same_or_not, later_none, later_set}
use Rattle.generated.specs.Generated.{marks_drawn}
use Rattle.drawing.specs.Drawing.{Marked}

abbrev zeros : List ℕ
zeros = replicate 512 0

module _ (n : ℕ) (l : 1 ≤ n) (u : n ≤ 512) where
  long : length zeros ≡ 512
  long = length-replicate {A = ℕ} 512 0

  -- the last state's stored
  abbrev last : List ℕ
  last = set zeros (n - 1) 2

  last-at : (i : ℕ) → i + 1 ≡ n → get_or last i 0 ≡ 2
  last-at i e =
      let p : n - 1 ≡ i = omega arith in
      rw p (get_or-set_same zeros i 2 0 (omega (arith, long)))

  others-at : (i : ℕ) → i < n → i + 1 ≢ n → get_or last i 0 ≡ 0
  others-at i h d = get_or-set_other zeros (n - 1) i 2 0 (λ p. d (omega arith)) ∙ get_or-replicate 512 i 0 0 (omega arith)

  -- 2 for the last, 0 for every other
  final-at : (i : ℕ) → i < n → get_or last i 0 ≡ 2 * cond (eqb (i + 1) n) 1 0
  final-at i h = go (same_or_not (i + 1) n)
    where
      go : (i + 1 ≡ n) ⊎ (i + 1 ≢ n) → get_or last i 0 ≡ 2 * cond (eqb (i + 1) n) 1 0
      go (inl e) = last-at i e ∙ rw (eq-eqb (i + 1) n e) refl
      go (inr d) = others-at i h d ∙ rw (ne_eqb (i + 1) n d) refl

  pub first_small : get_or last 0 0 ≤ 2
  first_small = go (eqb (0 + 1) n) (final-at 0 (omega arith))
    where
      go : (b : Bool) → get_or last 0 0 ≡ 2 * cond b 1 0 → get_or last 0 0 ≤ 2
      go true e = omega (arith, e)
      go false e = omega (arith, e)

  -- and 4 more for the first
  pub marked : (v : ℕ) → v ≡ get_or last 0 0 + 4 → Marked n (set last 0 v)
  marked v q =
      record {
        each = λ i h. go i h (same_or_not i 0);
        later = later_set n zeros last 0 v (omega arith) (later_set n zeros zeros (n - 1) 2 (omega arith) (later_none n zeros (omega (arith, long))));
      }
    where
      go : (i : ℕ) → i < n → (i ≡ 0) ⊎ (i ≢ 0) → get_or (set last 0 v) i 0 ≡ marks_drawn n i
      go i h (inl e) =
          let w : length last ≡ 512 = length-set zeros (n - 1) 2 ∙ long in
          rw e (get_or-set_same last 0 v 0 (omega (arith, w)) ∙ q ∙ ap (λ (x : ℕ). x + 4) (final-at 0 (omega arith)) ∙ omega arith)
      go i h (inr d) = get_or-set_other last 0 i v 0 d ∙ final-at i h ∙ rw (ne_eqb i 0 d) (omega arith)
