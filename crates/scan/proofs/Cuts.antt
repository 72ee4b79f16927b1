-- Numbers that are cut off: below `many` they are as they were, and from there on they are that. So a test against a smaller number answers for the number itself.
-- Assumes nothing.
use Prim.Native.Nat.{ℕ, ◌≤◌, ◌<◌}
use mathlib.Core.Bool.{Bool, true, false}
use mathlib.Core.Path.{◌≡◌, refl, sym, ap, ◌∙◌}
use native.Mathlib.Omega.{arith}
use borrow.Author.Tests.{ltb-true, ltb-false, lt-ltb, le-ltb, le-leb, lt-leb}
use lib.Dec.{ltb, leb}
use Rattle.scan.specs.Places.{many, cut}

pub cut_below : (v : ℕ) → v < many → cut v ≡ v
cut_below v h = rw (lt-ltb v many h) refl

pub cut_above : (v : ℕ) → many ≤ v → cut v ≡ many
cut_above v h = rw (le-ltb v many h) refl

pub cut-is : (v : ℕ) → cut v < many → cut v ≡ v
cut-is v h = go (ltb v many) refl
  where
    go : (b : Bool) → ltb v many ≡ b → cut v ≡ v
    go true e = cut_below v (ltb-true v many e)
    go false e = absurd (omega (arith, h, cut_above v (ltb-false v many e)))

pub leb_cut : (v n : ℕ) → n < many → leb (cut v) n ≡ leb v n
leb_cut v n h = go (ltb v many) refl
  where
    go : (b : Bool) → ltb v many ≡ b → leb (cut v) n ≡ leb v n
    go true e = ap (λ (x : ℕ). leb x n) (cut_below v (ltb-true v many e))
    go false e =
        let k = ltb-false v many e in
        ap (λ (x : ℕ). leb x n) (cut_above v k) ∙ lt-leb many n h ∙ sym (lt-leb v n (omega arith))

-- and so does one of a smaller number against it
pub leb_not_cut : (n v : ℕ) → n ≤ many → leb n (cut v) ≡ leb n v
leb_not_cut n v h = go (ltb v many) refl
  where
    go : (b : Bool) → ltb v many ≡ b → leb n (cut v) ≡ leb n v
    go true e = ap (leb n) (cut_below v (ltb-true v many e))
    go false e =
        let k = ltb-false v many e in
        ap (leb n) (cut_above v k) ∙ le-leb n many h ∙ sym (le-leb n v (omega arith))
