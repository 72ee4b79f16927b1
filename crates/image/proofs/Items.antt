-- The four fields that a reader takes are those of the item at its place: a state's, and a transition's. Assumes nothing.
use mathlib.Core.List.{List}
use mathlib.Core.Path.{◌≡◌, ap, ◌∙◌}
use Prim.Native.Nat.{ℕ, ◌+◌}
use native.Mathlib.Omega.{arith}
use Rattle.field.specs.Field.{field_at, four_at}
use Rattle.field.specs.declared.Four.{Four}
use Rattle.rules.specs.Image.{transition_at}
use Rattle.arrays.specs.Tables.{transition}
use Rattle.arrays.proofs.Lists.{same-transition}

-- the fields of a state at a place
pub record Bits (os : List ℕ) (at : ℕ) (f : Four) : Type 0 where
  pub start : f.first ≡ field_at os at 1
  pub final : f.second ≡ field_at os (at + 1) 1
  pub counted : f.third ≡ field_at os (at + 2) 1
  pub five : f.fourth ≡ field_at os (at + 3) 5

pub state-fields : (os : List ℕ) (at place : ℕ) (f : Four) → at ≡ place → f ≡ four_at os at 1 1 1 5 → Bits os place f
state-fields os at place f h e =
    let two : at + 1 + 1 ≡ place + 2 = omega arith in
    let three : at + 1 + 1 + 1 ≡ place + 3 = omega arith in
    record {
      start = ap (λ (g : Four). g.first) e ∙ ap (λ (k : ℕ). field_at os k 1) h;
      final = ap (λ (g : Four). g.second) e ∙ ap (λ (k : ℕ). field_at os (k + 1) 1) h;
      counted = ap (λ (g : Four). g.third) e ∙ ap (λ (k : ℕ). field_at os k 1) two;
      five = ap (λ (g : Four). g.fourth) e ∙ ap (λ (k : ℕ). field_at os k 5) three;
    }

pub transition-fields : (os : List ℕ) (at : ℕ) (f : Four) → f ≡ four_at os at 9 9 11 11
    → transition f.first f.second f.third f.fourth ≡ transition_at os at
transition-fields os at f e =
    let low : at + 9 + 9 ≡ at + 18 = omega arith in
    let high : at + 9 + 9 + 11 ≡ at + 29 = omega arith in
    same-transition (ap (λ (g : Four). g.first) e) (ap (λ (g : Four). g.second) e) (ap (λ (g : Four). g.third) e ∙ ap (λ (k : ℕ). field_at os k 11) low)
    (ap (λ (g : Four). g.fourth) e ∙ ap (λ (k : ℕ). field_at os k 11) high)
