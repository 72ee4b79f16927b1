-- What a list is answered is 256 where it is made, and less where it is not: no refusal's number is as great. Assumes nothing.
use mathlib.Core.Bool.{Bool, true, false}
use mathlib.Core.Path.{◌≡◌, refl}
use Prim.Native.Nat.{ℕ, ◌≤◌}
use native.Mathlib.Omega.{arith}
use Rattle.rules.specs.Refusal.{Result, accepted, refused}
use Rattle.rules.proofs.Basic.{numbered}
use Rattle.calls.specs.Rows.{asked}

-- a list that is made
pub allowed : (room are : Bool) (o : Result (Unit {0})) (r : ℕ) → r ≡ asked room are o → 256 ≤ r → (room ≡ true) × (are ≡ true) × (o ≡ accepted tt)
allowed false are o r e l = absurd (omega arith)
allowed true false o r e l = absurd (omega arith)
allowed true true (refused k) r e l = absurd (omega (arith, (numbered k).0))
allowed true true (accepted tt) r e l = (refl, refl, refl)
