-- `store::store` meets its contract. Five octets are those of `store_five`. The loop's invariant: the octets up to i are those of the number, and the
-- later ones are as they were.
-- Assumes nothing.
use Prim.Native.Nat.{ℕ, ◌-◌, ◌^◌, ◌*◌, ◌/◌, ◌%◌}
use mathlib.Core.List.{List}
use mathlib.Core.Path.{◌≡◌, ap, ◌∙◌}
use native.Mathlib.Omega.{arith}
use lib.ListN.{set, length-set}
use lib.Seq.{paste}
use Rattle.field.specs.Field.{stored}
use Rattle.field.proofs.Windows.{digits, stored_more}
use Rattle.store.proofs.store.Goals as goal

pub loop-i-preserved : goal.loop-i-preserved
loop-i-preserved c =
    let a = c.args in
    let l = c.loop-i in (
      omega arith,
      omega arith,
      length-set l.octets l.i _ ∙ l.invariant.2,
      ap (λ (o : List ℕ). set o l.i (a.value / 2 ^ (8 * (a.end - 1 - l.i)) % 256)) l.invariant.3
          ∙ stored_more a.octets.now a.first a.end a.value l.i (omega arith) (omega arith) (omega arith),
    )

pub returns : goal.returns
unfolding stored
returns c =
    let a = c.args in
    let l = c.loop-i in
    let e : l.i - a.first ≡ a.end - a.first = omega arith in
    l.invariant.3 ∙ ap (λ (k : ℕ). paste a.octets.now a.first (digits a.first a.end a.value) k) e
