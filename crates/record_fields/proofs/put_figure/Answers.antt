-- `record_fields::put_figure` meets its contract: two fields put one after the other. Assumes nothing.
use Prim.Native.Nat.{ℕ, ◌+◌}
use mathlib.Core.List.{List}
use mathlib.Core.Path.{ap, ◌∙◌}
use Rattle.field.specs.Field.{with_field, put_all}
use Rattle.record_fields.proofs.put_figure.Goals as goal

pub returns : goal.returns
unfolding put_all
returns c =
    let a = c.args in
    rw (← c.kind-kind.ensures, ← c.from.ensures, ← c.value-number.ensures)
    (c.put-2.ensures ∙ ap (λ (b : List ℕ). with_field b (a.at + 2) 20 c.value-number.result) c.put.ensures)
