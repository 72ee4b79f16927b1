-- `answers::put_quote`: four stores one after another are the copy of the quote's four numbers (`four-set`, proofs/Puts.antt). Assumes nothing.
use Prim.Native.Nat.{ℕ}
use mathlib.Core.List.{List, [], ◌∷◌}
use mathlib.Core.Path.{ap₂, ◌∙◌}
use lib.Seq.{paste}
use Rattle.answers.proofs.Puts.{four-set}
use Rattle.answers.proofs.put_quote.Goals as goal

pub returns : goal.returns
returns c =
    let a = c.args in
    let q = a.quote in
    four-set a.out.now a.at c.kind-kind.result c.value-value.result q.k q.j c.requires.at_in_bounds
    ∙ ap₂ {C = List ℕ} (λ (x y : ℕ). paste a.out.now a.at (x ∷ y ∷ q.k ∷ q.j ∷ []) 4) c.kind-kind.ensures c.value-value.ensures
