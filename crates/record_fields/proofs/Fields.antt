-- Figures put one after another are all their fields put at once (`put_four`), and a kind has room in its 2 bits. Assumes nothing.
use mathlib.Core.List.{List, ◌++◌}
use mathlib.Core.Path.{◌≡◌, sym, ap, ◌∙◌}
use Prim.Native.Nat.{ℕ, ◌<◌}
use native.Mathlib.Omega.{arith}
use Rattle.field.specs.Field.{Field, width_of_all, put_all}
use Rattle.field.proofs.Pack.{put_all-append}
use Rattle.graph.specs.Figure.{Figure, number, NONE, STRANDED, ENDLESS, kind}
use Rattle.rules.specs.Quotations.{figure_fields}

-- figures put one after another are all their fields put at once
pub put_four : (a b c d : Figure) (os : List ℕ)
    → put_all (put_all (put_all (put_all os 0 (figure_fields a)) 22 (figure_fields b)) 44 (figure_fields c)) 66 (figure_fields d)
    ≡ put_all os 0 (figure_fields a ++ figure_fields b ++ figure_fields c ++ figure_fields d)
unfolding width_of_all
put_four a b c d os =
    let A : List Field = figure_fields a in
    let B : List Field = figure_fields b in
    let C : List Field = figure_fields c in
    let D : List Field = figure_fields d in
    ap (λ (x : List ℕ). put_all (put_all x 44 C) 66 D) (sym (put_all-append A B os 0))
    ∙ ap (λ (x : List ℕ). put_all x 66 D) (sym (put_all-append (A ++ B) C os 0))
    ∙ sym (put_all-append (A ++ B ++ C) D os 0)

-- a kind is one of 2 bits
pub kind-below : (f : Figure) → kind f < 4
kind-below (number k) = omega arith
kind-below NONE = omega arith
kind-below STRANDED = omega arith
kind-below ENDLESS = omega arith
