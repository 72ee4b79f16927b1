-- `slices::states_of` meets its contract. The invariant: the places up to i are the slice's from at on.
-- Assumes nothing.
use Prim.Native.Nat.{ℕ}
use mathlib.Core.List.{List}
use mathlib.Core.Path.{◌≡◌, refl, sym, ap, ap₂, ◌∙◌}
use native.Mathlib.Omega.{arith}
use lib.ListN.{drop, set, replicate, length-set, length-drop}
use lib.Seq.{paste, get_or-drop}
use Rattle.slices.proofs.Copied.{copy_more, copy_all}
use Rattle.slices.proofs.states_of.Goals as goal

pub loop-i-preserved : goal.loop-i-preserved
loop-i-preserved c =
    let l = c.loop-i in
    let a = c.args in
    let s = drop a.at a.places.now in (
      omega arith,
      length-set l.out l.i _ ∙ l.invariant.1,
      ap₂ (λ (o : List ℕ) (x : ℕ). set o l.i x) l.invariant.2 (sym (get_or-drop a.at a.places.now l.i 0))
          ∙ copy_more _ s l.i (omega arith) (omega (arith, length-drop a.at a.places.now)),
    )

pub returns : goal.returns
returns c =
    let l = c.loop-i in
    let a = c.args in
    let e : l.i ≡ 512 = omega arith in
    l.invariant.2 ∙ ap (λ (k : ℕ). paste (replicate 512 0) 0 (drop a.at a.places.now) k) e ∙ copy_all (replicate 512 0) (drop a.at a.places.now) 512 refl
