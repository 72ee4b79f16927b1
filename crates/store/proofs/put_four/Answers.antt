-- `store::put_four` meets its contract: the four values make one number, whose bits are those of the fields one after another; each part of it is
-- below 2^40. Stored in the octets that the fields fill, it is the fields put.
-- Assumes nothing.
use Prim.Native.Nat.{ℕ, ◌+◌, ◌*◌, ◌/◌, ◌^◌}
use mathlib.Core.Path.{◌≡◌, ap, ◌∙◌}
use native.Mathlib.Nat.{lt_of_lt_of_le}
use native.Mathlib.Omega.{arith}
use lib.Pow.{pow_mono}
use Rattle.field.specs.Field.{stored}
use Rattle.field.proofs.Windows.{two-lt, three-lt, four-lt, four, stored-four}
use Rattle.store.proofs.put_four.Goals as goal

pub beside-two-requires : goal.beside-two-requires
beside-two-requires c =
    let g = c.args in
    let h = two-lt g.a g.b g.c g.d g.fields c.requires.all_fit in
    (omega arith, lt_of_lt_of_le h (pow_mono {i = g.a + g.b} {j = 64} (omega arith)))

pub beside-three-requires : goal.beside-three-requires
beside-three-requires c =
    let g = c.args in
    let h = three-lt g.a g.b g.c g.d g.fields c.requires.all_fit in
    (omega arith, rw c.beside-two.ensures (lt_of_lt_of_le h (pow_mono {i = g.a + g.b + g.c} {j = 64} (omega arith))))

pub beside-four-requires : goal.beside-four-requires
beside-four-requires c =
    let g = c.args in
    let h = four-lt g.a g.b g.c g.d g.fields c.requires.all_fit in
    (omega arith, rw (c.beside-three.ensures, c.beside-two.ensures) (lt_of_lt_of_le h (pow_mono {i = g.a + g.b + g.c + g.d} {j = 64} (omega arith))))

pub returns : goal.returns
returns c =
    let g = c.args in
    let os = g.octets.now in
    let p = c.requires in
    let e : c.beside-four.result ≡ four g.a g.b g.c g.d g.fields p.all_fit =
    c.beside-four.ensures ∙ ap (λ (x : ℕ). x * 2 ^ g.d + g.fields.fourth) (c.beside-three.ensures ∙ ap (λ (x : ℕ). x * 2 ^ g.c + g.fields.third) c.beside-two.ensures) in
    c.store.ensures
    ∙ ap (λ (x : ℕ). stored os (g.at / 8) ((g.at + g.a + g.b + g.c + g.d) / 8) x) e
    ∙ stored-four g.a g.b g.c g.d g.fields p.all_fit os g.at (λ i. (c.slice_known-1.given i).fits) p.spans.1 p.spans.2 p.spans.0.inside
