-- `window::take_four` meets its contract: the octets from at / 8 up to end hold the four fields, so each is a part of their number.
-- Assumes nothing.
use Prim.Native.Nat.{◌+◌, ◌/◌, ◌*◌, ◌-◌}
use mathlib.Core.Path.{◌≡◌, ◌∙◌}
use native.Mathlib.Omega.{arith}
use Rattle.field.specs.Field.{field_at}
use Rattle.field.proofs.Windows.{part_in_window}
use Rattle.window.proofs.take_four.Goals as goal

pub returns : goal.returns
returns c =
    let g = c.args in
    let os = g.octets.now in
    let n = c.window-whole.result in
    let w = c.window-whole.ensures in
    let stop = g.at + g.a + g.b + g.c + g.d in
    let end = (stop + 7) / 8 in
    let after = 8 * end - stop in
    let p1 : c.part.result ≡ field_at os g.at g.a =
    c.part.ensures ∙ part_in_window os g.at g.a (g.at / 8) end (after + g.d + g.c + g.b) n (omega arith) (omega arith) (omega arith) w in
    let p2 : c.part-2.result ≡ field_at os (g.at + g.a) g.b =
    c.part-2.ensures ∙ part_in_window os (g.at + g.a) g.b (g.at / 8) end (after + g.d + g.c) n (omega arith) (omega arith) (omega arith) w in
    let p3 : c.part-3.result ≡ field_at os (g.at + g.a + g.b) g.c =
    c.part-3.ensures ∙ part_in_window os (g.at + g.a + g.b) g.c (g.at / 8) end (after + g.d) n (omega arith) (omega arith) (omega arith) w in
    let p4 : c.part-4.result ≡ field_at os (g.at + g.a + g.b + g.c) g.d =
    c.part-4.ensures ∙ part_in_window os (g.at + g.a + g.b + g.c) g.d (g.at / 8) end after n (omega arith) (omega arith) (omega arith) w in
    λ i. record { first = p1 i; second = p2 i; third = p3 i; fourth = p4 i }
