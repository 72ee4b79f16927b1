-- `put_field::put` meets its contract: the octets from at / 8 up to end hold the field. Their number with the field's part made value is below
-- 2^40, so no shift and no sum loses a bit, and stored in those octets it makes the octets with the field.
-- Assumes nothing.
use Prim.Native.Nat.{ℕ, ◌+◌, ◌-◌, ◌*◌, ◌/◌, ◌%◌, ◌^◌, ◌≤◌, ◌<◌}
use mathlib.Core.Path.{◌≡◌, ap, ◌∙◌}
use native.Mathlib.Nat.{lt_of_lt_of_le}
use native.Mathlib.Omega.{arith}
use Rattle.std.proofs.Common.{rules}
use lib.Bits.{bit_and}
use lib.Pow.{pow_mono}
use lib.ListN.{length}
use lib.Seq.{slice}
use mathlib.Core.List.{List}
use Rattle.field.specs.Field.{Within, number, bits, stored}
use Rattle.field.proofs.Windows.{masked, window_lt, with_part, part-lt, shifted_lt, part-exact, stored-with_field}
use Rattle.put_field.proofs.put.Goals as goal

-- the machine's number is the window with the part made v
machine : (n w a v : ℕ) → n < 2 ^ 40 → with_part n w a v < 2 ^ 40 → a < 64
    → ((n / 2 ^ a / 2 ^ w * 2 ^ w) % 2 ^ 64 + v) * 2 ^ a % 2 ^ 64 + bit_and n ((1 * 2 ^ a) % 2 ^ 64 - 1) ≡ with_part n w a v
machine n w a v hn hp ha = ap (λ (k : ℕ). ((n / 2 ^ a / 2 ^ w * 2 ^ w) % 2 ^ 64 + v) * 2 ^ a % 2 ^ 64 + k) (masked n a ha) ∙ part-exact n w a v hn hp

abbrev end_of : ℕ → ℕ → ℕ
end_of at w = (at + w + 7) / 8

-- what is known once the window is: its number, and that the number with the field's part made value is below 2^40
record Known (n : ℕ) (os : List ℕ) (at w v : ℕ) : Type 0 where
  is : n ≡ number (bits (slice (at / 8) (end_of at w) os))
  small : n < 2 ^ 40
  part : with_part n w (8 * end_of at w - (at + w)) v < 2 ^ 40

known : (n : ℕ) (os : List ℕ) (at w v : ℕ) → Within os at w → v < 2 ^ w → n ≡ number (bits (slice (at / 8) (end_of at w) os)) → Known n os at w v
known n os at w v h hv e =
    let some : 0 < w = h.some in
    let most : w ≤ 32 = h.most in
    let inside : at + w ≤ 8 * length os = h.inside in
    let five : end_of at w ≤ at / 8 + 5 = omega arith in
    let room : end_of at w ≤ length os = omega arith in
    record {
      is = e;
      small = rw e (window_lt os (at / 8) (end_of at w) 5 room five);
      part =
          rw e (lt_of_lt_of_le (part-lt os at w v (at / 8) (end_of at w) (omega arith) (omega arith) room hv)
          (pow_mono {i = 8 * (end_of at w - at / 8)} {j = 40} (omega arith)));
    }

pub overflow_add-before : goal.overflow_add-before
overflow_add-before c =
    let a = c.args in
    let k = known c.window-whole.result a.octets.now a.at a.width a.value c.requires.within c.requires.value_bound c.window-whole.ensures in
    let h = shifted_lt c.window-whole.result a.width (8 * end_of a.at a.width - (a.at + a.width)) a.value k.small k.part in
    omega (arith, h)

pub overflow_add-before-2 : goal.overflow_add-before-2
overflow_add-before-2 c =
    let a = c.args in
    let k = known c.window-whole.result a.octets.now a.at a.width a.value c.requires.within c.requires.value_bound c.window-whole.ensures in
    let e = machine c.window-whole.result a.width (8 * end_of a.at a.width - (a.at + a.width)) a.value k.small k.part (omega arith) in
    rw (c.from.ensures, e) (omega (arith, k.part))

pub returns : goal.returns
returns c =
    let a = c.args in
    let k = known c.window-whole.result a.octets.now a.at a.width a.value c.requires.within c.requires.value_bound c.window-whole.ensures in
    let after : ℕ = 8 * end_of a.at a.width - (a.at + a.width) in
    (rw c.from.ensures at c.store.ensures)
    ∙ ap (λ (n : ℕ). stored a.octets.now (a.at / 8) (end_of a.at a.width) n)
    (machine c.window-whole.result a.width after a.value k.small k.part (omega arith)
    ∙ ap (λ (n : ℕ). with_part n a.width after a.value) k.is)
    ∙ stored-with_field a.octets.now a.at a.width a.value (a.at / 8) (end_of a.at a.width) (omega arith) (omega arith) (omega arith) c.requires.value_bound
    (search rules)
