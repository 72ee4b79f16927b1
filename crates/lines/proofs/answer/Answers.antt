-- `lines::answer`: a short buffer is refused, a refused image gets its number, and any other its four lines (proofs/Prints.antt). Assumes nothing.
use native.Mathlib.Nat.{le_refl}
use native.Mathlib.Omega.{arith}
use Rattle.rules.proofs.Kept.{held-within-limits}
use Rattle.quotation.proofs.Recorded.{quotes_fit}
use Rattle.rules.proofs.Small.{four_small}
use Rattle.wording.proofs.Lengths.{refused_room}
use Rattle.lines.proofs.Prints.{prints-figures, prints-refusal}
use Rattle.lines.proofs.answer.Goals as goal

pub four-requires-clause-which_bound : goal.four-requires-clause-which_bound
four-requires-clause-which_bound c =
    let held = c.held-held in
    let e = c.in-Ok.is in
    let x = held.ensures.0 in
    let w = held-within-limits c.args.octets.now _ _ held.result.quotations x _ e in
    (four_small _ w _ _ _ (x.quoted _ e), λ which. omega (arith, quotes_fit _ _ _ _ (x.quoted _ e) w which))

pub refused-requires : goal.refused-requires
refused-requires c = omega (arith, refused_room c.number.result (omega (arith, c.number.type_inv)), c.if-buffer-lt-ROOM.false)

pub returns-in-Ok : goal.returns-in-Ok
returns-in-Ok c =
    let held = c.held-held in
    prints-figures c.args.octets.now _ _ held.result.quotations (le_refl 2048) held.ensures.0 c.if-buffer-lt-ROOM.false _ c.in-Ok.is c.four.ensures

pub returns-in-Err : goal.returns-in-Err
returns-in-Err c =
    let held = c.held-held in
    prints-refusal c.args.octets.now _ _ held.result.quotations (le_refl 2048) held.ensures.0 c.if-buffer-lt-ROOM.false c.in-Err.r c.number.result c.number.ensures c.in-Err.is c.refused.ensures
