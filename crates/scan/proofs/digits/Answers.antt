-- `scan::digits` meets its contract. The invariant: the digits taken, with those at the front of what is left, are all that stand at the place (`Scanned`). The measure is what is
-- left of the text. Assumes nothing.
use mathlib.Core.Path.{refl, sym, ◌∙◌}
use native.Mathlib.Numerals.{add-one}
use Rattle.scan.proofs.Scanning.{ascii-digit, scanned_none, scanned_more, no_more, at-end, scanned_all}
use Rattle.scan.proofs.digits.Goals as goal

pub loop-i-init : goal.loop-i-init
loop-i-init c = scanned_none c.requires

pub more-value-requires : goal.more-value-requires
more-value-requires c = sym (ascii-digit _) ∙ sym c.is_ascii_digit.ensures.value ∙ c.if-is_ascii_digit.true

pub loop-i-preserved : goal.loop-i-preserved
loop-i-preserved c =
    rw (add-one, c.more-value.ensures)
    (scanned_more _ c.loop-i-test.true refl (sym (ascii-digit _) ∙ sym c.is_ascii_digit.ensures.value ∙ c.if-is_ascii_digit.true) c.loop-i.invariant)

pub returns-after-loop-i : goal.returns-after-loop-i
returns-after-loop-i c =
    let (end, number) = scanned_all (at-end c.args.text.now c.loop-i.i c.loop-i-test.false) c.loop-i.invariant in
    record { end = end; inside = c.loop-i.invariant.inside; number = number }

pub returns-else-is_ascii_digit : goal.returns-else-is_ascii_digit
returns-else-is_ascii_digit c =
    let stop = no_more c.args.text.now c.loop-i.i c.loop-i-test.true (sym (ascii-digit _) ∙ sym c.is_ascii_digit.ensures.value ∙ c.if-is_ascii_digit.false) in
    let (end, number) = scanned_all stop c.loop-i.invariant in
    record { end = end; inside = c.loop-i.invariant.inside; number = number }
