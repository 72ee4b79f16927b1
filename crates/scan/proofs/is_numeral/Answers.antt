-- `scan::is_numeral` meets its contract, by how many digits there are (`numeral-none`, `numeral-one`, `numeral-more`). Assumes nothing.
use Prim.Native.Nat.{ℕ, ◌+◌, ◌≤◌, ◌<◌}
use mathlib.Core.Bool.{not}
use mathlib.Core.List.{List}
use mathlib.Core.Path.{◌≡◌, sym, ap, ◌∙◌}
use native.Mathlib.Omega.{arith}
use borrow.Author.Tests.{eq-eqb, le-ltb}
use lib.Dec.{eqb}
use lib.ListN.{length, drop, length-drop}
use Rattle.aldebaran.specs.Form.{front}
use Rattle.scan.proofs.Scanning.{numeral-none, numeral-one, numeral-more, front_length, front-first, first-at}
use Rattle.scan.proofs.is_numeral.Goals as goal

-- two digits at least: the first of them stands in the text
inside : (text : List ℕ) (at end : ℕ) → at < end → (end ≡ at + 1 → ⊥) → end ≡ at + length (front (drop at text)) → at ≤ length text
    → (at < length text) × (2 ≤ length (front (drop at text)))
inside text at end some several e h =
    let f = front_length (drop at text) in
    let d = length-drop at text in
    (omega arith, omega arith)

pub bounds-text-at : goal.bounds-text-at
bounds-text-at c = (inside c.args.text.now c.args.at c.args.end c.if-at-end.true c.if-end-at.false c.requires.1 c.requires.0).0

pub returns-then-end-at : goal.returns-then-end-at
returns-then-end-at c = eq-eqb _ _ c.if-end-at.true ∙ sym (numeral-one (front (drop c.args.at c.args.text.now)) (omega (arith, c.if-end-at.true, c.requires.1)))

pub returns-else-end-at : goal.returns-else-end-at
returns-else-end-at c =
    let xs = drop c.args.at c.args.text.now in
    let (b, two) = inside c.args.text.now c.args.at c.args.end c.if-at-end.true c.if-end-at.false c.requires.1 c.requires.0 in
    let first = front-first xs (omega (arith, two)) ∙ first-at c.args.text.now c.args.at b in
    sym (numeral-more (front xs) two ∙ ap (λ (x : ℕ). not (eqb x 48)) first)

pub returns-else-at-end : goal.returns-else-at-end
returns-else-at-end c = le-ltb _ _ c.if-at-end.false ∙ sym (numeral-none (front (drop c.args.at c.args.text.now)) (omega (arith, c.if-at-end.false, c.requires.1)))
