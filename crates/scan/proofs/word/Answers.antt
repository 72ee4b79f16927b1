-- `scan::word` meets its contract: the word is read where the text begins with it there (Scanning). Assumes nothing.
use Prim.Native.Nat.{ℕ, ◌-◌}
use mathlib.Core.Bool.{Bool, true, false}
use mathlib.Core.List.{List}
use mathlib.Core.Path.{◌≡◌, sym, ap, ◌∙◌}
use native.Mathlib.Omega.{arith}
use borrow.Author.Rules.{rules}
use lib.Dec.{eqb}
use lib.ListN.{length, take, drop, length-drop}
use Rattle.std.proofs.lemmas.Slice.{between_to_end}
use Rattle.std.proofs.lemmas.List.{take_all}
use Rattle.std.specs.List.{starts_with}
use Rattle.scan.proofs.Scanning.{word-there, word_begun, word_other}
use Rattle.scan.proofs.word.Goals as goal

-- what was tested is what is left of the text at the place, by the whole word
rest : (text w tested : List ℕ) (at : ℕ) (r b : Bool) → tested ≡ w → r ≡ starts_with eqb (take (length text - at) (drop at text)) tested → r ≡ b → starts_with eqb (drop at text) w ≡ b
rest text w tested at r b whole e f =
    let e' : r ≡ starts_with eqb (take (length text - at) (drop at text)) w = rw whole at e in
    ap (λ (xs : List ℕ). starts_with eqb xs w) (sym (between_to_end text at (length text) (omega arith))) ∙ sym e' ∙ f

pub returns-then-not-starts_with : goal.returns-then-not-starts_with
returns-then-not-starts_with c =
    word_other c.args.word.now (drop c.args.at c.args.text.now) (rest c.args.text.now c.args.word.now _ c.args.at _ false (search (rules, arith, take_all)) c.starts_with.ensures.value c.if-not-starts_with.true)

pub returns : goal.returns
returns c =
    let text = c.args.text.now in
    let at = c.args.at in
    let (fits, read) = word_begun c.args.word.now (drop at text) (rest text c.args.word.now _ at _ true (search (rules, arith, take_all)) c.starts_with.ensures.value c.if-not-starts_with.false) in
    word-there text at c.args.word.now (omega (arith, fits, length-drop at text, c.requires)) read
