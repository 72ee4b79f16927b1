-- `text_writing::lines`. The loop's invariant: the lines of the transitions passed are put. Assumes nothing.
use Prim.Native.Nat.{ℕ, suc}
use mathlib.Core.List.{◌++◌}
use mathlib.Core.Path.{◌≡◌, refl, ap}
use native.Mathlib.Omega.{arith}
use native.Mathlib.Numerals.{add-one}
use borrow.Author.Rules.{rules}
use lib.ListN.{length}
use Rattle.graph.specs.Graph.{Transition}
use Rattle.aldebaran.specs.Text.{line_text, lines_text}
use Rattle.arrays.specs.Tables.{transition_of}
use Rattle.rules.specs.Image.{tabulate}
use Rattle.text.proofs.Puts.{put-none, put_room, put_then}
use Rattle.text_length.proofs.Sums.{lines_none, lines_more}
use Rattle.text_writing.proofs.InRow.{lines-front}
use Rattle.text_writing.proofs.lines.Goals as goal
use Rattle.text_writing.proofs.lines.Goals.{Start}

-- the transition at each place of the arrays
abbrev passing : Start → ℕ → Transition
passing c = transition_of c.args.p.now.from c.args.p.now.to c.args.p.now.low c.args.p.now.high

pub loop-i-init : goal.loop-i-init
loop-i-init c = (omega arith, refl, rw (lines_none (passing (goal.at.loop-i-init c).Start)) (put-none c.args.buffer.now c.args.at))

pub line-place-requires : goal.line-place-requires
line-place-requires c =
    let l = c.loop-i in
    let f = passing (goal.at.line-place-requires c).Start in
    let more : lines_text (tabulate (suc l.i) f) ≡ lines_text (tabulate l.i f) ++ line_text (f l.i) = lines_more f l.i in
    put_room l.invariant.2 (line_text (f l.i)) (omega (arith, ap length more, lines-front f (suc l.i) c.args.p.now.transitions (omega arith), c.requires.room))

pub loop-i-preserved : goal.loop-i-preserved
loop-i-preserved c =
    let l = c.loop-i in
    let f = passing (goal.at.loop-i-preserved c).Start in
    let room = lines-front f l.i c.args.p.now.transitions (omega arith) in
    (omega arith, search rules, rw (add-one, lines_more f l.i) (put_then l.invariant.2 (omega (arith, c.requires.room)) c.line-place.ensures))
