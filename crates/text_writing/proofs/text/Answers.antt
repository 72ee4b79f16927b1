-- `text_writing::text`: the first line is put and then the others, each with room because the whole has. Assumes nothing.
use Prim.Native.Nat.{ℕ, ◌+◌}
use mathlib.Core.Path.{◌≡◌}
use native.Mathlib.Omega.{arith}
use lib.ListN.{length}
use Rattle.graph.specs.Graph.{Transition}
use Rattle.rules.specs.Image.{tabulate}
use Rattle.aldebaran.specs.Text.{lines_text, text_of}
use Rattle.arrays.specs.Tables.{transition_of}
use Rattle.text.proofs.Puts.{put-length, put_then}
use Rattle.text_length.specs.Parts.{first_text, holding}
use Rattle.text_length.proofs.Sums.{text-is, text-sum}
use Rattle.text_writing.proofs.text.Goals as goal
use Rattle.text_writing.proofs.text.Goals.{Start}

-- the transition at each place of the arrays, and the length of the text
abbrev passing : Start → ℕ → Transition
passing c = transition_of c.args.p.now.from c.args.p.now.to c.args.p.now.low c.args.p.now.high

sum : (c : Start) → length (text_of (holding c.args.initial c.args.p.now.states (tabulate c.args.p.now.transitions (passing c))))
    ≡ length (first_text c.args.initial c.args.p.now.transitions c.args.p.now.states) + length (lines_text (tabulate c.args.p.now.transitions (passing c)))
sum c = text-sum (passing c) c.args.initial c.args.p.now.states c.args.p.now.transitions

pub first-place-requires : goal.first-place-requires
first-place-requires c = omega (arith, sum (goal.at.first-place-requires c).Start, c.requires.room)

pub lines-requires-clause-room : goal.lines-requires-clause-room
lines-requires-clause-room c = omega (arith, sum (goal.at.lines-requires-clause-room c).Start, c.requires.room, c.first-place.ensures, put-length c.first-place.ensures (omega (arith, sum (goal.at.lines-requires-clause-room c).Start, c.requires.room)))

pub returns : goal.returns
returns c = rw (text-is (passing (goal.at.returns c).Start) c.args.initial c.args.p.now.states c.args.p.now.transitions) (put_then c.first-place.ensures (omega arith) c.lines.ensures)
