-- `line::added`: ENDLESS alone adds anything, two puts in a row. Assumes nothing.
use mathlib.Core.Logic.{⊎_elim}
use native.Mathlib.Omega.{arith}
use Rattle.wording.specs.Lines.{added_text}
use Rattle.text.specs.Text.{octets, digits}
use Rattle.text.proofs.Puts.{put-none, put_room, put_then}
use Rattle.line.proofs.added.Goals as goal

pub word-place-requires : goal.word-place-requires
unfolding octets added_text
word-place-requires c =
    let room = rw c.in-Endless.is at c.requires in
    omega arith

pub number-requires : goal.number-requires
unfolding octets added_text
number-requires c =
    let room = rw c.in-Endless.is at c.requires in
    put_room c.word-place.ensures (digits c.args.j) room

pub returns-in-Number : goal.returns-in-Number
unfolding octets added_text
returns-in-Number c =
    let nothing = put-none c.args.buffer.now c.args.at in
    ⊎_elim (λ number. rw number.1 nothing) (λ other. ⊎_elim (λ none. rw none nothing) (λ stranded. rw stranded nothing) other) c.in-Number.is

pub returns-in-Endless : goal.returns-in-Endless
unfolding octets added_text
returns-in-Endless c =
    let room = rw c.in-Endless.is at c.requires in
    rw c.in-Endless.is (put_then c.word-place.ensures (omega arith) c.number.ensures)
