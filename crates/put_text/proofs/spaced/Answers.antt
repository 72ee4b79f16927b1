-- `put_text::spaced` meets its contract: a space and then the digits. Assumes nothing.
use native.Mathlib.Omega.{arith}
use Rattle.text.proofs.Puts.{put_room, put_then}
use Rattle.text.proofs.Listed.{spaced-length}
use Rattle.text.specs.Text.{digits, spaced}
use Rattle.put_text.proofs.spaced.Goals as goal

pub word-first-requires : goal.word-first-requires
word-first-requires c = omega (arith, spaced-length c.args.x, c.requires)

pub number-requires : goal.number-requires
unfolding spaced
number-requires c =
    let a = c.args in
    put_room c.word-first.ensures (digits a.x) c.requires

pub returns : goal.returns
unfolding spaced
returns c =
    let start = c.before.before.before.before.before.before.before.before.before.before.before in
    put_then c.word-first.ensures (omega (arith, start.requires)) c.number.ensures
