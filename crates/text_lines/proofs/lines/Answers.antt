-- `text_lines::lines`: `Kept` is the invariant (proofs/Listing.antt). A line off the form ends the loop, and all of it is off; otherwise there is one line more, until there are m.
-- Assumes nothing.
use native.Mathlib.Omega.{arith}
use Rattle.arrays.specs.Tables.{fields}
use Rattle.text_lines.proofs.Listing.{kept-none, kept_off, kept_more, kept-all}
use Rattle.text_lines.proofs.lines.Goals as goal

pub loop-i-init : goal.loop-i-init
loop-i-init c =
    let a = c.args in
    (omega arith, kept-none a.text.now a.at a.n a.m a.first (fields a.from.now a.to.now a.low.now a.high.now) c.requires.0 c.requires.2)

pub loop-i-preserved : goal.loop-i-preserved
loop-i-preserved c =
    let a = c.args in
    let l = c.loop-i in (
      omega arith,
      kept_more a.text.now a.at a.n a.m a.first l.answer l.next l.i (fields l.from l.to l.low l.high) l.invariant.1 c.in_ok-line.line
          c.in_ok-line.ensures c.requires.1 (omega arith) c.add-answer.result _ c.add-answer.ensures,
    )

pub returns : goal.returns
returns c =
    let a = c.args in
    let l = c.loop-i in
    let k = l.invariant.1 in
    (kept-all a.text.now a.at a.n a.m a.first l.answer l.next l.i (fields l.from l.to l.low l.high) k (omega (arith, l.invariant.0, c.loop-i-test)), k.room)

pub returns-in_err-line : goal.returns-in_err-line
returns-in_err-line c =
    let a = c.args in
    let l = c.loop-i in
    let k = l.invariant.1 in
    rw c.from_residual.ensures (kept_off a.text.now a.at a.n a.m a.first l.answer l.next l.i (fields l.from l.to l.low l.high) k (omega arith) c.in_err-line.ensures, k.room)
