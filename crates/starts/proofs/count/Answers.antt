-- `starts::count`. The loop's invariant: what is known of the starts among the states passed. Assumes nothing.
use mathlib.Core.Path.{sym, ◌∙◌}
use native.Mathlib.Numerals.{add-one}
use Rattle.starts.proofs.Turns.{found_none, found_more, found_same}
use Rattle.starts.proofs.count.Goals as goal
use Rattle.starts.proofs.count.Goals.{then-is_start, else-is_start}

pub loop-i-init : goal.loop-i-init
loop-i-init c = found_none c.args.p.now.marks

pub loop-i-preserved : goal.loop-i-preserved
loop-i-preserved c =
    let l = c.loop-i in
    let e = sym c.is_start.ensures in
    rw (add-one l.i)
    (elim c.if-is_start.branch [
      | then-is_start w ↦ rw (w.count-is, w.last-is) (found_more c.args.p.now.marks l.i l.count l.last l.invariant (e ∙ w.if-is_start.true))
      | else-is_start w ↦ rw (w.count-is, w.last-is) (found_same c.args.p.now.marks l.i l.count l.last l.invariant (e ∙ w.if-is_start.false))
    ])
