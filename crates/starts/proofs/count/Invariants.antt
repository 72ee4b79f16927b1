-- `starts::count`. The loop's invariant: what is known of the starts among the states passed. Assumes nothing.
use Rattle.starts.specs.Found.{starts_in, Found}
use Rattle.starts.proofs.count.Given as goal

abbrev pub invariant-loop-i : goal.invariant-loop-i
invariant-loop-i l = Found (starts_in l.p.marks l.i) l.i l.count l.last
