-- `generator::seeded`: the first i words stand in their places (proofs/Turning.antt, `Begun`), until they are 55. Assumes nothing.
use Rattle.std.proofs.Common.{◌≤◌}
use Rattle.generator.proofs.Turning.{Begun}
use Rattle.generator.proofs.seeded.Given as goal

abbrev pub invariant-loop-i : goal.invariant-loop-i
invariant-loop-i l = (1 ≤ l.i) × Begun l.seed l.i l.ring
