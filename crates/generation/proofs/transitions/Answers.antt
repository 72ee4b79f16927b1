-- `generation::transitions`: after i turns the first i transitions are drawn (proofs/Drawn.antt, `Kept`). Assumes nothing.
use native.Mathlib.Omega.{arith}
use Rattle.generation.proofs.Drawn.{kept_more}
use Rattle.generation.proofs.transitions.Goals as goal

pub loop-i-preserved : goal.loop-i-preserved
loop-i-preserved c = (omega arith, kept_more _ _ _ _ _ _ _ _ _ c.loop-i.invariant.1 c.add.ensures (omega (arith, c.loop-i-test)) c.requires.2)
