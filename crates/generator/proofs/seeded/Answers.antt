-- `generator::seeded`: the first i words stand in their places (proofs/Turning.antt, `Begun`), until they are 55. Assumes nothing.
use Rattle.std.proofs.Common.{ℕ, replicate, refl, arith}
use lib.ListN.{length-replicate}
use Rattle.generator.proofs.Turning.{begun_first, begun_more}
use Rattle.generator.proofs.seeded.Goals as goal

pub loop-i-init : goal.loop-i-init
loop-i-init c = (omega arith, begun_first _ (replicate 55 0) (length-replicate {A = ℕ} 55 0))

pub loop-i-preserved : goal.loop-i-preserved
loop-i-preserved c = (omega arith, begun_more _ _ _ c.loop-i.invariant.1 (omega arith) (omega arith) _ refl)
