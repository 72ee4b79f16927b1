-- The four figures of a plan whose transitions lead to its states: what is computed is each figure, and there is no other. Both are said of the
-- least and of the greatest one over any cost (Least.antt, Greatest.antt); here they are said of the index. Assumes nothing.
use Rattle.graph.specs.declared.Which.{Which}
use Rattle.graph.specs.declared.Which.TheVariants.{LeastDelay, GreatestDelay, LeastCount, GreatestCount}
use Rattle.graph.specs.Compute.{figure_for}
use Rattle.graph.specs.Figure.{IsFigure, cost_for}
use Rattle.graph.specs.Graph.{Graph, Closed}
use Rattle.graph.proofs.Greatest.{greatest-is}
use Rattle.graph.proofs.Least.{least-is}

pub figure-is : (which : Which) (g : Graph) → Closed g → IsFigure which g (figure_for which g)
unfolding figure_for
figure-is LeastDelay g ok = least-is g (cost_for LeastDelay g) ok
figure-is GreatestDelay g ok = greatest-is g (cost_for GreatestDelay g) ok
figure-is LeastCount g ok = least-is g (cost_for LeastCount g) ok
figure-is GreatestCount g ok = greatest-is g (cost_for GreatestCount g) ok

-- what holds of each of the four holds of every one
pub each_of : (P : Which → Type 0) → P LeastDelay → P GreatestDelay → P LeastCount → P GreatestCount → (which : Which) → P which
each_of P a b c d LeastDelay = a
each_of P a b c d GreatestDelay = b
each_of P a b c d LeastCount = c
each_of P a b c d GreatestCount = d
