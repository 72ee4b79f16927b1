-- The figures by their places in the record's order, "least delay, greatest delay, least count, greatest count in turn". Assumes nothing.
use Rattle.std.specs.Prelude.{ℕ, zero, suc}
use Rattle.graph.specs.declared.Which.{Which}
use Rattle.graph.specs.declared.Which.TheVariants.{LeastDelay, GreatestDelay, LeastCount, GreatestCount}

-- the figure at a place; the last one past them
abbrev pub figure_at : ℕ → Which
figure_at zero = LeastDelay
figure_at (suc zero) = GreatestDelay
figure_at (suc (suc zero)) = LeastCount
figure_at (suc (suc (suc i))) = GreatestCount
