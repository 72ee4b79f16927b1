-- `costs::fill_highs`: the first t weights are filled. Assumes nothing.
use Prim.Native.Nat.{ℕ}
use mathlib.Core.Path.{sym, ap, ◌∙◌, subst}
use borrow.Author.Rules.{rules}
use lib.ListN.{length, length-replicate}
use Rattle.costs.specs.Arrays.{Filled}
use Rattle.costs.proofs.Filled.{filled_none}
use Rattle.costs.proofs.fill_highs.Goals as goal

pub loop-t-init : goal.loop-t-init
loop-t-init c = (search rules, ap length c.requires.1 ∙ length-replicate {A = ℕ} 2048 0, subst (Filled 0 _) (sym c.requires.1) (filled_none _ 2048))
