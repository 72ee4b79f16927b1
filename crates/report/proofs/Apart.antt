-- Where no state is both start and final, the walks of document 02's E5 are those that the procedures go by: of the first state the same is asked as of the
-- later ones.
--
-- A start is unfinished. So a route from it is a walk through unfinished states to a final one, and has a transition since its first state is not final; and so
-- it is with a walk to a dead end (graph's `as_it_was`) and with an endless one. The other theorems use `apart` by these alone. Assumes nothing.
use Prim.Native.Nat.{ℕ, zero, suc}
use mathlib.Core.Path.{sym, ◌∙◌}
use mathlib.Core.Bool.{true≢false}
use mathlib.Core.List.{List}
use mathlib.Core.Logic.{◌↔◌}
use Rattle.graph.specs.Graph.{Graph, Final, Unfinished, NoneDeparts, DeadEnd}
use Rattle.graph.specs.Walk.{Begins, FromStart, reached, EndlessFrom, EndlessWalk}
use Rattle.graph.specs.Route.{RouteFrom, Route, StrandedFrom, StrandedWalk}
use Rattle.graph.proofs.Endless.{endless-begun, at-departs, at-unfinished}
use Rattle.graph.proofs.Sentences.{as_it_was}
use Rattle.report.specs.Agreement.{TotalPlan}

module _ (g : Graph) (q : TotalPlan g) (s : ℕ) (b : Begins g s) where
  pub route-apart : (ts : List ℕ) → Route g s ts ↔ FromStart g (RouteFrom g) s ts
  route-apart = as_it_was g (λ x. ⊥) (Final g) (λ x u. (λ n. absurd n, λ f. true≢false (sym f ∙ u))) s (q.apart s b)

  pub stranded-apart : (ts : List ℕ) → StrandedWalk g s ts ↔ FromStart g (StrandedFrom g) s ts
  stranded-apart =
      as_it_was g (NoneDeparts g) (DeadEnd g) (λ x u. (λ n. record { unfinished = u; none-departs = n }, λ d. d.none-departs)) s (q.apart s b)

  pub endless-apart : (taken : ℕ → ℕ) → EndlessWalk g s taken ↔ FromStart g (EndlessFrom g) s taken
  endless-apart taken = (λ (b, e). (b, record { departs = at-departs g s taken e; unfinished = unfinished taken (b, e) }), λ (b, e). endless-begun g s taken b e)
    where
      unfinished : (taken : ℕ → ℕ) → EndlessWalk g s taken → (i : ℕ) → Unfinished g (reached g s taken i)
      unfinished taken e zero = q.apart s b
      unfinished taken e (suc i) = at-unfinished g s taken e.1 i
