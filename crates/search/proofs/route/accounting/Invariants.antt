-- `search::route::accounting` meets its contract. The invariant: of whatever arrays the chains are, the chain of s is followed as far as t, and no transition before it
-- accounts for the value. One does, so the chain does not end without it. The measure is what is left of the numbers of transitions. Assumes nothing.
use Prim.Native.Nat.{◌-◌}
use Rattle.search.specs.Arrays.{Arrays}
use Rattle.search.specs.Chain.{Chains}
use Rattle.search.specs.Route.{Accounts}
use Rattle.search.proofs.Chained.{Followed}
use Rattle.search.proofs.route.accounting.Given as goal

abbrev pub invariant-loop-t : goal.invariant-loop-t
invariant-loop-t l = (A : Arrays) → Chains A.from A.m l.out.head l.out.link → Followed A.from A.m (λ k. Accounts l.to l.weight l.value l.s k → ⊥) l.s l.t

abbrev pub decreases-loop-t : goal.decreases-loop-t
decreases-loop-t l = 2048 - l.t
