-- `search::chain::chains` meets its contract. The invariant: the transitions at or above i are chained (`Chaining`), and each turn chains one more (`chain-turn`).
-- Assumes nothing.
use Prim.Native.Nat.{ℕ, suc, ◌-◌, ◌<◌}
use mathlib.Core.Path.{◌≡◌, refl, ◌∙◌}
use native.Mathlib.Omega.{arith}
use lib.ListN.{length-set, get_or-replicate}
use Rattle.search.proofs.Chained.{chaining_none, chain-turn}
use Rattle.search.proofs.chain.chains.Goals as goal

pub loop-i-init : goal.loop-i-init
loop-i-init c = (refl, refl, chaining_none _ _ c.requires.0 _ _ (λ s l. get_or-replicate 512 s 2048 0 l))

pub loop-i-preserved : goal.loop-i-preserved
loop-i-preserved c =
    let a = c.args in
    let l = c.loop-i in
    let i : ℕ = l.i - 1 in
    let k = c.from-s.ensures in
    let p : suc i ≡ l.i = omega arith in
    let b : c.from-s.result < 512 = omega (arith, k, c.requires.1 i (omega arith)) in
    let q = chain-turn a.keys.now a.m (omega arith) i l.head l.link (omega arith) (omega (arith, b)) (omega arith) (omega arith) (rw p l.invariant.2) in
    (length-set l.head _ _ ∙ l.invariant.0, length-set l.link _ _ ∙ l.invariant.1, rw k q)
