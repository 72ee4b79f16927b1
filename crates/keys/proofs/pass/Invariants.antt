-- `keys::pass` meets its contract. The loop's invariant: over whatever graph the keys are, the pass is `Passing`; each turn is `pass-turn`.
-- Assumes nothing.
use Prim.Native.Nat.{ℕ}
use mathlib.Core.List.{List}
use Rattle.search.specs.Arrays.{arrays}
use Rattle.keys.specs.Keys.{Keyed, Passing}
use Rattle.keys.proofs.pass.Given as goal

abbrev pub invariant-loop-t : goal.invariant-loop-t
invariant-loop-t l = (n : ℕ) (close : List ℕ) → Keyed (arrays n l.m l.marks l.from l.to) l.weight close l.initial.key → Passing (arrays n l.m l.marks l.from l.to) l.weight close l.bound l.t l.initial.key l.lowered l.key
