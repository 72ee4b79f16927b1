-- `put_text::width` meets its contract. The loop's invariant: the digits of rest and those counted are x's, the last one of rest counted already. Assumes nothing.
use Prim.Native.Nat.{◌+◌}
use mathlib.Core.Path.{◌≡◌}
use lib.ListN.{length}
use Rattle.text.specs.Text.{digits}
use Rattle.put_text.proofs.width.Given as goal

abbrev pub invariant-loop-rest : goal.invariant-loop-rest
invariant-loop-rest l = length (digits l.rest) + l.count ≡ length (digits l.x) + 1

abbrev pub decreases-loop-rest : goal.decreases-loop-rest
decreases-loop-rest l = l.rest
