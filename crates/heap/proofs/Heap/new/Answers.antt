-- `heap::Heap::new` meets its contract: its arrays hold zeros. Assumes nothing.
use mathlib.Core.Path.{refl}
use native.Mathlib.Omega.{arith}
use Rattle.search.proofs.Places.{zeros}
use Rattle.heap.proofs.Heap.new.Goals as goal

pub invariant_of-result : goal.invariant_of-result
invariant_of-result c = record { states = λ i. rw (zeros 512 i) (omega arith); places = λ i. rw (zeros 512 i) (omega arith); fits = omega arith }

pub returns : goal.returns
returns c = (refl, λ i. rw (zeros 512 i) (omega arith))
