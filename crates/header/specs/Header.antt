-- What reading the header of an image promises. Document 01, "The image": "with a running bit position, one after another", and the order of read's
-- refusals. Assumes nothing.
use Rattle.std.specs.Prelude.{List, ◌≡◌, ℕ, ◌+◌, Result, IfOk}
use Rattle.rules.specs.declared.Refusal.{Refusal}
use Rattle.rules.specs.Image.{version_of, state_count_of, transition_count_of, state_place, header_rows}
use Rattle.rules.specs.Refusal.{made}
use Rattle.rules.specs.Table.{first}
use Rattle.taken.specs.Taken.{past_header}
use Rattle.header.specs.declared.Heading.{Heading}

-- "version, 4 bits ..; state count, 10 bits; transition count, 12 bits; pad, 6 bits": the position after them, and the count of the bits taken, as it was and with
-- theirs
pub record HeaderRead (os : List ℕ) (at taken taken' : ℕ) (r : Result Heading Refusal) : Type 0 where
  pub answer : made r (λ h. tt) ≡ first (header_rows os)
  pub version : IfOk r (λ h. h.version ≡ version_of os)
  pub states : IfOk r (λ h. h.states ≡ state_count_of os)
  pub transitions : IfOk r (λ h. h.transitions ≡ transition_count_of os)
  pub all : IfOk r (λ h. at ≡ state_place 0)
  pub bits : taken' ≡ taken + past_header os
