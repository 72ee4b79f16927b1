-- What every writer promises. Assumes nothing.
use Rattle.std.specs.Prelude.{ℕ, ◌+◌, List, ◌++◌, ◌≡◌, length, take, drop}

-- the octets stand in the buffer from the place `at` on, every other place is as it was, and r is the place after them
pub record Put (buffer : List ℕ) (at : ℕ) (octets after : List ℕ) (r : ℕ) : Type 0 where
  pub places : after ≡ take at buffer ++ octets ++ drop (at + length octets) buffer
  pub end : r ≡ at + length octets
