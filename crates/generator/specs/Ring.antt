-- The ring that the code keeps: the last 55 words, and what a draw makes of them. Assumes nothing.
use Rattle.std.specs.Prelude.{◌≡◌, ℕ, ◌+◌, ◌*◌, ◌%◌, ◌<◌, ◌≤◌, List, length, slice_index, slice_set}
use Rattle.generator.specs.declared.Draws.{Draws}
use Rattle.generator.specs.Words.{plus, word, draw}

-- the ring of seed s after k draws: words k to k + 54, word i in place i modulo 55
pub record Ring (s k : ℕ) (ring : List ℕ) : Type 0 where
  pub long : length ring ≡ 55
  pub holds : (i : ℕ) → k ≤ i → i < k + 55 → slice_index ring (i % 55) ≡ word s i

-- what a draw makes of a ring, at the place of the oldest word: "the word 24 back plus the word 55 back". The new word takes the place of the one 55 back, and the one 24 back stands 31 places on
abbrev pub next : ℕ → List ℕ → ℕ
next at ring = plus (slice_index ring ((at + 31) % 55)) (slice_index ring at)

-- a draw: that word, the ring with it in place of the oldest, and as long as it was
pub record Drawn (at : ℕ) (before after : List ℕ) (r : ℕ) : Type 0 where
  pub word-is : r ≡ next at before
  pub ring-is : after ≡ slice_set before at r
  pub long : length after ≡ length before

-- the four draws of transition i: "A transition takes four draws"
abbrev pub four_drawn : ℕ → ℕ → Draws
four_drawn s i = record { first = draw s (4 * i); second = draw s (4 * i + 1); third = draw s (4 * i + 2); fourth = draw s (4 * i + 3) }

-- they are taken from the ring, of whatever seed it is
abbrev pub DrawsFour : ℕ → List ℕ → List ℕ → Draws → Type 0
DrawsFour i before after r = (s : ℕ) → Ring s (4 * i) before → (r ≡ four_drawn s i) × Ring s (4 * (i + 1)) after
