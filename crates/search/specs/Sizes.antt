-- How large the numbers of a search are, and sums over its states. Assumes nothing.
use Rattle.std.specs.Prelude.{ℕ, zero, suc, ◌+◌}

-- above every key that is known
abbrev pub far : ℕ
far = 4_000_000_000

-- the most that a transition weighs, or a close adds
abbrev pub heaviest : ℕ
heaviest = 2_100_000

-- the sum of f 0 up to f (n - 1)
unfoldable pub sum_to : ℕ → (ℕ → ℕ) → ℕ
sum_to zero f = 0
sum_to (suc n) f = sum_to n f + f n
