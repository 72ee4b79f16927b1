-- The answer's places decide what a quotation is handed. Assumes nothing.
use Rattle.std.specs.Prelude.{◌≡◌, ℕ, ◌≤◌, ◌<◌}

-- how many of the places lent for walks it is handed: all of them, or none where the answer's are fewer than are needed, so that its own row for the
-- places refuses it
pub record Handed (walks out needed r : ℕ) : Type 0 where
  pub none : out < needed → r ≡ 0
  pub whole : needed ≤ out → r ≡ walks
