-- How long four lines can be. Assumes nothing.
use Rattle.std.specs.Prelude.{ℕ}

-- the octets that four lines can need
abbrev pub room : ℕ
room = 12438
