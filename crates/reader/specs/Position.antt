-- Where a reader stands after a take. Document 01, "The image": "with a running bit position, one after another". Assumes nothing.
use Rattle.std.specs.Prelude.{ℕ, ◌+◌}
use Rattle.reader.specs.declared.Reader.{Reader}

-- the reader with its position moved by w bits; its octets stay
abbrev pub past : Reader → ℕ → Reader
past r w = record { octets = r.octets; at = r.at + w }
