-- `print`: the buffer is never too short (conversion's `seed-enough`), and the image that was put lies within it (`seed-within`). Assumes nothing.
use Rattle.std.proofs.Common.{ℕ, arith}
use Rattle.std.proofs.Math.ListN.{length-replicate}
use Rattle.conversion.proofs.Rooms.{seed-within, seed-enough}
use Rattle.generate.proofs.print.Goals as goal

pub written-requires-clause-within : goal.written-requires-clause-within
written-requires-clause-within c = seed-within c.args.seed c.args.states c.args.transitions _ _ c.of_seed-result.result c.of_seed-result.ensures

pub written-requires-clause-room : goal.written-requires-clause-room
written-requires-clause-room c = seed-enough c.args.seed c.args.states c.args.transitions _ _ c.of_seed-result.result (omega (arith, length-replicate {A = ℕ} 10756 0)) c.of_seed-result.ensures
