-- `print`: the buffer is never too short (conversion's `text-enough`), and the text that was put lies within it (`text-within`). Assumes nothing.
use Rattle.std.proofs.Common.{ℕ, arith}
use Rattle.std.proofs.Math.ListN.{length-replicate}
use Rattle.conversion.proofs.Rooms.{text-within, text-enough}
use Rattle.export.proofs.print.Goals as goal

pub written-requires-clause-within : goal.written-requires-clause-within
written-requires-clause-within c = text-within c.args.image.now _ _ c.to_text-result.result c.to_text-result.ensures

pub written-requires-clause-room : goal.written-requires-clause-room
written-requires-clause-room c = text-enough c.args.image.now _ _ c.to_text-result.result (omega (arith, length-replicate {A = ℕ} 51221 0)) c.to_text-result.ensures
