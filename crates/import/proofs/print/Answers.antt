-- `print`: the buffer is never too short (conversion's `image-enough`), and the image that was put lies within it (`image-within`). Assumes nothing.
use Rattle.std.proofs.Common.{ℕ, arith}
use Rattle.std.proofs.Math.ListN.{length-replicate}
use Rattle.conversion.proofs.Rooms.{image-within, image-enough}
use Rattle.import.proofs.print.Goals as goal

pub written-requires-clause-within : goal.written-requires-clause-within
written-requires-clause-within c = image-within c.args.text.now _ _ c.to_image-result.result c.to_image-result.ensures

pub written-requires-clause-room : goal.written-requires-clause-room
written-requires-clause-room c = image-enough c.args.text.now _ _ c.to_image-result.result (omega (arith, length-replicate {A = ℕ} 10756 0)) c.to_image-result.ensures
