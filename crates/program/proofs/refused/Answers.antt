-- `refused`: the line of a refusal has at most 19 octets, so it has room, and what was put lies within the buffer. Assumes nothing.
use native.Mathlib.Omega.{arith}
use Rattle.wording.proofs.Lengths.{refused_room}
use Rattle.program.proofs.refused.Goals as goal

pub refused-length-requires : goal.refused-length-requires
refused-length-requires c = omega (arith, refused_room c.number.result (omega (arith, c.number.type_inv)))
