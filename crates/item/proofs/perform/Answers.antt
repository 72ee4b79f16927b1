-- `item::perform`: kind by kind, the promise of the edit on the slices is the call's. A kind past 2 that was let in is a read or an import, and its part lies
-- within the octets (`a_part`), or a team (`a_team`). Assumes nothing.
use mathlib.Core.Path.{◌≡◌}
use native.Mathlib.Omega.{arith}
use lib.ListN.{length}
use Rattle.item.proofs.Parts.{a_team}
use Rattle.item.proofs.perform.Goals as goal

pub returns-in_default : goal.returns-in_default
returns-in_default c =
    let a = c.args in
    let e : a.kind ≡ 5 = a_team a.kind a.a a.b (length a.octets.now) c.requires (omega arith) in
    rw e c.team.ensures
