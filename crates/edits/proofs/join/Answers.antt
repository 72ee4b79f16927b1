-- `edits::join`: slices too short are told so. Otherwise the plan value that they hold is edited and its answer stored, so that the
-- promise of the plan's own call is the promise on the slices (`turned`, proofs/Edits.antt). Assumes nothing.
use mathlib.Core.Bool.{true}
use mathlib.Core.Path.{◌≡◌, sym, ◌∙◌}
use Rattle.rules.specs.Calls.{join}
use Rattle.arrays.specs.Tables.{transition}
use Rattle.slices.specs.Lent.{slices, has_room}
use Rattle.slices.proofs.Stores.{has_room_lem}
use Rattle.edits.proofs.Edits.{turned, same_later}
use Rattle.edits.proofs.join.Goals as goal
use Rattle.edits.proofs.join.Goals.{Else-not-has_room}

-- past the test the slices have room
room : (c : Else-not-has_room) → has_room (slices c.args.counts.now c.args.states.now c.args.fields.now) ≡ true
room c = sym c.has_room.ensures ∙ c.if-not-has_room.false

pub update-requires : goal.update-requires
update-requires c = let a = c.args in (has_room_lem _ _ _ (room (goal.at.update-requires c).Else-not-has_room), same_later (join (transition a.from a.to a.low a.high)) c.load-plan.result (slices a.counts.now a.states.now a.fields.now) c.join-edited.result c.load-plan.ensures c.join-edited.ensures)

pub returns : goal.returns
returns c =
    let a = c.args in
    turned (join (transition a.from a.to a.low a.high)) c.load-plan.result (slices a.counts.now a.states.now a.fields.now) _ c.join-edited.result c.update.result
    (room (goal.at.returns c).Else-not-has_room) c.load-plan.ensures c.join-edited.ensures c.update.ensures
