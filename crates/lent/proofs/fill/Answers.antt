-- `lent::fill`: slices too short are told so. Otherwise the octets' number fits the answer (`few`, proofs/Fills.antt), and the promise of the plan's own
-- call is the promise on the slices (`filled`). Assumes nothing.
use mathlib.Core.Bool.{true}
use mathlib.Core.Path.{◌≡◌, sym, ap, ◌∙◌}
use native.Mathlib.Omega.{arith}
use Rattle.rules.specs.Answer.{Written}
use Rattle.rules.specs.Refusal.{wrote}
use Rattle.plan.specs.View.{view}
use Rattle.slices.specs.Lent.{slices, has_room}
use Rattle.lent.specs.Written.{length_code}
use Rattle.lent.proofs.Fills.{few, filled}
use Rattle.lent.proofs.fill.Goals as goal
use Rattle.lent.proofs.fill.Goals.{Else-not-has_room}

-- past the test the slices have room
room : (c : Else-not-has_room) → has_room (slices c.args.counts.now c.args.states.now c.args.fields.now) ≡ true
room c = sym c.has_room.ensures ∙ c.if-not-has_room.false

pub overflow_cast-result : goal.overflow_cast-result
overflow_cast-result c = omega (arith, few c.args.content (view c.load.result) c.args.buffer.now c.in-Ok.n (ap wrote (sym c.in-Ok.is) ∙ c.put-written.ensures.answer))

pub overflow_add-result : goal.overflow_add-result
overflow_add-result c = omega (arith, few c.args.content (view c.load.result) c.args.buffer.now c.in-Ok.n (ap wrote (sym c.in-Ok.is) ∙ c.put-written.ensures.answer))

pub returns-in-Ok : goal.returns-in-Ok
returns-in-Ok c =
    let a = c.args in
    filled a.content c.load.result (slices a.counts.now a.states.now a.fields.now) a.buffer.now _ c.put-written.result _ (room (goal.at.returns-in-Ok c).Else-not-has_room) c.load.ensures c.put-written.ensures
    (ap (λ (w : Written). length_code (wrote w)) (sym c.in-Ok.is))

pub returns-in-Err : goal.returns-in-Err
returns-in-Err c =
    let a = c.args in
    filled a.content c.load.result (slices a.counts.now a.states.now a.fields.now) a.buffer.now _ c.put-written.result _ (room (goal.at.returns-in-Err c).Else-not-has_room) c.load.ensures c.put-written.ensures
    (c.number.ensures ∙ ap (λ (w : Written). length_code (wrote w)) (sym c.in-Err.is))
