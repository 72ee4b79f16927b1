-- `replay::replay`: what is answered before anything is written, less than 256, is the answer (`replay_told`). Otherwise the slices are a plan's and a list's, and no
-- row refuses it (`ok`): the fresh plan is stored, the calls are made in turn on the slices, and the plan that they then hold is quoted (proofs/Replays.antt).
-- Assumes nothing.
use mathlib.Core.Bool.{Bool, true}
use mathlib.Core.Path.{◌≡◌, refl, ap, ◌∙◌}
use Rattle.rules.specs.Refusal.{accepted}
use Rattle.calls.specs.Rows.{replay_rule, asked}
use Rattle.calls.specs.Slices.{are_calls}
use Rattle.calls.proofs.Asks.{allowed}
use Rattle.slices.specs.Lent.{slices, has_room, lent_plan}
use Rattle.slices.proofs.Stores.{has_room_lem}
use Rattle.runs.proofs.Turns.{still_roomy}
use Rattle.replay.proofs.Replays.{callable, replay_small, replay_fits, replay_made}
use Rattle.replay.proofs.replay.Goals as goal
use Rattle.replay.proofs.replay.Goals.{Else-asked-lt256}

-- what it is answered, of the slices themselves
told : (c : Else-asked-lt256) → c.ask-asked.result ≡ asked (has_room (slices c.args.counts.now c.args.states.now c.args.fields.now)) (are_calls c.args.kinds.now c.args.arguments.now c.args.octets.now) (replay_rule c.args.n c.args.kinds.now c.args.answers.now c.args.walks.now c.args.out.now)
told c =
    let a = c.args in
    c.ask-asked.ensures ∙ ap (λ (b : Bool). asked b (are_calls a.kinds.now a.arguments.now a.octets.now) (replay_rule a.n a.kinds.now a.answers.now a.walks.now a.out.now)) c.has_room-room.ensures

-- past the test it is made
ok : (c : Else-asked-lt256) → (has_room (slices c.args.counts.now c.args.states.now c.args.fields.now) ≡ true) × (are_calls c.args.kinds.now c.args.arguments.now c.args.octets.now ≡ true) × (replay_rule c.args.n c.args.kinds.now c.args.answers.now c.args.walks.now c.args.out.now ≡ accepted tt)
ok c =
    let a = c.args in
    allowed (has_room (slices a.counts.now a.states.now a.fields.now)) (are_calls a.kinds.now a.arguments.now a.octets.now) (replay_rule a.n a.kinds.now a.answers.now a.walks.now a.out.now) c.ask-asked.result (told c) c.if-asked-lt256.false

pub in_turn-requires : goal.in_turn-requires
in_turn-requires c =
    let a = c.args in (
      callable a.n a.kinds.now a.arguments.now a.octets.now a.answers.now (slices a.counts.now a.states.now a.fields.now) a.walks.now a.out.now (ok (goal.at.in_turn-requires c).Else-asked-lt256).0 (ok (goal.at.in_turn-requires c).Else-asked-lt256).1 (ok (goal.at.in_turn-requires c).Else-asked-lt256).2,
      still_roomy a.counts.now a.states.now a.fields.now _ _ _ (has_room_lem a.counts.now a.states.now a.fields.now (ok (goal.at.in_turn-requires c).Else-asked-lt256).0) c.begin.auto.counts c.begin.auto.states c.begin.auto.fields,
    )

pub quoted-quotations-requires : goal.quoted-quotations-requires
quoted-quotations-requires c =
    let a = c.args in
    still_roomy a.counts.now a.states.now a.fields.now _ _ _ (has_room_lem a.counts.now a.states.now a.fields.now (ok (goal.at.quoted-quotations-requires c).Else-asked-lt256).0) (c.in_turn.auto.counts ∙ c.begin.auto.counts) (c.in_turn.auto.states ∙ c.begin.auto.states) (c.in_turn.auto.fields ∙ c.begin.auto.fields)

pub four-requires : goal.four-requires
four-requires c =
    let a = c.args in (
      replay_small a.n a.kinds.now a.arguments.now a.octets.now a.answers.now (slices a.counts.now a.states.now a.fields.now) a.walks.now a.out.now (ok (goal.at.four-requires c).Else-asked-lt256).0 (ok (goal.at.four-requires c).Else-asked-lt256).1 (ok (goal.at.four-requires c).Else-asked-lt256).2
          c.begin.ensures.0 c.begin.ensures.1 _ c.begin.ensures.2 _ _ c.in_turn.ensures (lent_plan c.in_turn.new.counts c.in_turn.new.states c.in_turn.new.fields) refl _ c.quoted-quotations.result c.quoted-quotations.ensures,
      replay_fits a.n a.kinds.now a.arguments.now a.octets.now a.answers.now (slices a.counts.now a.states.now a.fields.now) a.walks.now a.out.now (ok (goal.at.four-requires c).Else-asked-lt256).0 (ok (goal.at.four-requires c).Else-asked-lt256).1 (ok (goal.at.four-requires c).Else-asked-lt256).2 c.quoted-quotations.result,
    )

pub returns : goal.returns
returns c =
    let a = c.args in
    replay_made a.n a.kinds.now a.arguments.now a.octets.now a.answers.now (slices a.counts.now a.states.now a.fields.now) a.walks.now a.out.now (ok (goal.at.returns c).Else-asked-lt256).0 (ok (goal.at.returns c).Else-asked-lt256).1 (ok (goal.at.returns c).Else-asked-lt256).2
    c.begin.ensures.0 c.begin.ensures.1 _ c.begin.ensures.2 _ _ c.in_turn.ensures (lent_plan c.in_turn.new.counts c.in_turn.new.states c.in_turn.new.fields) refl _ c.quoted-quotations.result _ c.four.result c.quoted-quotations.ensures c.four.ensures
