-- `edits::from_image` meets its contract: what the plan's own call promises of no plan, on the slices.
-- Assumes nothing.
use mathlib.Core.Path.{sym, ◌∙◌}
use Rattle.plan.specs.View.{no_plan}
use Rattle.rules.specs.Image.{read_image}
use Rattle.slices.specs.Lent.{slices}
use Rattle.edits.proofs.Edits.{finished}
use Rattle.edits.proofs.from_image.Goals as goal

pub returns : goal.returns
returns c =
    let a = c.args in
    finished no_plan (slices a.counts.now a.states.now a.fields.now) _ (read_image a.octets.now) c.held.result c.finish.result (sym c.has_room.ensures ∙ c.if-not-has_room.false) c.held.ensures c.finish.ensures
