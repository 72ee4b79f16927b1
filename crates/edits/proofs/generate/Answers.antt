-- `edits::generate` meets its contract: what the plan's own call promises, on the slices.
-- Assumes nothing.
use mathlib.Core.Path.{sym, ◌∙◌}
use Rattle.plan.specs.View.{no_plan}
use Rattle.generated.specs.Generated.{generate_rule}
use Rattle.slices.specs.Lent.{slices}
use Rattle.edits.proofs.Edits.{finished}
use Rattle.edits.proofs.generate.Goals as goal

pub returns : goal.returns
returns c =
    let a = c.args in
    finished no_plan (slices a.counts.now a.states.now a.fields.now) _ (generate_rule a.seed a.n a.m) c.generate.result c.finish.result (sym c.has_room.ensures ∙ c.if-not-has_room.false) c.generate.ensures c.finish.ensures
