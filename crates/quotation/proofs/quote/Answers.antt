-- `quotation::quote`: what was asked decides; a refusal leaves the places, and an accepted one shows the figure (proofs/Kept.antt). Assumes nothing.
use mathlib.Core.Path.{refl, sym, ap, ◌∙◌}
use native.Mathlib.Omega.{arith}
use Rattle.plan.specs.View.{view}
use Rattle.plan.specs.Laws.{states-view}
use Rattle.rules.specs.Refusal.{said}
use Rattle.quotation.proofs.Kept.{accepted-within, room}
use Rattle.quotation.proofs.quote.Goals as goal

pub show-requires : goal.show-requires
show-requires c = let p = c.args.p in
    let e = sym (c.ask.ensures _ refl) ∙ ap said c.in_ok-ask.was in
    (accepted-within c.args.asked (view p) c.args.walk.now e, omega (arith, states-view p, room c.args.asked (view p) c.args.walk.now e))
