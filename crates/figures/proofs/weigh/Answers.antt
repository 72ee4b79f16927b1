-- `figures::weigh`: each arm's weights and closes are its figure's (proofs/Weighed.antt). Assumes nothing.
use mathlib.Core.Path.{sym, ◌∙◌}
use native.Mathlib.Nat.{le_refl}
use native.Mathlib.Omega.{arith}
use Rattle.costs.specs.Scaled.{scale}
use Rattle.graph.specs.Class.{counting}
use Rattle.arrays.specs.declared.Plan.{Plan}
use Rattle.plan.specs.View.{view}
use Rattle.search.specs.Weights.{weights_of}
use Rattle.figures.proofs.Held.{bounded_in, lows-most, from_small}
use Rattle.figures.proofs.Weighed.{lows_weigh, highs_weigh, closes_light, asked_weigh}
use Rattle.figures.proofs.weigh.Goals as goal

pub fill_lows-requires : goal.fill_lows-requires
fill_lows-requires c = let w = c.requires.limits in
    let p : Plan = c.args.p.now in
    ((bounded_in p w).count, le_refl scale, le_refl 1, lows-most p w, c.requires.weight_value.0)

pub fill_highs-requires : goal.fill_highs-requires
fill_highs-requires c = let w = c.requires.limits in
    let p : Plan = c.args.p.now in
    ((bounded_in p w).count, c.requires.weight_value.0)

pub fill_closes-requires : goal.fill_closes-requires
fill_closes-requires c = let w = c.requires.limits in
    let p : Plan = c.args.p.now in
    ((bounded_in p w).states, c.requires.weight_value.1)

pub fill_leaving-requires : goal.fill_leaving-requires
fill_leaving-requires c = let w = c.requires.limits in
    let p : Plan = c.args.p.now in
    let light = closes_light p w scale 1 (le_refl scale) (le_refl 1) (weights_of c.args.weight.now _) c.args.asked c.fill_closes.ensures in
    ((bounded_in p w).count, le_refl 1, light, from_small p w, c.requires.weight_value.0)

pub fill_closes-requires-in-GreatestCount : goal.fill_closes-requires-in-GreatestCount
fill_closes-requires-in-GreatestCount c = let w = c.requires.limits in
    let p : Plan = c.args.p.now in
    ((bounded_in p w).states, c.requires.weight_value.1)

pub fill_leaving-requires-in-GreatestCount : goal.fill_leaving-requires-in-GreatestCount
fill_leaving-requires-in-GreatestCount c = let w = c.requires.limits in
    let p : Plan = c.args.p.now in
    let light = closes_light p w 1 0 (omega arith) (omega arith) (weights_of c.args.weight.now _) c.args.asked c.fill_closes-in-GreatestCount.ensures in
    ((bounded_in p w).count, omega arith, light, from_small p w, c.requires.weight_value.0)

pub returns-in-LeastDelay : goal.returns-in-LeastDelay
returns-in-LeastDelay c = let w = c.requires.limits in
    let p : Plan = c.args.p.now in
    rw (sym c.figure_of.ensures ∙ c.in-LeastDelay.is) (lows_weigh p w _ (c.fill_lows.ensures, c.requires.weight_value.1) (counting c.args.asked (view p)))

pub returns-in-GreatestDelay : goal.returns-in-GreatestDelay
returns-in-GreatestDelay c = let w = c.requires.limits in
    let p : Plan = c.args.p.now in
    rw (sym c.figure_of.ensures ∙ c.in-GreatestDelay.is) (highs_weigh p w _ (c.fill_highs.ensures, c.requires.weight_value.1) (counting c.args.asked (view p)))

pub returns-in-LeastCount : goal.returns-in-LeastCount
returns-in-LeastCount c = let w = c.requires.limits in
    let p : Plan = c.args.p.now in
    rw (sym c.figure_of.ensures ∙ c.in-LeastCount.is)
    (asked_weigh p w scale 1 (le_refl scale) (le_refl 1) _ c.args.asked c.fill_closes.ensures c.fill_leaving.ensures)

pub returns-in-GreatestCount : goal.returns-in-GreatestCount
returns-in-GreatestCount c = let w = c.requires.limits in
    let p : Plan = c.args.p.now in
    rw (sym c.figure_of.ensures ∙ c.in-GreatestCount.is)
    (asked_weigh p w 1 0 (omega arith) (omega arith) _ c.args.asked c.fill_closes-in-GreatestCount.ensures c.fill_leaving-in-GreatestCount.ensures)
