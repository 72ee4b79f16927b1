-- `lent::quote`: slices too short for a plan are told so. Otherwise k and j fit their places (`small`), there are places for the answer
-- (`four-places`), and the promise of the plan's own quotation is the promise on the slices (`quote-finished`, proofs/Quotes.antt). Assumes nothing.
use mathlib.Core.Path.{sym, ◌∙◌}
use lib.Seq.{length-take-le}
use Rattle.plan.specs.View.{view}
use Rattle.slices.specs.Lent.{slices}
use Rattle.answers.proofs.Handing.{handed-le}
use Rattle.lent.proofs.Quotes.{small, four-places, quote-finished}
use Rattle.lent.proofs.quote.Goals as goal

pub slice_bounds-quote-end : goal.slice_bounds-quote-end
slice_bounds-quote-end c = handed-le _ _ _ _ c.handed-end.ensures

pub slice_bounds-quote-end-2 : goal.slice_bounds-quote-end-2
slice_bounds-quote-end-2 c = sym (length-take-le _ _ (handed-le _ _ _ _ c.handed-end.ensures))

pub one-requires : goal.one-requires
one-requires c =
    let a = c.args in
    let g = view c.load-plan.result in
    let x = c.quote-quotation.ensures in
    (small a.asked g _ _ c.quote-quotation.result x, four-places a.asked g a.walk.now a.out.now c.handed-end.result c.handed-end.ensures _ c.quote-quotation.result x)

pub returns : goal.returns
returns c =
    let a = c.args in
    quote-finished a.asked c.load-plan.result (slices a.counts.now a.states.now a.fields.now) a.walk.now _ a.out.now _ c.handed-end.result c.quote-quotation.result c.one.result
    c.handed-end.ensures (sym c.has_room.ensures ∙ c.if-not-has_room.false) c.load-plan.ensures c.quote-quotation.ensures c.one.ensures
