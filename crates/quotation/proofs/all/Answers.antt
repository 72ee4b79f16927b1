-- `quotation::all`: what is asked of the limits and the places is asked of the plan; a refusal leaves the places, and an accepted one shows the figures
-- (proofs/Kept.antt). Assumes nothing.
use mathlib.Core.Path.{◌≡◌, sym, ap, ◌∙◌}
use Rattle.std.proofs.lemmas.Result.{err_from_is_err_and}
use Rattle.plan.specs.View.{view}
use Rattle.rules.specs.Quotations.{all_rule}
use Rattle.rules.specs.Refusal.{said}
use Rattle.quotation.proofs.Kept.{all-refusal, all-acceptance}
use Rattle.quotation.proofs.all.Goals as goal

pub returns-in_err-ask_all : goal.returns-in_err-ask_all
unfolding all_rule
returns-in_err-ask_all c =
    let answered : said c.ask_all.result ≡ all_rule (view c.args.p) c.args.walks.now =
    rw (sym c.within-limited.ensures) c.ask_all.ensures in
    let p = err_from_is_err_and c.from_residual.result c.from_residual.ensures.1 in
    rw (p.1, p.2) (all-refusal (view c.args.p) _ _ (sym answered ∙ ap said c.in_err-ask_all.was))

pub returns : goal.returns
unfolding all_rule
returns c =
    let answered : said c.ask_all.result ≡ all_rule (view c.args.p) c.args.walks.now =
    rw (sym c.within-limited.ensures) c.ask_all.ensures in
    let e = sym answered ∙ ap said c.in_ok-ask_all.was in
    all-acceptance (view c.args.p) _ _ _ e c.show_all.ensures
