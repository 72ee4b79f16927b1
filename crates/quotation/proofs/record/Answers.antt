-- `quotation::record`: each test is the next row of the rule; 20 bits hold every figure, so what is put is the record (proofs/Recorded.antt). Assumes nothing.
use mathlib.Core.Path.{sym, ◌∙◌}
use borrow.Author.Rules.{rules}
use borrow.Author.Tests.{lt-ltb, le-ltb}
use Rattle.plan.specs.View.{view}
use Rattle.rules.specs.declared.Refusal.TheVariants.{PlanLimits, BufferLength}
use Rattle.rules.proofs.Basic.{record_limits, record_short, record_done}
use Rattle.quotation.proofs.Recorded.{quotes_fit, put_record, record_refusal, record_acceptance}
use Rattle.quotation.proofs.record.Goals as goal

pub returns-then-not-within : goal.returns-then-not-within
returns-then-not-within c = record_refusal (view c.args.p) _ PlanLimits (record_limits (view c.args.p) _ (sym c.within.ensures ∙ c.if-not-within.true))

pub returns-then-buffer-lt11 : goal.returns-then-buffer-lt11
returns-then-buffer-lt11 c = record_refusal (view c.args.p) _ BufferLength (record_short (view c.args.p) _ (sym c.within.ensures ∙ c.if-not-within.false) (lt-ltb _ 11 c.if-buffer-lt11.true))

pub put_record-requires-clause-which_bound : goal.put_record-requires-clause-which_bound
put_record-requires-clause-which_bound c = quotes_fit (view c.args.p) _ _ _ c.show_all-quotes.ensures (sym c.within.ensures ∙ c.if-not-within.false)

pub returns : goal.returns
returns c = let w = (sym c.within.ensures ∙ c.if-not-within.false) in
    record_acceptance (view c.args.p) _ _ (record_done (view c.args.p) _ w (le-ltb _ 11 c.if-buffer-lt11.false))
    (c.put_record.ensures ∙ put_record (view c.args.p) _ _ _ c.show_all-quotes.ensures _ (search rules) c.if-buffer-lt11.false)
