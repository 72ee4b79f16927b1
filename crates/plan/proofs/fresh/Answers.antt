-- `plan::fresh` meets its contract: a refusal hands back the plan value with no states, and an accepted plan stands for the rule's.
-- Assumes nothing.
use Prim.Native.Nat.{◌≤◌}
use mathlib.Core.Bool.{true, false}
use mathlib.Core.Path.{◌≡◌, refl, sym, ◌∙◌}
use borrow.Author.Tests.{leb-true}
use lib.Dec.{leb}
use Rattle.rules.specs.declared.Refusal.TheVariants.{StateCount}
use Rattle.rules.specs.Limits.{state_count_ok}
use Rattle.rules.specs.Rules.{fresh_rule, fresh_graph}
use Rattle.rules.proofs.Results.{and_true}
use Rattle.plan.specs.View.{blank_plan, no_plan}
use Rattle.plan.proofs.Edits.{refusal, acceptance, view-blank, past-blank}
use Rattle.plan.proofs.fresh.Goals as goal

pub returns-then-not-state_count_ok : goal.returns-then-not-state_count_ok
unfolding fresh_rule
returns-then-not-state_count_ok c =
    let n = c.args.n in
    let s : state_count_ok n ≡ false = sym c.state_count_ok.ensures ∙ c.if-not-state_count_ok.true in
    rw c.refuse.ensures
    (rw c.blank.ensures (refusal no_plan (fresh_rule n) StateCount 0 0 (rw s) refl))

pub returns : goal.returns
unfolding fresh_rule
returns c =
    let n = c.args.n in
    let s : state_count_ok n ≡ true = sym c.state_count_ok.ensures ∙ c.if-not-state_count_ok.false in
    let h : n ≤ 512 = leb-true n 512 (and_true (leb 1 n) (leb n 512) s).1 in
    rw c.accept.ensures
    (rw c.blank-2.ensures (acceptance no_plan (blank_plan n) (fresh_rule n) (fresh_graph n) 0 0 (rw s) (view-blank n h) (past-blank n h) refl))
