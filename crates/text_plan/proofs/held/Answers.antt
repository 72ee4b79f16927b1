-- `text_plan::held`: beside a refusal stands what a refused fresh gives; else the text was accepted over a fresh plan (proofs/Made.antt). Assumes nothing.
use Rattle.std.proofs.Common.{◌≡◌, refl}
use Rattle.rules.specs.Answer.{Accepted, Answer}
use Rattle.std.proofs.Common.{Ok, Err}
use Rattle.rules.specs.declared.Refusal.{Refusal}
use Rattle.text_plan.proofs.Made.{accepts, refuses}
use Rattle.text_plan.proofs.held.Goals as goal

-- an answer that is no refusal
accepted_else : (a : Answer) → ((r : Refusal) → a ≡ Err r → ⊥) → a ≡ Accepted
accepted_else (Ok _) h = refl
accepted_else (Err r) h = absurd (h r refl)

pub returns-in-Err : goal.returns-in-Err
returns-in-Err c =
    refuses c.args.text.now c.fresh-fresh.result c.fresh-fresh.ensures c.replace-imported.result c.replace-imported.ensures c.in-Err.field-0 c.in-Err.is
    c.fresh-none.result c.fresh-none.ensures

pub returns : goal.returns
returns c =
    accepts c.args.text.now c.fresh-fresh.result c.fresh-fresh.ensures c.replace-imported.result c.replace-imported.ensures
    (accepted_else c.replace-imported.result.answer c.in_default.not-Err)
