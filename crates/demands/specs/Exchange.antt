-- Plans from other exchanges, document 02, E1: what import and export make of plans and texts. The request's words stand above the field that carries them. That every text is accepted or
-- refused by exactly the number that the order gives is `by_number`, `only_grounds` and `otherwise` of demand 1, over the rows of import and export. Assumes nothing.
use Rattle.std.specs.Prelude.{true, List, [], ◌++◌, ◌≡◌, ℕ, ◌≤◌, length, take, drop}
use Rattle.aldebaran.specs.Form.{on}
use Rattle.aldebaran.specs.Text.{Holding, read_text, text_of}
use Rattle.rules.specs.Answer.{Accepted, Written}
use Rattle.std.specs.Prelude.{Ok}
use Rattle.rules.specs.Aldebaran.{plan_of, starts, export_text, stripped}
use Rattle.rules.specs.Calls.{import}
use Rattle.rules.specs.Limits.{within}
use Rattle.plan.specs.declared.Edited.{Edited}
use Rattle.arrays.specs.declared.Plan.{Plan}
use Rattle.plan.specs.View.{view}
use Rattle.demands.specs.Calculator.{Calculator}

pub record Exchanges (c : Calculator) : Type 0 where
  -- "Export fills the lent buffer as write does, and refuses a plan without exactly one start": the text of a plan with one start at the front, its length returned, later octets as they were
  pub exported_text : {p : Plan} {before after : List ℕ} (n : ℕ) → c.exports p before after (Ok n)
      → (length (starts (view p)) ≡ 1) × (length (export_text (view p)) ≡ n) × (after ≡ export_text (view p) ++ drop n before)
  -- "Import marks only the initial state, as start", "with all teams zero" (E4): the plan of what the text holds, and the text is the only one that holds it
  pub imported-plan : {old : Plan} {text : List ℕ} {e : Edited} → c.edits old (import text) e → e.answer ≡ Accepted
      → (h : Holding) × (read_text text ≡ on h []) × (text_of h ≡ text) × (view e.plan ≡ plan_of h)
  -- "Exported text imports as the plan stripped of its final and counted marks."; (E4) "so exported text comes back without its teams too"
  pub imports-back : {p old : Plan} {before after : List ℕ} {e : Edited} (n : ℕ) → within (view old) ≡ true → c.exports p before after (Ok n)
      → c.edits old (import (take n after)) e → (e.answer ≡ Accepted) × (view e.plan ≡ stripped (view p))
  -- and the other way, which the form gives: an imported text exports as those octets
  pub exports-back : {old : Plan} {text before after : List ℕ} {e : Edited} {w : Written} → c.edits old (import text) e → e.answer ≡ Accepted
      → length text ≤ length before → c.exports e.plan before after w → (w ≡ Ok (length text)) × (after ≡ text ++ drop (length text) before)
  -- so an accepted text and its plan determine each other
  pub one-text : {old old' : Plan} {text text' : List ℕ} {e e' : Edited} → c.edits old (import text) e → c.edits old' (import text') e'
      → e.answer ≡ Accepted → e'.answer ≡ Accepted → view e.plan ≡ view e'.plan → text ≡ text'
  pub one-plan : {old old' : Plan} {text : List ℕ} {e e' : Edited} → c.edits old (import text) e → c.edits old' (import text) e'
      → e.answer ≡ Accepted → e'.answer ≡ Accepted → view e.plan ≡ view e'.plan
