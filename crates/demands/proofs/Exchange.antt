-- What import and export make of plans and texts, of whatever keeps the promises: each field is what the promises give (plan's `export-then-import`, `import-then-export`), since the
-- rules of texts say so (rules/proofs/ImportExport.antt). Then the impostor: an import that marks nothing. Assumes nothing.
use mathlib.Core.List.{List, [], ◌∷◌}
use mathlib.Core.Path.{◌≡◌, sym, ap, ◌∙◌}
use Prim.Native.Nat.{ℕ}
use native.Mathlib.Omega.{arith}
use Rattle.text.specs.Text.{octets, value_after, value}
use Rattle.graph.specs.Graph.{Graph, state}
use Rattle.graph.specs.Known.{plan}
use Rattle.aldebaran.specs.Form.{on, and_then, read_word, is_digit, front, is_numeral, read_number, read_form}
use Rattle.aldebaran.specs.Text.{Holding, first_form, line_form, read_lines, whole, read_text, text_of}
use Rattle.aldebaran.proofs.Numbers.{on-got}
use Rattle.aldebaran.proofs.RoundTrips.{text-read}
use Rattle.rules.specs.Answer.{Accepted}
use Rattle.rules.specs.Aldebaran.{plan_of, export_text, export_rule, import_text}
use Rattle.rules.specs.Calls.{import}
use Rattle.rules.specs.Refusal.{accepted}
use Rattle.rules.specs.Rules.{written}
use Rattle.rules.proofs.ImportExport.{Imported, imported, import_unique}
use Rattle.plan.specs.declared.Edited.{Edited}
use Rattle.arrays.specs.declared.Plan.{Plan}
use Rattle.plan.specs.View.{view}
use Rattle.plan.proofs.Promises.{accepted-export, accepted-import, export-then-import, import-then-export}
use Rattle.demands.specs.Calculator.{Calculator, Promises}
use Rattle.demands.specs.Exchange.{Exchanges}

-- what an accepted text holds
of_text : (text : List ℕ) (g : Graph) → Imported text g → (h : Holding) × (read_text text ≡ on h []) × (text_of h ≡ text) × (g ≡ plan_of h)
of_text text g i = (i.holding, ap read_text i.its_text ∙ text-read i.holding, sym i.its_text, sym i.plan)

accepted-same : (g g' : Graph) → accepted g ≡ accepted g' → g ≡ g'
accepted-same g g' e = cc

module _ (c : Calculator) (keeps : Promises c) where
  -- an accepted import
  held : {old : Plan} {text : List ℕ} {e : Edited} → c.edits old (import text) e → e.answer ≡ Accepted → import_text text ≡ accepted (view e.plan)
  held {old} {text} {e} x a = accepted-import old text e (keeps.edits x) a

  pub exchanges : Exchanges c
  exchanges = record {
    exported_text = λ {p} {before} n x.
        let a : export_rule (view p) before ≡ accepted n = sym (keeps.exports x).answer in
        let (inside, one, long) = accepted-export (view p) before n a in
        (one, long, (keeps.exports x).buffer ∙ ap (written (export_text (view p)) before) a);
    imported-plan = λ {old} {text} {e} x a. of_text text (view e.plan) (imported text (view e.plan) (held x a));
    imports-back = λ {p} {old} {before} {after} {e} n w x y. export-then-import p old before after n e w (keeps.exports x) (keeps.edits y);
    exports-back = λ {old} {text} {before} {after} {e} {w} x a room y. import-then-export old text e before after w (keeps.edits x) a (keeps.exports y) room;
    one-text = λ {old} {old'} {text} {text'} {e} {e'} x x' a a' same. import_unique text text' (view e.plan) (held x a) (held x' a' ∙ ap accepted (sym same));
    one-plan = λ {old} {old'} {text} {e} {e'} x x' a a'. accepted-same (view e.plan) (view e'.plan) (sym (held x a) ∙ held x' a');
  }

-- an import that marks nothing: it says that it imported a text of one state, and holds a plan without a start
abbrev pub one_state : List ℕ
one_state = octets "des (0, 0, 1)\n"

pub marks_nothing : (c : Calculator) → Exchanges c → {old : Plan} {e : Edited} → c.edits old (import one_state) e → e.answer ≡ Accepted → view e.plan ≡ plan (0 ∷ []) [] → ⊥
unfolding octets value_after value and_then read_word is_digit front is_numeral read_number read_form first_form line_form read_lines whole read_text plan_of
marks_nothing c d {old} {e} x a v =
    let (h, r, t, p) = d.imported-plan x a in
    let same : record { initial = 0; states = 1; transitions = [] } ≡ h = on-got r in
    let z : ◌≡◌ {A = ℕ} 0 4 = ap (λ (g : Graph). (state g 0).marks) (sym v ∙ p ∙ ap plan_of (sym same)) in
    omega arith
