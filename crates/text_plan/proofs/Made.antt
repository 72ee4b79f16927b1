-- A text imported over a fresh plan of one state. That plan is within the limits, so the text alone decides (`alone`). Its arrays hold zeros alone, so the plan of an accepted text
-- lies there as over no plan (`accepts`); beside a refusal stands what a refused fresh gives, which is no plan (`refuses`). Assumes nothing.
use mathlib.Core.List.{List}
use mathlib.Core.Path.{◌≡◌, refl, sym, ap, ◌∙◌}
use Prim.Native.Nat.{ℕ}
use Rattle.graph.specs.Graph.{Graph}
use Rattle.rules.specs.Answer.{Accepted}
use Rattle.std.proofs.Common.{Err}
use Rattle.rules.specs.declared.Format.TheVariants.{Text}
use Rattle.rules.specs.declared.Refusal.{Refusal}
use Rattle.rules.specs.Aldebaran.{import_text}
use Rattle.rules.specs.Calls.{import}
use Rattle.rules.specs.Limits.{within}
use Rattle.rules.specs.Refusal.{accepted, refused, said}
use Rattle.rules.specs.Rules.{fresh_graph, fresh_rule, next}
use Rattle.rules.proofs.Basic.{fresh_done, fresh-refused, import_given}
use Rattle.rules.proofs.Kept.{fresh-within}
use Rattle.rules.proofs.Results.{accepted_as, refused_as}
use Rattle.plan.specs.declared.Edited.{Edited}
use Rattle.arrays.specs.declared.Plan.{Plan}
use Rattle.plan.specs.Laws.{view-laid}
use Rattle.plan.specs.Promise.{Edit, Turn, HeldIn, next_value}
use Rattle.plan.specs.View.{view, laid, blank_plan, no_plan}

-- the plan value of a fresh of one state, and a plan laid over it
fresh-blank : laid no_plan (fresh_graph 1) ≡ blank_plan 1
unfolding laid
fresh-blank = refl

laid-blank : (g : Graph) → laid (blank_plan 1) g ≡ laid no_plan g
unfolding laid
laid-blank g = refl

module _ (text : List ℕ) (f : Edited) (y : Edit no_plan (fresh_rule 1) 0 f) (e : Edited) (x : Turn f.plan (import text) e) where
  done : fresh_rule 1 ≡ accepted (fresh_graph 1)
  done = fresh_done 1 refl

  alone : Edit f.plan (import_text text) 0 e
  alone =
      let v : view f.plan ≡ fresh_graph 1 = y.plan ∙ ap (next (view no_plan)) done in
      rw (← import_given (view f.plan) text (ap within v ∙ fresh-within 1 refl)) x

  blank : f.plan ≡ blank_plan 1
  blank = y.whole ∙ ap (next_value no_plan) done ∙ fresh-blank

  pub accepts : e.answer ≡ Accepted → HeldIn Text text e
  accepts a =
      let (g, i) = accepted_as (import_text text) (ap said (sym a) ∙ alone.answer) in
      let whole : e.plan ≡ laid no_plan g = alone.whole ∙ ap (next_value f.plan) i ∙ ap (λ (p : Plan). laid p g) blank ∙ laid-blank g in
      record {
        answer = alone.answer;
        plan = ap view whole ∙ view-laid no_plan g ∙ ap (next (view no_plan)) (sym i);
        whole = whole ∙ ap (next_value no_plan) (sym i);
        taken = alone.taken;
      }

  pub refuses : (r : Refusal) → e.answer ≡ Err r → (none : Edited) → Edit no_plan (fresh_rule 0) 0 none → HeldIn Text text (record { answer = e.answer; plan = none.plan; taken = 0 })
  refuses r a none z =
      let i : import_text text ≡ refused r = refused_as (import_text text) r (ap said (sym a) ∙ alone.answer) in
      let n : none.plan ≡ no_plan = z.whole ∙ ap (next_value no_plan) (fresh-refused 0 refl) in
      record {
        answer = alone.answer;
        plan = ap view n ∙ ap (next (view no_plan)) (sym i);
        whole = n ∙ ap (next_value no_plan) (sym i);
        taken = refl;
      }
