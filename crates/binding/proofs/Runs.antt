-- Demand 3 of the archive's single calls, from the promises alone. A call leaves the slices as long as they were, so what has room for a plan keeps it; each call's promise is
-- then one step of the rules, and its number that of the rules' answer. So a list from a fresh plan is a run of the rules, whose plan is within the limits, and a quotation of
-- the slices after it is decided by its rows: 18 where it names no team, and accepted where it has its places; what it then says is said of that plan. An answer of 256 is that
-- of an accepted call, since no row's number is as large. Assumes nothing.
use mathlib.Core.Bool.{true, false, true≢false}
use mathlib.Core.List.{List, ◌∷◌, map}
use mathlib.Core.Path.{◌≡◌, refl, sym, ap, ap₂, subst, ◌∙◌}
use Prim.Native.Nat.{ℕ, ◌≤◌}
use borrow.Author.Tests.{le-ltb}
use native.Mathlib.Omega.{arith}
use lib.ListN.{length}
use Rattle.graph.specs.declared.Asked.{Asked}
use Rattle.graph.specs.declared.Asked.TheVariants.{One, LeastCountFor, GreatestCountFor}
use Rattle.graph.specs.Class.{name_ok}
use Rattle.graph.specs.Graph.{Graph, states}
use Rattle.rules.specs.Calls.{Call, step, run, run_fresh}
use Rattle.rules.specs.declared.Refusal.TheVariants.{TeamNumber}
use Rattle.rules.specs.Limits.{within}
use Rattle.rules.specs.Quotations.{lent_quote_rule}
use Rattle.rules.specs.Refusal.{Result, accepted, refused, code}
use Rattle.rules.specs.Rules.{fresh_graph, fresh_rule, next}
use Rattle.rules.proofs.Basic.{numbered, fresh_done}
use Rattle.rules.proofs.Figures.{listed_within}
use Rattle.rules.proofs.Results.{code_answer}
use Rattle.plan.specs.View.{view, no_plan}
use Rattle.slices.specs.Lent.{Slices, has_room, plan_in}
use Rattle.edits.proofs.Rooms.{room_kept}
use Rattle.lent.specs.Quoted.{Stands}
use Rattle.binding.specs.OneClaim.{Archive, Kept, LentListed, none, more, LentDemand3}

-- ---- what a quotation's rows decide

-- a quotation of a plan within the limits that names a team where it names one, lent its states' places and four for the answer, is not refused
pub quote-accepted : (asked : Asked) (g : Graph) (walk out : List ℕ) → name_ok asked ≡ true → within g ≡ true → states g ≤ length walk → 4 ≤ length out
    → lent_quote_rule asked g walk out ≡ accepted tt
unfolding lent_quote_rule
quote-accepted (One which) g walk out o w h k = rw (w, le-ltb (length walk) (states g) h, le-ltb (length out) 4 k) refl
quote-accepted (LeastCountFor team) g walk out o w h k = rw (w, o, le-ltb (length walk) (states g) h, le-ltb (length out) 4 k) refl
quote-accepted (GreatestCountFor team) g walk out o w h k = rw (w, o, le-ltb (length walk) (states g) h, le-ltb (length out) 4 k) refl

-- and one that names none is, whatever it is lent
pub quote-unnamed : (asked : Asked) (g : Graph) (walk out : List ℕ) → name_ok asked ≡ false → within g ≡ true → lent_quote_rule asked g walk out ≡ refused TeamNumber
unfolding lent_quote_rule
quote-unnamed (One which) g walk out o w = absurd (true≢false o)
quote-unnamed (LeastCountFor team) g walk out o w = rw (w, o)
quote-unnamed (GreatestCountFor team) g walk out o w = rw (w, o)

-- 256 is the answer of an accepted call alone
by_256 : (o : Result (Unit {0})) → code o ≡ 256 → o ≡ accepted tt
by_256 (accepted tt) e = refl
by_256 (refused k) e = absurd (omega (arith, (numbered k).0))

-- ---- a list of calls

module _ (a : Archive) (kept : Kept a) where
  lent-run : {s u : Slices} {calls : List Call} {answers : List ℕ} → has_room s ≡ true → LentListed a s calls answers u
      → (answers ≡ map code (run (view (plan_in s)) calls).answers) × (view (plan_in u) ≡ (run (view (plan_in s)) calls).last) × (has_room u ≡ true)
  unfolding run
  lent-run h none = (refl, refl, h)
  lent-run h (more {s} {u} {call} {calls} {answers} t r y rest) =
      let x = kept.edits y in
      let o : Result Graph = step (view (plan_in s)) call in
      let l = lent-run (room_kept (plan_in s) s t o r h x.edit) rest in (
        ap₂ {C = List ℕ} (λ (b : ℕ) (as' : List ℕ). b ∷ as') (x.edit.answer h ∙ code_answer o) (l.0 ∙ ap (λ (g : Graph). map code (run g calls).answers) (x.edit.plan h)),
        l.1 ∙ ap (λ (g : Graph). (run g calls).last) (x.edit.plan h),
        l.2,
      )

  -- ---- the one claim

  pub lent-demand_3 : LentDemand3 a
  lent-demand_3 s =
      let g : Graph = (run_fresh s.n s.calls).last in
      let f : fresh_rule s.n ≡ accepted (fresh_graph s.n) = fresh_done s.n s.n_ok in
      let x = kept.freshes s.freshly in
      let v : view (plan_in s.made) ≡ fresh_graph s.n = x.plan s.room ∙ ap (next (view (plan_in s.lent))) f in
      let l = lent-run (room_kept no_plan s.lent s.made (fresh_rule s.n) s.made-answer s.room x) s.in_turn_lem in
      let last : view (plan_in s.last) ≡ g = l.1 ∙ ap (λ (g : Graph). (run g s.calls).last) v in
      let inside : within g ≡ true = listed_within s.n s.calls s.n_ok in
      record {
        fresh-accepted = x.answer s.room ∙ ap code f;
        answers = l.0 ∙ ap (λ (g : Graph). map code (run g s.calls).answers) v;
        plan = last;
        accepted_where = λ {asked} {walk} {walk'} {out} y name places four.
            (kept.quotes y).answer l.2
            ∙ ap code (ap (λ (g : Graph). lent_quote_rule asked g walk out) last ∙ quote-accepted asked g walk out name inside places four);
        no-figure = λ {asked} {walk} {walk'} {out} y unnamed.
            let e : lent_quote_rule asked (view (plan_in s.last)) walk out ≡ refused TeamNumber =
            ap (λ (g : Graph). lent_quote_rule asked g walk out) last ∙ quote-unnamed asked g walk out unnamed inside in
            let (walks, outs) = (kept.quotes y).kept l.2 TeamNumber e in
            ((kept.quotes y).answer l.2 ∙ ap code e, walks, outs);
        right = λ {asked} {walk} {walk'} {out} {out'} y accepted.
            subst (λ (g : Graph). Stands asked g walk walk' out out') last
            ((kept.quotes y).quoted l.2 (by_256 (lent_quote_rule asked (view (plan_in s.last)) walk out) (sym ((kept.quotes y).answer l.2) ∙ accepted)));
      }
