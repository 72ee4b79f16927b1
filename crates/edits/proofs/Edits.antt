-- What an edit on lent slices promises. An answer that is accepted goes with the plan stored, and a refusal with every place as it was; so the promise
-- of the plan's own call, on the plan value that was loaded, is the promise on the slices (`finished`), and the slices then hold the very plan value that
-- the rules' next value is (`turned`). Assumes nothing.
use mathlib.Core.Bool.{true, false}
use mathlib.Core.List.{List, map}
use mathlib.Core.Path.{◌≡◌, refl, sym, ap, subst, ◌∙◌}
use Prim.Native.Nat.{ℕ}
use lib.ListN.{length, drop, length-map}
use lib.Seq.{drop_at}
use Rattle.graph.specs.Graph.{Graph, State, Transition, states, count}
use Rattle.rules.specs.Answer.{Answer}
use Rattle.std.proofs.Common.{Ok, Err}
use Rattle.rules.specs.Calls.{Call, step}
use Rattle.rules.specs.Refusal.{Result, accepted, refused, answer_of, said, code}
use Rattle.rules.specs.Limits.{within}
use Rattle.rules.specs.Rules.{next}
use Rattle.rules.proofs.Kept.{step-within}
use Rattle.rules.proofs.ReadWrite.{limited}
use Rattle.rules.proofs.Results.{accepted_as, refused_as}
use Rattle.arrays.specs.Tables.{over}
use Rattle.arrays.specs.declared.Plan.{Plan}
use Rattle.plan.specs.declared.Edited.{Edited}
use Rattle.plan.specs.View.{view, laid}
use Rattle.plan.specs.Promise.{Edit, Turn, next_value}
use Rattle.slices.specs.Lent.{Slices, has_room, plan_in, storing, Finished, SameLater, Updates}
use Rattle.slices.proofs.Stores.{true-false}
use Rattle.edits.specs.Lent.{next_slices, LentEdit, LentTurn}

pub too_short : (p : Plan) (s : Slices) (o : Result Graph) → has_room s ≡ false → LentEdit p s s o 255
too_short p s o e =
    record {
      short = λ h. (refl, refl);
      answer = λ h. true-false (has_room s) h e;
      plan = λ h. true-false (has_room s) h e;
      whole = λ h. true-false (has_room s) h e;
    }

code_of : (o : Result Graph) (r : Result (Unit {0})) → r ≡ answer_of o → code r ≡ code o
code_of (accepted g) r e = ap code e
code_of (refused k) r e = ap code e

by_answer : (a : Answer) (p q : Plan) (s s' : Slices) (o : Result Graph) (r : ℕ) → has_room s ≡ true → said a ≡ answer_of o
    → ((g : Graph) → o ≡ accepted g → (view q ≡ g) × (q ≡ laid p g)) → Finished a q s s' r → LentEdit p s s' o r
by_answer (Ok _) p q s s' o r room e v f =
    let g = accepted_as o e in
    let w = v g.0 g.1 in
    record {
      short = λ h. true-false (has_room s) room h;
      answer = λ h. f.0 ∙ code_of o (accepted tt) e;
      plan = λ h. ap view f.2 ∙ w.0 ∙ sym (ap (next (view (plan_in s))) g.1);
      whole = λ h. f.1 ∙ ap (λ (x : Plan). storing x s) w.1 ∙ sym (ap (next_slices p s) g.1);
    }
by_answer (Err k) p q s s' o r room e v f =
    let g = refused_as o k e in
    record {
      short = λ h. true-false (has_room s) room h;
      answer = λ h. f.0 ∙ code_of o (refused k) e;
      plan = λ h. ap (λ (x : Slices). view (plan_in x)) f.1 ∙ ap (next (view (plan_in s))) (sym g);
      whole = λ h. f.1 ∙ sym (ap (next_slices p s) g);
    }

-- a call of the plan's own whose answer was stored keeps its promise on the slices
pub finished : (p : Plan) (s s' : Slices) (o : Result Graph) (e : Edited) (r : ℕ) {bits : ℕ} → has_room s ≡ true → Edit p o bits e → Finished e.answer e.plan s s' r → LentEdit p s s' o r
finished p s s' o e r room x f =
    by_answer e.answer p e.plan s s' o r room x.answer (λ g h. (x.plan ∙ ap (next (view p)) h, x.whole ∙ ap (next_value p) h)) f

-- ---- a call on the plan that the slices hold

pub turn-short : (s : Slices) (call : Call) → has_room s ≡ false → LentTurn s s call 255
turn-short s call e = record { edit = too_short (plan_in s) s (step (view (plan_in s)) call) e; value = λ h. true-false (has_room s) h e }

value_of : (a : Answer) (q : Plan) (s t : Slices) (o : Result Graph) (r : ℕ) → said a ≡ answer_of o → q ≡ next_value (plan_in s) o → Finished a q s t r
    → plan_in t ≡ next_value (plan_in s) o
value_of (Ok _) q s t o r e w f = f.2 ∙ w
value_of (Err k) q s t o r e w f = ap plan_in f.1 ∙ ap (next_value (plan_in s)) (sym (refused_as o k e))

pub turned : (call : Call) (p : Plan) (s t : Slices) (e : Edited) (r : ℕ) → has_room s ≡ true → p ≡ plan_in s → Turn p call e
    → Finished e.answer e.plan s t r → LentTurn s t call r
turned call p s t e r room h x f =
    let o : Result Graph = step (view (plan_in s)) call in
    let y : Turn (plan_in s) call e = subst (λ (q : Plan). Turn q call e) h x in
    record {
      edit = finished (plan_in s) s t o e r room y f;
      value = λ _. value_of e.answer e.plan s t o r y.answer y.whole f;
    }

-- ---- what is stored

over_rest : (xs ys : List ℕ) (n : ℕ) → length xs ≡ n → drop n (over xs ys) ≡ drop n ys
over_rest xs ys n e = drop_at xs (drop (length xs) ys) n e ∙ ap (λ (k : ℕ). drop k ys) e

later_laid : (s : Slices) (g : Graph) → within g ≡ true → SameLater (laid (plan_in s) g) s
unfolding laid
later_laid s g w =
    let l = limited g w in
    let state : (f : State → ℕ) (ys : List ℕ) → drop (states g) (over (map f g.state_list) ys) ≡ drop (states g) ys =
    λ f ys. over_rest (map f g.state_list) ys (states g) (length-map g.state_list f) in
    let field : (f : Transition → ℕ) (ys : List ℕ) → drop (count g) (over (map f g.transitions) ys) ≡ drop (count g) ys =
    λ f ys. over_rest (map f g.transitions) ys (count g) (length-map g.transitions f) in
    record {
      states = l.most;
      transitions = l.transitions;
      marks = state (λ (x : State). x.marks) (plan_in s).marks;
      teams = state (λ (x : State). x.team) (plan_in s).teams;
      from = field (λ (t : Transition). t.from) (plan_in s).from;
      to = field (λ (t : Transition). t.to) (plan_in s).to;
      low = field (λ (t : Transition). t.low) (plan_in s).low;
      high = field (λ (t : Transition). t.high) (plan_in s).high;
    }

-- past its counts an accepted plan has what the slices have
pub same_later : (call : Call) (p : Plan) (s : Slices) (e : Edited) → p ≡ plan_in s → Turn p call e → Updates e.answer e.plan s
same_later call p s e h x a =
    let o : Result Graph = step (view (plan_in s)) call in
    let y : Turn (plan_in s) call e = subst (λ (q : Plan). Turn q call e) h x in
    let (g, i) = accepted_as o (ap said (sym a) ∙ y.answer) in
    subst (λ (q : Plan). SameLater q s) (sym (y.whole ∙ ap (next_value (plan_in s)) i)) (later_laid s g (step-within (view (plan_in s)) g call i))
