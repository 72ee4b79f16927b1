-- What the promises say of a call's answer and of a quotation's figure, in the forms that the records of document 02's requests need. An edit's answer is that of its rows,
-- so a row that is the first to hold refuses it, and where none holds it is accepted and the plan is its effect. A quotation says what its figure is, a least one or a
-- greatest one, over the states that count. Assumes nothing.
use mathlib.Core.Bool.{Bool, true, false, true≢false, false≢true}
use mathlib.Core.List.{List}
use mathlib.Core.Logic.{◌⊎◌, inl, inr}
use mathlib.Core.Path.{◌≡◌, refl, sym, ap, ◌∙◌}
use Prim.Native.Nat.{ℕ}
use native.Mathlib.Omega.{arith}
use Rattle.graph.specs.declared.Which.{Which}
use Rattle.graph.specs.declared.Which.TheVariants.{LeastDelay, GreatestDelay, LeastCount, GreatestCount}
use Rattle.graph.specs.Figure.{Figure, number, STRANDED, ENDLESS, kind, cost_over}
use Rattle.graph.specs.Graph.{Graph}
use Rattle.graph.specs.Which.{is_least}
use Rattle.rules.specs.Answer.{Accepted, Answer}
use Rattle.std.proofs.Common.{Ok, Err}
use Rattle.rules.specs.declared.Refusal.{Refusal}
use Rattle.rules.specs.Calls.{Call, rows_of, effect_of, step}
use Rattle.rules.specs.Quotations.{says_over, LeastQuoted, GreatestQuoted}
use Rattle.rules.specs.Refusal.{Result, accepted, refused, said}
use Rattle.rules.specs.Rules.{next}
use Rattle.rules.specs.Table.{first, NoneHolds}
use Rattle.rules.proofs.Results.{never, accepted-answer}
use Rattle.rules.proofs.Tables.{accepted_only, accepted_where, answer-first}
use Rattle.plan.specs.declared.Edited.{Edited}
use Rattle.arrays.specs.declared.Plan.{Plan}
use Rattle.plan.specs.View.{view}
use Rattle.demands.specs.Calculator.{Calculator, Promises}

-- ---- an edit

pub refused-answer : (a : Answer) (r : Refusal) → said a ≡ refused r → a ≡ Err r
refused-answer (Ok _) r e = absurd (never tt r (sym e))
refused-answer (Err k) r e = let s : k ≡ r = cc in ap Err s

module _ (c : Calculator) (keeps : Promises c) where
  pub by_first : {p : Plan} {call : Call} {e : Edited} → c.edits p call e → said e.answer ≡ first (rows_of (view p) call)
  by_first {p} {call} x = (keeps.edits x).answer ∙ answer-first (rows_of (view p) call) (effect_of (view p) call)

  pub refused_by : {p : Plan} {call : Call} {e : Edited} (r : Refusal) → c.edits p call e → first (rows_of (view p) call) ≡ refused r → e.answer ≡ Err r
  refused_by {p} {call} {e} r x h = refused-answer e.answer r (by_first x ∙ h)

  pub accepted_by : {p : Plan} {call : Call} {e : Edited} → c.edits p call e → NoneHolds (rows_of (view p) call) → e.answer ≡ Accepted
  accepted_by {p} {call} {e} x h = accepted-answer e.answer (by_first x ∙ accepted_where (rows_of (view p) call) tt h)

  -- where it is accepted no row holds, and the plan is its effect
  pub effect : {p : Plan} {call : Call} {e : Edited} → c.edits p call e → e.answer ≡ Accepted
      → NoneHolds (rows_of (view p) call) × (view e.plan ≡ effect_of (view p) call)
  effect {p} {call} {e} x a =
      let none = (accepted_only (rows_of (view p) call) tt tt (sym (by_first x) ∙ ap said a)).0 in
      (none, (keeps.edits x).plan ∙ ap (next (view p)) (accepted_where (rows_of (view p) call) (effect_of (view p) call) none))

  -- and else the plan stays
  pub effect_or_stays : {p : Plan} {call : Call} {e : Edited} → c.edits p call e
      → (NoneHolds (rows_of (view p) call) × (view e.plan ≡ effect_of (view p) call)) ⊎ (view e.plan ≡ view p)
  effect_or_stays {p} {call} {e} x = go (step (view p) call) refl
    where
      go : (o : Result Graph) → step (view p) call ≡ o → (NoneHolds (rows_of (view p) call) × (view e.plan ≡ effect_of (view p) call)) ⊎ (view e.plan ≡ view p)
      go (accepted g) f =
          let (none, same) = accepted_only (rows_of (view p) call) (effect_of (view p) call) g f in
          inl (none, (keeps.edits x).plan ∙ ap (next (view p)) f ∙ sym same)
      go (refused r) f = inr ((keeps.edits x).plan ∙ ap (next (view p)) f)

-- ---- a quotation

module _ {g : Graph} {f : Figure} {k j : ℕ} {before after : List ℕ} (test : ℕ → Bool) where
  pub least-said : (which : Which) → is_least which ≡ true → says_over which test g f k j before after → LeastQuoted g (cost_over which test g) f k j before after
  least-said LeastDelay e x = x
  least-said GreatestDelay e x = absurd (false≢true e)
  least-said LeastCount e x = x
  least-said GreatestCount e x = absurd (false≢true e)

  pub greatest-said : (which : Which) → is_least which ≡ false → says_over which test g f k j before after → GreatestQuoted g (cost_over which test g) f k j before after
  greatest-said LeastDelay e x = absurd (true≢false e)
  greatest-said GreatestDelay e x = x
  greatest-said LeastCount e x = absurd (true≢false e)
  greatest-said GreatestCount e x = x

-- a figure is of one kind
pub number_not_endless : (x : ℕ) → number x ≡ ENDLESS → ⊥
number_not_endless x e = let z : ◌≡◌ {A = ℕ} 0 3 = ap kind e in omega arith

pub number_not_stranded : (x : ℕ) → number x ≡ STRANDED → ⊥
number_not_stranded x e = let z : ◌≡◌ {A = ℕ} 0 2 = ap kind e in omega arith
