-- The best values, filled in the order of leaving, for the least and for the greatest alike. A state's transitions lead to final states and to states earlier in the
-- order, so what is stored at a later state changes none of the values that an earlier one was made of (`valued_more`). A final state of the order is passed by, and has
-- its close (`valued_final`). Each value is at most one weight more than those before it. Assumes nothing.
use mathlib.Core.Bool.{Bool, false, ◌||◌, true≢false}
use mathlib.Core.List.{List}
use mathlib.Core.Logic.{◌⊎◌, inl, inr, ◌≢◌}
use mathlib.Core.Path.{◌≡◌, sym, ap, ◌∙◌}
use Prim.Native.Nat.{ℕ, suc, ◌+◌, ◌*◌, ◌≤◌, ◌<◌}
use native.Mathlib.Omega.{arith}
use borrow.Author.Tests.{eqb-true, eq-eqb}
use lib.Dec.{eqb}
use lib.ListN.{length, set, length-set}
use lib.Seq.{get_or-set_same, get_or-set_other}
use Rattle.graph.specs.Graph.{final_mark}
use Rattle.search.specs.Arrays.{Arrays, at, FinalIn, UnfinishedIn, Leaves}
use Rattle.search.specs.Chain.{none}
use Rattle.search.specs.Sizes.{heaviest}
use Rattle.search.specs.Route.{Accounts}
use Rattle.best_step.specs.declared.Step.{Step}
use Rattle.best_step.specs.Steps.{Before, BestStep}
use Rattle.values.specs.Values.{Fillable, Ordered, Valued}
use Rattle.search.proofs.Places.{at_set}
use Rattle.arrays.proofs.Lists.{same_or_not, below_or_not}

module _ {least : Bool} {A : Arrays} {head link order weight close value : List ℕ} {i done : ℕ} {step : Step} (f : Fillable A head link order weight done) (h : i < done)
    (u : UnfinishedIn A.marks (at order i)) (v : Valued least A order weight close i value)
    (l : BestStep least A.m A.from A.to weight value (λ x. false || eqb x (at order i)) step) where
  o : Ordered A order done
  o = f.ordered

  abbrev s : ℕ
  s = at order i

  abbrev r : ℕ
  r = step.cost

  abbrev value' : List ℕ
  value' = set value s r

  room : s < length value
  room = omega (arith, o.below i h, v.sized, f.linked.bounded.states)

  here : at value' s ≡ r
  here = get_or-set_same value s r 0 room

  there : (x : ℕ) → x ≢ s → at value' x ≡ at value x
  there x d = get_or-set_other value s x r 0 d

  -- a final state is another, and so is an earlier one
  final-other : (x : ℕ) → FinalIn A.marks x → x ≢ s
  final-other x q e = true≢false (sym q ∙ ap (λ (y : ℕ). final_mark (at A.marks y)) e ∙ u)

  earlier-other : (j : ℕ) → j < i → at order j ≢ s
  earlier-other j q e = o.apart j i q h e

  -- so the values behind the transitions of the states up to i stay
  behind : (j : ℕ) → j < suc i → (t : ℕ) → Leaves A (at order j) t → at value' (at A.to t) ≡ at value (at A.to t)
  behind j q t p = go (o.earlier j (omega arith) t p)
    where
      go : FinalIn A.marks (at A.to t) ⊎ ((k : ℕ) × (k < j) × (at order k ≡ at A.to t)) → at value' (at A.to t) ≡ at value (at A.to t)
      go (inl f) = there (at A.to t) (final-other (at A.to t) f)
      go (inr (k, b, e)) = there (at A.to t) (rw e at (earlier-other k (omega arith)))

  best : (t : ℕ) → Leaves A s t → Before least r (at weight t + at value (at A.to t))
  best t p = l.over t p.listed (eq-eqb (at A.from t) s p.source)

  attained : (t : ℕ) × Leaves A s t × (r ≡ at weight t + at value (at A.to t))
  attained = go (below_or_not step.transition none)
    where
      go : (step.transition < none) ⊎ (none ≤ step.transition) → (t : ℕ) × Leaves A s t × (r ≡ at weight t + at value (at A.to t))
      go (inl b) = let (q, e, c) = l.found b in (step.transition, record { listed = q; source = eqb-true (at A.from step.transition) s e }, c)
      go (inr b) =
          let (t, p) = o.leaves i h in
          absurd (omega (arith, (l.missing b).1 t p.listed (eq-eqb (at A.from t) s p.source), f.light t, v.most (at A.to t), f.few))

  pub valued_more : Valued least A order weight close (suc i) value'
  valued_more = record {
    sized = omega (arith, v.sized, length-set value s r);
    at-final = λ x b f. there x (final-other x f) ∙ v.at-final x b f;
    over = over;
    accounted = accounted;
    most = most;
  }
    where
      over : (j : ℕ) → j < suc i → UnfinishedIn A.marks (at order j) → (t : ℕ) → Leaves A (at order j) t
          → Before least (at value' (at order j)) (at weight t + at value' (at A.to t))
      over j q w t p = rw (behind j q t p) (go (same_or_not j i))
        where
          go : (j ≡ i) ⊎ (j ≢ i) → Before least (at value' (at order j)) (at weight t + at value (at A.to t))
          go (inl e) = rw (e, here) (best t (rw e at p))
          go (inr d) = rw (there (at order j) (earlier-other j (omega (arith, d)))) (v.over j (omega (arith, d)) w t p)

      accounted : (j : ℕ) → j < suc i → UnfinishedIn A.marks (at order j) → (t : ℕ) × Leaves A (at order j) t × Accounts A.to weight value' (at order j) t
      accounted j q w = go (same_or_not j i)
        where
          go : (j ≡ i) ⊎ (j ≢ i) → (t : ℕ) × Leaves A (at order j) t × Accounts A.to weight value' (at order j) t
          go (inl e) = let (t, p, a) = attained in rw e (t, p, here ∙ a ∙ ap (λ (x : ℕ). at weight t + x) (sym (behind i (omega arith) t p)))
          go (inr d) =
              let (t, p, a) = v.accounted j (omega (arith, d)) w in
              (t, p, there (at order j) (earlier-other j (omega (arith, d))) ∙ a ∙ ap (λ (x : ℕ). at weight t + x) (sym (behind j q t p)))

      most : (x : ℕ) → at value' x ≤ suc (suc i) * heaviest
      most x = go (at_set value s r x room)
        where
          go : ((x ≡ s) × (at value' x ≡ r)) ⊎ ((x ≢ s) × (at value' x ≡ at value x)) → at value' x ≤ suc (suc i) * heaviest
          go (inl (p, e)) = let (t, p, a) = attained in omega (arith, f.light t, v.most (at A.to t))
          go (inr (p, e)) = omega (arith, v.most x)

-- a final state is passed by
pub valued_final : {least : Bool} {A : Arrays} {order weight close value : List ℕ} {i : ℕ} → FinalIn A.marks (at order i) → Valued least A order weight close i value
    → Valued least A order weight close (suc i) value
valued_final {least} {A} {order} {weight} {close} {value} {i} f v = record {
  sized = v.sized;
  at-final = v.at-final;
  over = λ j q w. v.over j (before j q w) w;
  accounted = λ j q w. v.accounted j (before j q w) w;
  most = λ x. omega (arith, v.most x);
}
  where
    before : (j : ℕ) → j < suc i → UnfinishedIn A.marks (at order j) → j < i
    before j q w = go (same_or_not j i)
      where
        go : (j ≡ i) ⊎ (j ≢ i) → j < i
        go (inl e) = absurd (true≢false (sym f ∙ rw e at w))
        go (inr d) = omega (arith, d)
