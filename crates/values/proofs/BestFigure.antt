-- From an order of leaving to the figure, for the least and for the greatest alike.
--
-- 1. The rank falls from all starts (`falling`), so no walk goes on forever; and no dead end was entered, so the order of leaving is one in which values can be
--    filled (`ordered`).
-- 2. No route from a state is better than its value (`bound`, by graph's `route-bound`), and a route that costs the value can be read off (`leading`).
-- 3. A start leads on, so there is a best first step (`found`). What it weighs with the value behind it is the figure (`right`), and the route that was read off from there, with
--    the step before it, is what 01 asks to be shown (search's `begun-quoted`): the start's rank is above those of the unfinished states behind it.
-- Assumes nothing.
use mathlib.Core.Bool.{Bool, true, false}
use mathlib.Core.List.{List, [], ◌∷◌}
use mathlib.Core.Logic.{◌⊎◌, inl, inr, ⊎_elim}
use mathlib.Core.Path.{◌≡◌, refl, sym, ap, ◌∙◌}
use Prim.Native.Nat.{ℕ, ◌+◌, ◌≤◌, ◌<◌}
use native.Mathlib.Omega.{arith}
use borrow.Author.Tests.{lt-ltb, ltb-true}
use lib.Dec.{ltb}
use lib.ListN.{length, take}
use Rattle.graph.specs.Graph.{Graph, to, Departs, Final, Unfinished, start_mark}
use Rattle.graph.specs.Walk.{Begins}
use Rattle.graph.specs.Route.{RouteFrom, Route, total}
use Rattle.graph.specs.Figure.{number, Extreme}
use Rattle.graph.proofs.Certificate.{FallingRank, route-bound, no-forever, no-stranded}
use Rattle.search.specs.Arrays.{Arrays, at, FinalIn, UnfinishedIn, Leaves, Bounded, StandsIn}
use Rattle.search.specs.Chain.{none}
use Rattle.arrays.specs.Tables.{cost_of}
use Rattle.turns.specs.declared.Table.{Table}
use Rattle.hunt.specs.Hunted.{NoDeadEnd}
use Rattle.reach.specs.Explored.{Ranked}
use Rattle.search.specs.Sizes.{far, heaviest}
use Rattle.search.specs.Quoted.{Quoted}
use Rattle.search.specs.Route.{Accounts, Addable, Leading, Readable, TracedBy}
use Rattle.best_step.specs.declared.Step.{Step}
use Rattle.best_step.specs.Steps.{Before, BestStep}
use Rattle.best_step.proofs.Choosing.{before_refl, before-trans, before_add}
use Rattle.values.specs.Values.{Fillable, Over, Ordered, Valued, IsBest}
use Rattle.reach.proofs.Hunting.{onward-lower}
use Rattle.search.proofs.Held.{held-final, held_start, begins_in, final_in, departs, leaves, leads, begun-route, begun-costs, begun-quoted}
use Rattle.arrays.proofs.Lists.{below_or_not}

-- ---- 1

module _ (A : Arrays) (bounded : Bounded A) (a : Table) (done : ℕ) (r : Ranked A a done) where
  -- the states that were entered
  abbrev pub Entered : ℕ → Type 0
  Entered s = (s < A.n) × (0 < at a.rank s)

  module _ (g : Graph) (held : StandsIn A g) where
    pub falling : FallingRank g Entered (at a.rank)
    falling = record {
      begins = λ s b. let (h, e) = begins_in held s b in (h, r.starts s h e);
      onward = λ s t (h, p) d u.
          let l = leaves held d in
          let (b, e) = leads held bounded t l.listed in
          let v : UnfinishedIn A.marks (at A.to t) = rw e at (sym (held-final held (to g t) (rw e b)) ∙ u) in
          let (q, f) = onward-lower r s t h p l v in
          rw e ((b, q), f);
    }

  module _ (out : NoDeadEnd A a.rank) where
    -- a state at a place of the order, with its rank
    at_place : (i : ℕ) → i < done → Entered (at a.order i)
    at_place i h = let (b, e) = r.listed i h in (b, omega arith)

    pub ordered : Ordered A a.order done
    ordered = record {
      below = λ i h. (at_place i h).0;
      apart = λ i j l h e. omega (arith, (r.listed i (omega arith)).1, (r.listed j h).1, ap (at a.rank) e);
      leaves = λ i h. let (b, p) = at_place i h in out (at a.order i) b p;
      earlier = earlier;
    }
      where
        earlier : (i : ℕ) → i < done → (t : ℕ) → Leaves A (at a.order i) t
            → FinalIn A.marks (at A.to t) ⊎ ((j : ℕ) × (j < i) × (at a.order j ≡ at A.to t))
        earlier i h t l =
            let (b, p) = at_place i h in
            ⊎_elim (λ f. inl f) (λ (q, f).
            let (j, k, e, o) = r.placed (at A.to t) (bounded.arrives t l.listed) q in
            inr (j, omega (arith, (r.listed i h).1), o)) (r.onward (at a.order i) b p t l)

    -- ---- 2

    module _ (least : Bool) (weight close value : List ℕ) (v : Valued least A a.order weight close done value) where
      -- what the values say of an unfinished state that was entered
      over : (s t : ℕ) → s < A.n → 0 < at a.rank s → UnfinishedIn A.marks s → Leaves A s t → Before least (at value s) (at weight t + at value (at A.to t))
      over s t h p u l = let (i, b, e, o) = r.placed s h p in rw o at (v.over i b (rw o u) t (rw o l))

      accounted : (s : ℕ) → s < A.n → 0 < at a.rank s → UnfinishedIn A.marks s → (t : ℕ) × Leaves A s t × Accounts A.to weight value s t
      accounted s h p u = let (i, b, e, o) = r.placed s h p in rw o at (v.accounted i b (rw o u))

      leading : Leading A weight close value (λ s. ltb 0 (at a.rank s)) (at a.rank)
      leading = record {
        at-final = v.at-final;
        accounted = λ s h i u. accounted s h (ltb-true 0 (at a.rank s) i) u;
        onward = λ s h i u t l q w.
            let (p, f) = onward-lower r s t h (ltb-true 0 (at a.rank s) i) l w in (lt-ltb 0 (at a.rank (at A.to t)) p, f);
      }

      module _ (g : Graph) (held : StandsIn A g) where
        bound : (s : ℕ) (ts : List ℕ) → RouteFrom g s ts → (Unfinished g s → Entered s) → Before least (at value s) (total g (cost_of weight close) s ts)
        bound = route-bound g (cost_of weight close) (λ s x. (Unfinished g s → Entered s) → Before least (at value s) x) at-final carried
          where
            at-final : (s : ℕ) → Final g s → (Unfinished g s → Entered s) → Before least (at value s) (at close s)
            at-final s f i = let (l, d) = final_in held s f in rw (v.at-final s l d) (before_refl least (at close s))

            carried : (s t x : ℕ) → Unfinished g s → Departs g s t → ((Unfinished g (to g t) → Entered (to g t)) → Before least (at value (to g t)) x)
                → (Unfinished g s → Entered s) → Before least (at value s) (at weight t + x)
            carried s t x u d behind i =
                let (l, p) = i u in
                let q = leaves held d in
                let e = (leads held bounded t q.listed).1 in
                let b : Before least (at value (at A.to t)) x = rw e at (behind (λ w. ((falling g held).onward s t (l, p) d w).0)) in
                before-trans least (at value s) (at weight t + at value (at A.to t)) (at weight t + x) (over s t l p (sym (held-final held s l) ∙ u) q)
                (before_add least (at weight t) (at value (at A.to t)) x b)

        -- ---- 3

        module _ (step : Step) (first : BestStep least A.m A.from A.to weight value (λ x. start_mark (at A.marks x)) step) (taken : step.transition < none) where
          abbrev t : ℕ
          t = step.transition

          abbrev s : ℕ
          s = at A.from t

          departing : Leaves A s t
          departing = record { listed = (first.found taken).0; source = refl }

          below : s < A.n
          below = bounded.leaves t departing.listed

          begins : Begins g s
          begins = held_start held s below ∙ (first.found taken).1

          module _ (k : ℕ) (before after : List ℕ) (room : A.n ≤ length after) (x : TracedBy A weight close value (at a.rank) t k before after) where
            extreme : Extreme (Before least) g (cost_of weight close) (at weight t + at value (at A.to t))
            extreme = record {
              attained = (s, take k after, begun-route held bounded begins departing room x, begun-costs held bounded begins departing room x);
              bound = best;
            }
              where
                best : (y : ℕ) (ts : List ℕ) → Route g y ts → Before least (at weight t + at value (at A.to t)) (total g (cost_of weight close) y ts)
                best y [] (b, q) = absurd q
                best y (u ∷ ts) (b, (d, q)) =
                    let (l, e) = begins_in held y b in
                    let o = leaves held d in
                    let z = (leads held bounded u o.listed).1 in
                    let f = rw (first.found taken).2 at (first.over u o.listed (rw o.source e)) in
                    let here : Before least (at weight t + at value (at A.to t)) (at weight u + at value (to g u)) = rw z f in
                    let w = bound (to g u) ts q (λ v. ((falling g held).onward y u ((falling g held).begins y b) d v).0) in
                    before-trans least (at weight t + at value (at A.to t)) (at weight u + at value (to g u)) (at weight u + total g (cost_of weight close) (to g u) ts) here
                    (before_add least (at weight u) (at value (to g u)) (total g (cost_of weight close) (to g u) ts) w)

            right : (l : Bool) → Extreme (Before l) g (cost_of weight close) (at weight t + at value (at A.to t)) → IsBest l g (cost_of weight close) (number (at weight t + at value (at A.to t)))
            right true e = e
            right false e = (
              λ no_start. no_start s begins,
              no-forever g Entered (at a.rank) (falling g held) (cost_of weight close) (λ s t i d. refl),
              no-stranded g Entered (at a.rank) (falling g held) (λ s (l, p). let (t, q) = out s l p in (t, departs held q)),
              e,
            )

            pub best-shown : Quoted (IsBest least g (cost_of weight close)) g (cost_of weight close) (number step.cost) k 0 before after
            best-shown =
                rw (first.found taken).2
                (begun-quoted held bounded begins departing room x higher (IsBest least g (cost_of weight close)) (right least extreme))
              where
                higher : UnfinishedIn A.marks s → UnfinishedIn A.marks (at A.to t) → at a.rank s ≤ at a.rank (at A.to t) → ⊥
                higher u w q = omega (arith, (onward-lower r s t below (r.starts s below (first.found taken).1) departing w).1)

-- ---- where the search is over

-- the closes stand for values before any is filled in
pub valued_none : (least : Bool) (A : Arrays) (order weight close : List ℕ) → length close ≡ 512 → ((x : ℕ) → at close x ≤ heaviest) → Valued least A order weight close 0 close
valued_none least A order weight close long light = record {
  sized = omega arith;
  at-final = λ s h f. refl;
  over = λ i h. absurd (omega arith);
  accounted = λ i h. absurd (omega arith);
  most = λ x. omega (arith, light x);
}

module _ {A : Arrays} {head link : List ℕ} {a : Table} {done : ℕ} (o : Over A head link a done) {weight : List ℕ} (light : (t : ℕ) → at weight t ≤ heaviest) where
  pub fillable : Fillable A head link a.order weight done
  fillable = record {
    linked = o.linked;
    few = omega (arith, o.ranked.count, o.linked.bounded.states);
    light = light;
    ordered = ordered A o.linked.bounded a done o.ranked o.no_dead_end;
  }

  module _ {least : Bool} {close value : List ℕ} (v : Valued least A a.order weight close done value) where
    values-most : (x : ℕ) → at value x ≤ far
    values-most x = omega (arith, v.most x, o.ranked.count, o.linked.bounded.states)

    pub addable : Addable A.m A.to weight value
    addable t h = (omega (arith, o.linked.bounded.arrives t h, o.linked.bounded.states), light t, values-most (at A.to t))

    module _ {step : Step} (f : BestStep least A.m A.from A.to weight value (λ x. start_mark (at A.marks x)) step) where
      -- some start has a transition, and that weighs no more than `far`
      pub found : step.transition < none
      found = go (below_or_not step.transition none)
        where
          go : (step.transition < none) ⊎ (none ≤ step.transition) → step.transition < none
          go (inl b) = b
          go (inr b) =
              let (s, h, d) = o.started in
              let (t, l) = o.no_dead_end s h (o.ranked.starts s h d) in
              absurd (omega (arith, (f.missing b).1 t l.listed (rw l.source d), light t, v.most (at A.to t), o.ranked.count, o.linked.bounded.states))

      pub readable : Readable A head link weight close value (at A.to step.transition)
      readable = record {
        linked = o.linked;
        below = o.linked.bounded.arrives step.transition (f.found found).0;
        weights = λ t h. light t;
        values = λ x h. values-most x;
        inside = λ s. ltb 0 (at a.rank s);
        rank = at a.rank;
        leading = leading A o.linked.bounded a done o.ranked o.no_dead_end least weight close value v;
        within = within;
      }
        where
          within : UnfinishedIn A.marks (at A.to step.transition) → ltb 0 (at a.rank (at A.to step.transition)) ≡ true
          within u =
              let t = step.transition in
              let (l, d, e) = f.found found in
              let h = o.linked.bounded.leaves t l in
              lt-ltb 0 (at a.rank (at A.to t)) (onward-lower o.ranked (at A.from t) t h (o.ranked.starts (at A.from t) h d) (record { listed = l; source = refl }) u).0

      pub best-quoted : {g : Graph} → StandsIn A g → {k : ℕ} {before after : List ℕ} → length after ≡ length before → A.n ≤ length before
          → TracedBy A weight close value readable.rank step.transition k before after
          → Quoted (IsBest least g (cost_of weight close)) g (cost_of weight close) (number step.cost) k 0 before after
      unfolding readable
      best-quoted {g} held {k} {before} {after} long room x =
          best-shown A o.linked.bounded a done o.ranked o.no_dead_end least weight close value v g held step f found k before after (omega arith) x
