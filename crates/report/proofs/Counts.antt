-- Procedures mincount and maxcount return the least and the greatest count, wherever upper is finite: one argument for
-- both.
--
-- The report's two invariants, said of routes (`Counted`). A route is met at a pair ⟨s, k⟩ of R if it goes on from s,
-- and its count is k with what is still to come after s (`Met`). Before each turn:
-- * every route is met at a pair of R, or its count is covered by what is current (`complete`);
-- * a route from the state of a pair of R is the end of a route from a start that is met there (`sound`);
-- * what is current, if it is a number, is what some route counts (`attained`).
-- A route met at a final state ends there, and its count is the pair's number, which the turn covers. One met at an
-- unfinished state goes on by a transition, to a pair of T(R'). At the end R' is empty, so every route is covered; and
-- upper is finite, so there is a route, and what is current is a number. The loop ends, since after j turns the state
-- of a pair of R is j transitions from a start, through unfinished states, and upper's number says how many those can
-- be (`Far`). Assumes nothing.
use Prim.Native.Nat.{ℕ, suc, ◌+◌, ◌<◌}
use mathlib.Core.Path.{◌≡◌, refl, sym, ◌∙◌, ap}
use mathlib.Core.Bool.{true, false, not, true≢false}
use mathlib.Core.Logic.{◌⊎◌, inl, inr}
use mathlib.Core.List.Memᴰ
use mathlib.Core.List.{List, [], ◌∷◌}
use native.Mathlib.Nat.{add-suc, suc-add, zero-add}
use native.Mathlib.Decide.{dec_le}
use native.Mathlib.Omega.{arith}
use borrow.Author.Tests.{not-true, not-false, ltb-true, ltb-false}
use Rattle.graph.specs.Graph.{Graph, states, final, to, Departs, Unfinished}
use Rattle.graph.specs.Walk.{Begins}
use Rattle.graph.specs.Route.{RouteFrom, Route, total, counts, one}
use Rattle.graph.specs.Compute.{nonempty}
use Rattle.graph.specs.Figure.{number, Attained, Extreme, IsLeast, IsGreatest}
use Rattle.graph.proofs.Walks.{start-below}
use Rattle.graph.proofs.Listed.{◌∈◌, of_nonempty, in_nonempty}
use Rattle.graph.proofs.Extreme.{AtMost, AtLeast, picks-min, picks_max}
use Rattle.report.specs.Procedure.{Returns}
use Rattle.report.specs.Sets.{States, not_final_lem}
use Rattle.report.specs.Bounds.{Bound, finite, ∞, upper}
use Rattle.report.specs.Counts.{Pairs, at, Tₐ, Side, minimal, maximal, numbers, Vars, counting, mincount}
use Rattle.report.specs.Counts.{maxcount}
use Rattle.report.specs.Agreement.{TotalPlan}
use Rattle.report.proofs.Loop.{returns_holds, returns_some}
use Rattle.report.proofs.Sets.{N_of, in_N}
use Rattle.report.proofs.Apart.{route-apart}
use Rattle.report.proofs.Upper.{Through, shorter, Longest, upper_says, largest-greatest}
use Rattle.report.proofs.Pairs.{of_at, in_at, of_first, in_first, of_Tₐ, in_Tₐ, Follows}
use Rattle.report.proofs.Current.{Sided, Covers, When, covers_new, covers_old, remains}

module _ (g : Graph) (c : States) where
  -- what a route from s counts
  abbrev counted_on : ℕ → List ℕ → ℕ
  counted_on s ts = total g (counts g c) s ts

  -- the route from s₀ by ts₀ is met at the pair u, with ts still to come. The state of u is counted in both numbers on
  -- the right.
  record Met (s₀ : ℕ) (ts₀ : List ℕ) (u : ℕ × ℕ) (ts : List ℕ) : Type 0 where
    begun : Route g s₀ ts₀
    onward : RouteFrom g u.0 ts
    split : counted_on s₀ ts₀ + one (c u.0) ≡ u.1 + counted_on u.0 ts

  -- a transition further, at a pair that N_a allows
  further : (s₀ : ℕ) (ts₀ : List ℕ) (u u' : ℕ × ℕ) (t : ℕ) (ts : List ℕ) → to g t ≡ u'.0 → Follows g c u u'
      → Met s₀ ts₀ u (t ∷ ts) → Met s₀ ts₀ u' ts
  further s₀ ts₀ u u' t ts e f m = record {
    begun = m.begun;
    onward = rw e at m.onward.2;
    split = omega (arith, m.split, f.adds, ap (λ (s : ℕ). one (c s)) m.onward.1.source, ap (λ (s : ℕ). counted_on s ts) e);
  }

  -- at the end of the route
  arrived : (s₀ : ℕ) (ts₀ : List ℕ) (u : ℕ × ℕ) → Met s₀ ts₀ u [] → counted_on s₀ ts₀ ≡ u.1
  arrived s₀ ts₀ u m = omega (arith, m.split)

  -- it is met at a pair of U, and goes on from there
  abbrev Onward : ℕ → List ℕ → Pairs → Type 0
  Onward s₀ ts₀ U = (u : ℕ × ℕ) × (u ∈ U) × (t : ℕ) × (ts : List ℕ) × Met s₀ ts₀ u (t ∷ ts)

  module _ (z : Side) (before : ℕ → ℕ → Type 0) (Z : Sided z before) where
    record Counted (v : Vars) : Type 0 where
      sound : (u : ℕ × ℕ) → u ∈ v.R → (ts : List ℕ) → RouteFrom g u.0 ts
          → (s₀ : ℕ) × (ts₀ : List ℕ) × Met s₀ ts₀ u ts
      complete : (s₀ : ℕ) (ts₀ : List ℕ) → Route g s₀ ts₀
          → Covers before v.current (counted_on s₀ ts₀) ⊎ ((u : ℕ × ℕ) × (u ∈ v.R) × (ts : List ℕ) × Met s₀ ts₀ u ts)
      attained : When (Attained g (counts g c)) v.current

    at_first : TotalPlan g → Counted (counting z g c).begin
    at_first q = record {
      sound = λ u m ts w.
          let (l, b, k) = of_first g c m in
          (u.0, ts, record { begun = (route-apart g q u.0 b ts).1 (b, w); onward = w; split = omega arith });
      complete = λ s ts r.
          let m = in_first g c s (start-below g s r.0) r.0 in
          inr ((s, one (c s)), m, ts, record { begun = r; onward = ((route-apart g q s r.0 ts).0 r).1; split = omega arith });
      attained = tt;
    }

    -- a turn, up to its test
    module _ (v : Vars) (b : Counted v) where
      now : Vars
      now = (counting z g c).first v

      attained-now : When (Attained g (counts g c)) now.current
      unfolding now
      attained-now = remains z before Z (Attained g (counts g c)) v.current (numbers (at (final g) v.R)) reached b.attained
        where
          reached : (k : ℕ) → k ∈ numbers (at (final g) v.R) → Attained g (counts g c) k
          reached k m =
              let (u, n, h) = Memᴰ.of_map (λ (u : ℕ × ℕ). u.1) (at (final g) v.R) m in
              let (f, o) = of_at (final g) v.R n in
              let (s₀, ts₀, met) = b.sound u o [] f in
              (s₀, ts₀, met.begun, arrived s₀ ts₀ u met ∙ h)

      complete-now : (s₀ : ℕ) (ts₀ : List ℕ) → Route g s₀ ts₀
          → Covers before now.current (counted_on s₀ ts₀) ⊎ Onward s₀ ts₀ now.R'
      unfolding now
      complete-now s₀ ts₀ r = go (b.complete s₀ ts₀ r)
        where
          go : Covers before v.current (counted_on s₀ ts₀) ⊎ ((u : ℕ × ℕ) × (u ∈ v.R) × (ts : List ℕ) × Met s₀ ts₀ u ts)
              → Covers before now.current (counted_on s₀ ts₀) ⊎ Onward s₀ ts₀ now.R'
          go (inl o) = inl (covers_old z before Z v.current (numbers (at (final g) v.R)) (counted_on s₀ ts₀) o)
          go (inr (u, m, [], met)) =
              let n = in_at (final g) v.R m met.onward in
              let reached : u.1 ∈ numbers (at (final g) v.R) = Memᴰ.map (λ (u : ℕ × ℕ). u.1) n in
              inl (rw (arrived s₀ ts₀ u met) (covers_new z before Z v.current (numbers (at (final g) v.R)) u.1 reached))
          go (inr (u, m, t ∷ ts, met)) = inr (u, in_at (not_final_lem g) v.R m (ap not met.onward.0), t, ts, met)

    -- a pair of T(R') comes from a pair of R' by a transition out of its unfinished state
    back : (v : Vars) {u' : ℕ × ℕ} → u' ∈ Tₐ g c (at (not_final_lem g) v.R)
        → (u : ℕ × ℕ) × (u ∈ v.R) × Unfinished g u.0 × (t : ℕ) × Departs g u.0 t × (to g t ≡ u'.0)
        × Follows g c u u' × (u'.0 < states g)
    back v {u'} m =
        let (u, n, l, f) = of_Tₐ g c (at (not_final_lem g) v.R) m in
        let (y, o) = of_at (not_final_lem g) v.R n in
        let (t, d, a) = N_of g u.0 u'.0 f.joined in
        (u, o, not-true (final g u.0) y, t, d, a, f, l)

    module _ (q : TotalPlan g) where
      keep : (v : Vars) → Counted v → (counting z g c).stop ((counting z g c).first v) ≡ false
          → Counted ((counting z g c).rest ((counting z g c).first v))
      unfolding now
      keep v b h = record {
        sound = sound-next;
        complete = λ s₀ ts₀ r. complete-next s₀ ts₀ (complete-now v b s₀ ts₀ r);
        attained = attained-now v b;
      }
        where
          sound-next : (u' : ℕ × ℕ) → u' ∈ Tₐ g c (at (not_final_lem g) v.R) → (ts : List ℕ) → RouteFrom g u'.0 ts
              → (s₀ : ℕ) × (ts₀ : List ℕ) × Met s₀ ts₀ u' ts
          sound-next u' m ts w =
              let (u, n, f, t, d, a, k, l) = back v m in
              let (s₀, ts₀, met) = b.sound u n (t ∷ ts) (f, d, rw a w) in
              (s₀, ts₀, further s₀ ts₀ u u' t ts a k met)

          complete-next : (s₀ : ℕ) (ts₀ : List ℕ)
              → Covers before (now v b).current (counted_on s₀ ts₀) ⊎ Onward s₀ ts₀ (now v b).R'
              → Covers before (now v b).current (counted_on s₀ ts₀) ⊎ ((u : ℕ × ℕ) × (u ∈ Tₐ g c (at (not_final_lem g) v.R)) × (ts : List ℕ) × Met s₀ ts₀ u ts)
          complete-next s₀ ts₀ (inl o) = inl o
          complete-next s₀ ts₀ (inr (u, m, t, ts, met)) =
              let d = met.onward.1 in
              let u' : ℕ × ℕ = (to g t, u.1 + one (c (to g t))) in
              let f : Follows g c u u' = record { joined = in_N g u.0 t d; adds = refl } in
              inr (u', in_Tₐ g c (at (not_final_lem g) v.R) u' m (q.closed t d.listed) f, ts, further s₀ ts₀ u u' t ts refl f met)

      -- at the end every route is covered, and some route counts what is returned
      record Answered (b : Bound) : Type 0 where
        all : (s₀ : ℕ) (ts₀ : List ℕ) → Route g s₀ ts₀ → Covers before b (counted_on s₀ ts₀)
        attained : When (Attained g (counts g c)) b

      end : (v : Vars) → Counted v → (counting z g c).stop ((counting z g c).first v) ≡ true
          → Answered ((counting z g c).first v).current
      unfolding now
      end v b h = record { all = λ s₀ ts₀ r. go s₀ ts₀ (complete-now v b s₀ ts₀ r); attained = attained-now v b }
        where
          go : (s₀ : ℕ) (ts₀ : List ℕ)
              → Covers before (now v b).current (counted_on s₀ ts₀) ⊎ Onward s₀ ts₀ (now v b).R'
              → Covers before (now v b).current (counted_on s₀ ts₀)
          go s₀ ts₀ (inl o) = o
          go s₀ ts₀ (inr (u, m, t, ts, met)) =
              absurd (true≢false (sym (in_nonempty (at (not_final_lem g) v.R) m) ∙ not-true (nonempty (at (not_final_lem g) v.R)) h))

      -- a number that covers every route, where there is one
      extreme : (b : Bound) → Answered b → (s : ℕ) (ts : List ℕ) → Route g s ts
          → (k : ℕ) × (b ≡ finite k) × Extreme before g (counts g c) k
      extreme (finite k) a s ts r = (k, refl, record { attained = a.attained; bound = a.all })
      extreme ∞ a s ts r = absurd (a.all s ts r)

      -- ---- the loop ends

      -- after j turns, a walk on from a state of R is j transitions longer from a start
      record Far (j : ℕ) (v : Vars) : Type 0 where
        inside : (u : ℕ × ℕ) → u ∈ v.R → u.0 < states g
        behind : (u : ℕ × ℕ) → u ∈ v.R → (k : ℕ) → Through g k u.0 → (s₀ : ℕ) × Begins g s₀ × Through g (j + k) s₀

      far-first : Far 0 (counting z g c).begin
      far-first = record {
        inside = λ u m. (of_first g c m).0;
        behind = λ u m k w. (u.0, (of_first g c m).1, rw zero-add w);
      }

      far-next : (j : ℕ) (v : Vars) → Far j v → Far (suc j) ((counting z g c).rest ((counting z g c).first v))
      far-next j v f = record {
        inside = λ u' m. (back v m).7;
        behind = λ u' m k w.
            let (u, n, o, t, d, a, e, l) = back v m in
            let (s₀, b, w') = f.behind u n (suc k) (o, t, d, rw a w) in
            (s₀, b, rw (suc-add j k) (rw (add-suc j k) at w'));
      }

      -- upper's number i: no walk from a start goes through more than i unfinished states
      module _ (i : ℕ) (short : (s : ℕ) → Begins g s → Through g (suc i) s → ⊥) where
        -- if R' is not empty after j turns, then j is below i
        not_yet : (j : ℕ) (v : Vars) → Far j v → (counting z g c).stop ((counting z g c).first v) ≡ false → j < i
        not_yet j v f h =
            let (u, m) = of_nonempty (at (not_final_lem g) v.R) (not-false (nonempty (at (not_final_lem g) v.R)) h) in
            let (y, n) = of_at (not_final_lem g) v.R m in
            let o : Unfinished g u.0 = not-true (final g u.0) y in
            let (t, d) = q.leaves u.0 (f.inside u n) o in
            let (s₀, b, w) = f.behind u n 1 (o, t, d, tt) in
            go s₀ b w (dec_le (suc j) i)
          where
            go : (s₀ : ℕ) → Begins g s₀ → Through g (j + 1) s₀ → Dec (j < i) → j < i
            go s₀ b w (yes l) = l
            go s₀ b w (no l) = absurd (short s₀ b (shorter g (j + 1) (suc i) s₀ w (omega arith)))

        Left : ℕ → Vars → Type 0
        Left k v = (j : ℕ) × (j + k ≡ i) × Far j v

        some_run : (b : Bound) × Returns (counting z g c) b
        unfolding Left
        some_run =
            returns_some (counting z g c) Left
            (λ k v (j, e, f) h. (suc j, omega arith, far-next j v f))
            (λ v (j, e, f) h. omega (arith, not_yet j v f h))
            i (0, omega arith, far-first)

        -- so where there is a route it returns what it is to return
        returns : (s : ℕ) (ts : List ℕ) → Route g s ts
            → (k : ℕ) × Returns (counting z g c) (finite k) × Extreme before g (counts g c) k
        returns s ts r =
            let (b, run) = some_run in
            let (k, e, x) = extreme b (returns_holds (counting z g c) Counted Answered keep end (at_first q) b run) s ts r in
            (k, rw e at run, x)

-- ---- the two figures

sided_min : Sided minimal AtMost
sided_min = record {
  picks = picks-min;
  better-before = λ m k h. omega (arith, ltb-true m k h);
  else_after = λ m k h. omega (arith, ltb-false m k h);
}

sided_max : Sided maximal AtLeast
sided_max = record {
  picks = picks_max;
  better-before = λ m k h. omega (arith, ltb-true k m h);
  else_after = λ m k h. omega (arith, ltb-false k m h);
}

module _ (g : Graph) (q : TotalPlan g) (i : ℕ) (u : Returns (upper g) (finite i)) (c : States) where
  longest : Longest g i
  longest = upper_says g q (finite i) u

  counted_by : (z : Side) (before : ℕ → ℕ → Type 0) → Sided z before
      → (k : ℕ) × Returns (counting z g c) (finite k) × Extreme before g (counts g c) k
  counted_by z before Z = let (s, ts, r, h) = longest.attained in returns g c z before Z q i longest.ends s ts r

  pub mincount_returns : (k : ℕ) × Returns (mincount g c) (finite k) × IsLeast g (counts g c) (number k)
  mincount_returns = counted_by minimal AtMost sided_min

  pub maxcount_returns : (k : ℕ) × Returns (maxcount g c) (finite k) × IsGreatest g (counts g c) (number k)
  maxcount_returns =
      let (k, run, y) = counted_by maximal AtLeast sided_max in
      (k, run, largest-greatest g q i longest (counts g c) (λ t l. refl) k y)
