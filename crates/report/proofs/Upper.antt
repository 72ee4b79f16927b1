-- Procedure upper returns the greatest delay.
--
-- Before each turn R holds the states from which a walk goes through i unfinished states, one transition out of each,
-- and R' those for i + 1 (`Through`, `Behind`). At first that is so since every unfinished state has a transition out;
-- and a turn goes from R' to the unfinished states with a transition into R'. R has a start: at first since some state
-- is marked start, and later since a turn is taken only where R' has one. At the end, if R' is R, then every state of R
-- is unfinished and has a transition into R: from the start in R that goes on for ever. If R' is not R, then R' has no
-- start. So no walk from a start goes through more than i unfinished states: no route has more than i transitions, and
-- no walk is endless. And the walk from the start in R, through i unfinished states, ends in a final one, or else the
-- transition out of it would make it longer: a route of i transitions (`Longest`). No walk ends in a dead end, so what
-- is largest over all routes is the greatest figure, for any cost without open transitions (`largest-greatest`); and where
-- each transition lasts 1, none is open and i is the greatest delay. No start is final, so the states that a walk from one
-- goes through have the start among them (Apart.antt). Assumes nothing.
use Prim.Native.Nat.{ℕ, zero, suc, ◌≤◌, ◌<◌}
use mathlib.Core.Path.{◌≡◌, refl, sym, ◌∙◌, ap}
use mathlib.Core.Bool.{true, false, not, ◌&&◌, true≢false, and-eq-true_iff}
use mathlib.Core.Logic.{◌⊎◌, inl, inr, ◌↔◌}
use mathlib.Core.List.{List, [], ◌∷◌}
use native.Mathlib.Nat.{not-suc-le-zero, le_of_suc-le-suc}
use native.Mathlib.Numerals.{add-one}
use native.Mathlib.Decide.{dec_le}
use native.Mathlib.Omega.{arith}
use lib.ListN.{length}
use borrow.Author.Tests.{not-true, not-false}
use Rattle.graph.specs.declared.Which.TheVariants.{GreatestDelay}
use Rattle.graph.specs.Graph.{Graph, states, count, start, final, to, Departs, Final, Unfinished}
use Rattle.graph.specs.Walk.{Begins, reached, EndlessFrom}
use Rattle.graph.specs.Route.{RouteFrom, Route, StrandedFrom, Cost, total, highs, HasEndlessWalk}
use Rattle.graph.specs.Figure.{number, NoStart, Largest, IsGreatest, cost_for}
use Rattle.graph.proofs.Tests.{decided}
use Rattle.graph.proofs.Walks.{start-below}
use Rattle.graph.proofs.Cost.{total-length}
use Rattle.graph.proofs.Sentences.{no_heed}
use Rattle.report.specs.Procedure.{Returns}
use Rattle.report.specs.Sets.{◌∩◌, empty, same, T⁻¹}
use Rattle.report.specs.Bounds.{Bound, finite, ∞, Vars, upper}
use Rattle.report.specs.Agreement.{TotalPlan, ReportPlan, greatest_figure}
use Rattle.report.proofs.Loop.{returns_holds, goes_on, ended}
use Rattle.report.proofs.Sets.{of_empty, of_not_empty, of_same, same_comm, T⁻¹_of, in_T⁻¹}
use Rattle.report.proofs.Apart.{route-apart, stranded-apart, endless-apart}

-- from s a walk of k transitions goes, each out of an unfinished state
abbrev pub Through : Graph → ℕ → ℕ → Type 0
Through g zero s = Unit {0}
Through g (suc k) s = Unfinished g s × (t : ℕ) × Departs g s t × Through g k (to g t)

module _ (g : Graph) where
  -- a route of k transitions or more goes through k unfinished states, and an endless walk through any number
  route_through : (k s : ℕ) (ts : List ℕ) → RouteFrom g s ts → k ≤ length ts → Through g k s
  route_through zero s ts w h = tt
  route_through (suc k) s [] w h = absurd (not-suc-le-zero h)
  route_through (suc k) s (t ∷ ts) w h = (w.0, t, w.1, route_through k (to g t) ts w.2 (le_of_suc-le-suc h))

  endless_through : (s : ℕ) (taken : ℕ → ℕ) → EndlessFrom g s taken → (k i : ℕ) → Through g k (reached g s taken i)
  endless_through s taken e zero i = tt
  endless_through s taken e (suc k) i = (e.unfinished i, taken i, e.departs i, endless_through s taken e k (suc i))

  pub shorter : (k j s : ℕ) → Through g k s → j ≤ k → Through g j s
  shorter k zero s w h = tt
  shorter zero (suc j) s w h = absurd (not-suc-le-zero h)
  shorter (suc k) (suc j) s (u, t, d, w) h = (u, t, d, shorter k j (to g t) w (le_of_suc-le-suc h))

  record Behind (v : Vars) : Type 0 where
    now : (s : ℕ) → s < states g → (v.R s ≡ true) ↔ Through g v.i s
    next : (s : ℕ) → s < states g → (v.R' s ≡ true) ↔ Through g (suc v.i) s
    begun : (s : ℕ) × Begins g s × (v.R s ≡ true)

  -- k is the length of a longest route, and no walk from a start goes through more than k unfinished states
  pub record Longest (k : ℕ) : Type 0 where
    pub ends : (s : ℕ) → Begins g s → Through g (suc k) s → ⊥
    pub attained : (s : ℕ) × (ts : List ℕ) × Route g s ts × (length ts ≡ k)

  -- what a value says
  abbrev pub Says : Bound → Type 0
  Says (finite k) = Longest k
  Says ∞ = HasEndlessWalk g

module _ (g : Graph) (q : TotalPlan g) where
  at_first : Behind g (upper g).begin
  at_first = record {
    now = λ s l. (λ h. tt, λ w. refl);
    next = λ s l. (λ h. let u = not-true (final g s) h in let (t, d) = q.leaves s l u in (u, t, d, tt), λ w. ap not w.0);
    begun = (q.started.0, q.started.1, refl);
  }

  keep : (v : Vars) → Behind g v → (upper g).stop v ≡ false → Behind g ((upper g).rest v)
  keep v b h =
      let (moved, meets) = goes_on (not (same g v.R' v.R)) (not (empty g (v.R' ∩ start g))) h in
      let (s, l, m) = of_not_empty g (v.R' ∩ start g) (not-true (empty g (v.R' ∩ start g)) meets) in
      let (r, b') = (and-eq-true_iff (v.R' s) (start g s)).0 m in
      record {
        now = λ s l. rw (add-one v.i) (b.next s l);
        next = λ s l. rw (add-one v.i) (λ h. there s h, λ w. back s w);
        begun = (s, b', r);
      }
    where
      there : (s : ℕ) → (T⁻¹ g v.R' s && not (final g s)) ≡ true → Through g (suc (suc v.i)) s
      there s h =
          let (r, u) = (and-eq-true_iff (T⁻¹ g v.R' s) (not (final g s))).0 h in
          let (t, d, l, m) = T⁻¹_of g v.R' s r in
          (not-true (final g s) u, t, d, (b.next (to g t) l).0 m)

      back : (s : ℕ) → Through g (suc (suc v.i)) s → (T⁻¹ g v.R' s && not (final g s)) ≡ true
      back s (u, t, d, w) =
          let l : to g t < states g = q.closed t d.listed in
          (and-eq-true_iff (T⁻¹ g v.R' s) (not (final g s))).1 (in_T⁻¹ g v.R' s t l ((b.next (to g t) l).1 w) d, ap not u)

  -- the end, with R' the same as R
  module _ (v : Vars) (b : Behind g v) (still : same g v.R v.R' ≡ true) where
    -- a state of R, and the transition out of it into R
    abbrev In : Type 0
    In = (s : ℕ) × (s < states g) × (v.R s ≡ true)

    out : (x : In) → Through g (suc v.i) x.0
    out (s, l, m) = (b.next s l).0 (sym (of_same g v.R v.R' still s l) ∙ m)

    onward : In → In
    onward x = let (u, t, d, w) = out x in let l = q.closed t d.listed in (to g t, l, (b.now (to g t) l).1 w)

    walk : ℕ → In
    walk zero = let (s, b', m) = b.begun in (s, start-below g s b', m)
    walk (suc i) = onward (walk i)

    endless : HasEndlessWalk g
    unfolding out onward walk
    endless = (first, taken, (endless-apart g q first b.begun.1 taken).1 (b.begun.1, record { departs = departs; unfinished = unfinished }))
      where
        first : ℕ
        first = (walk 0).0

        taken : ℕ → ℕ
        taken i = (out (walk i)).1

        departs : (i : ℕ) → Departs g (reached g first taken i) (taken i)
        departs zero = (out (walk 0)).2
        departs (suc i) = (out (walk (suc i))).2

        unfinished : (i : ℕ) → Unfinished g (reached g first taken i)
        unfinished zero = (out (walk 0)).0
        unfinished (suc i) = (out (walk (suc i))).0

  -- the end, with no start in R'
  module _ (v : Vars) (b : Behind g v) (apart : empty g (v.R' ∩ start g) ≡ true) where
    no-further : (s : ℕ) → Begins g s → Through g (suc v.i) s → ⊥
    no-further s b' w =
        let l : s < states g = start-below g s b' in
        of_empty g (v.R' ∩ start g) apart s l ((and-eq-true_iff (v.R' s) (start g s)).1 ((b.next s l).1 w, b'))

    -- a walk through unfinished states that goes no further is a route
    ends-final : (k s : ℕ) → s < states g → Through g k s → (Through g (suc k) s → ⊥)
        → (ts : List ℕ) × RouteFrom g s ts × (length ts ≡ k)
    ends-final zero s l w no_more = go (decided (final g s))
      where
        go : (final g s ≡ true) ⊎ (final g s ≡ false) → (ts : List ℕ) × RouteFrom g s ts × (length ts ≡ 0)
        go (inl f) = ([], f, refl)
        go (inr u) = let (t, d) = q.leaves s l u in absurd (no_more (u, t, d, tt))
    ends-final (suc k) s l (u, t, d, w) no_more =
        let (ts, r, h) = ends-final k (to g t) (q.closed t d.listed) w (λ w'. no_more (u, t, d, w')) in
        (t ∷ ts, (u, d, r), ap suc h)

    longest : Longest g v.i
    longest =
        let (s, b', m) = b.begun in
        let l = start-below g s b' in
        let (ts, r, h) = ends-final v.i s l ((b.now s l).0 m) (no-further s b') in
        record { ends = no-further; attained = (s, ts, (route-apart g q s b' ts).1 (b', r), h) }

  end : (v : Vars) → Behind g v → (upper g).stop v ≡ true → Says g ((upper g).answer v)
  end v b h = go (decided (same g v.R v.R')) (ended (not (same g v.R' v.R)) (not (empty g (v.R' ∩ start g))) h)
    where
      go : (same g v.R v.R' ≡ true) ⊎ (same g v.R v.R' ≡ false)
          → (not (same g v.R' v.R) ≡ false) ⊎ (not (empty g (v.R' ∩ start g)) ≡ false)
          → Says g ((upper g).answer v)
      go (inl still) e = rw still (endless v b still)
      go (inr moved) (inl e) = absurd (true≢false (sym (not-false (same g v.R' v.R) e) ∙ same_comm g v.R' v.R ∙ moved))
      go (inr moved) (inr e) = rw moved (longest v b (not-false (empty g (v.R' ∩ start g)) e))

  pub upper_says : (b : Bound) → Returns (upper g) b → Says g b
  upper_says = returns_holds (upper g) (Behind g) (Says g) keep end at_first

  -- ---- what that says of the figures

  stranded : (s : ℕ) (ts : List ℕ) → s < states g → StrandedFrom g s ts → ⊥
  stranded s [] l w = let (t, d) = q.leaves s l w.unfinished in w.none-departs t d
  stranded s (t ∷ ts) l w = stranded (to g t) ts (q.closed t w.1.listed) w.2

  pub started : NoStart g → ⊥
  started none = none q.started.0 q.started.1

  -- of a number, no other kind of greatest figure applies, whatever the cost without open transitions: what is largest is greatest
  pub largest-greatest : (i : ℕ) → Longest g i → (c : Cost) → ((t : ℕ) → t < count g → c.unlimited t ≡ false) → (k : ℕ) → Largest g c k
      → IsGreatest g c (number k)
  largest-greatest i x c none k h = (
    started,
    (λ u. let (s, taken, e) = no_heed g c none u in x.ends s e.0 (endless_through g s taken ((endless-apart g q s e.0 taken).0 e).1 (suc i) 0)),
    (λ (s, ts, w). stranded s ts (start-below g s w.0) ((stranded-apart g q s w.0 ts).0 w).1),
    h,
  )

module _ (g : Graph) (q : ReportPlan g) where
  cost : (s : ℕ) (ts : List ℕ) → Route g s ts → total g (cost_for GreatestDelay g) s ts ≡ length ts
  cost s ts r = total-length g (highs g) (Unfinished g) (Final g) (λ t l. rw (q.highs-one t l)) (λ s. refl) s ts ((route-apart g q.total s r.0 ts).0 r).1

  no_longer : (i : ℕ) → Longest g i → (s : ℕ) (ts : List ℕ) → Route g s ts → length ts ≤ i
  no_longer i x s ts r = go (dec_le (suc i) (length ts))
    where
      go : Dec (i < length ts) → length ts ≤ i
      go (yes h) = absurd (x.ends s r.0 (route_through g (suc i) s ts ((route-apart g q.total s r.0 ts).0 r).1 h))
      go (no h) = omega arith

  greatest : (b : Bound) → Says g b → IsGreatest g (cost_for GreatestDelay g) (greatest_figure b)
  greatest ∞ e = (started g q.total, inl e)
  greatest (finite i) x =
      let (s, ts, r, h) = x.attained in
      largest-greatest g q.total i x (cost_for GreatestDelay g) (λ t l. rw (q.highs-one t l)) i (record {
        attained = (s, ts, r, cost s ts r ∙ h);
        bound = λ s ts r. omega (arith, cost s ts r, no_longer i x s ts r);
      })

  pub upper-greatest : (b : Bound) → Returns (upper g) b → IsGreatest g (cost_for GreatestDelay g) (greatest_figure b)
  upper-greatest b r = greatest b (upper_says g q.total b r)
