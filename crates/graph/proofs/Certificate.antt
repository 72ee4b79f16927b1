-- What a search has to leave behind so that its figures are right. About no code: values, ranks and choices are
-- functions on states.
--
-- 1. A bound on every route from a state, by induction on the route from its last state back: it holds of the close at
--    a final state, and is carried over each transition out of an unfinished one (`route-bound`). Least values are such
--    a bound from below (`least-values`), greatest values one from above (`greatest-values`).
-- 2. A rank that falls along the transitions to unfinished states, from the starts and the unfinished states that they reach: no walk among them is
--    longer than the rank of its first state, so none is endless (`no-endless`); where no open transition leaves one of
--    them, no walk takes one (`no_open`), and then none goes on forever (`no-forever`); and where each of them has a
--    transition out, none is a dead end (`no-stranded`). So every start leads to an answer (`rank-answers`), and there
--    is a greatest value (`rank-greatest`).
-- 3. A transition chosen at each unfinished state, that leads on with a lower rank and accounts for the value:
--    following the choices is a route that costs the value and visits no state twice (`follow`).
-- 4. A tree of the states found, each by a transition from a state found before it: it holds a walk from a start to
--    each, that visits no state twice (`tree_walk`). So it shows a dead end that was found, and an open transition that
--    leaves a state found (`tree_stranded`, `tree_open`).
-- 5. Together, what a best first step costs with the value where it leads, over all pairs of a start and a transition out of it, is the least figure
--    (`least-number`, `least-none`), or the greatest (`greatest-number`): the value of a start that is final is for walks that arrive there, and not for
--    those that begin there. And walks that may be shown prove the other kinds (`greatest-endless`, `greatest-stranded`).
--    For ENDLESS that walk is a search's stack with one transition more (`endless_by_places`).
-- Assumes nothing.
use Prim.Native.Nat.{ℕ, zero, suc, ◌+◌, ◌≤◌, ◌<◌}
use mathlib.Core.Path.{◌≡◌, refl, sym, ◌∙◌, ap, subst}
use mathlib.Core.Bool.{Bool, true, false, false≢true}
use mathlib.Core.List.{List, [], ◌∷◌, ◌++◌}
use mathlib.Core.Logic.{◌⊎◌, inl, inr}
use native.Mathlib.Nat.{not-suc-le-zero, le_of_suc-le-suc, le_refl, le_of_lt, le_of_eq}
use native.Mathlib.Omega.{arith}
use lib.ListN.{length}
use Rattle.graph.specs.Graph.{Graph, count, final, from, to, Departs, Final, Unfinished, NoneDeparts, DeadEnd, Closed}
use Rattle.graph.specs.Walk.{Begins, visits, arrival, UnfinishedFrom, UnfinishedWalk, Different, DifferentButEnds, reached, EndlessWalk}
use Rattle.graph.specs.Route.{RouteFrom, Route, LeadsToAnswer, StrandedWalk, HasEndlessWalk, HasOpenWalk, GoesOnForever, EndsUnanswered, Cost, total}
use Rattle.graph.specs.Figure.{Figure, number, NONE, STRANDED, ENDLESS, IsLeast, IsGreatest, LoopShown, Shown}
use Rattle.graph.specs.Compute.{greatest}
use Rattle.graph.proofs.Repeat.{nth, Apart, different-take, different_cons, different-one, different_snoc, Snoc}
use Rattle.graph.proofs.Repeat.{nth_snoc, different-ends_cons}
use Rattle.graph.proofs.Build.{arrival_snoc, visits_snoc, after_snoc, StepAt, walk_by_places, visits_by_places}
use Rattle.graph.proofs.Walks.{length-visits, state-after, state-last, passed, first-unfinished, after_with, after-stopped, after_last, after_of}
use Rattle.graph.proofs.Endless.{at-departs, at-unfinished, shown-endless}
use Rattle.graph.proofs.Open.{ring-shown}
use Rattle.graph.proofs.Greatest.{leads-to-answer, greatest-is}

-- ---- 1

module _ (g : Graph) (c : Cost) where
  pub route-bound : (Bound : ℕ → ℕ → Type 0) → ((s : ℕ) → Final g s → Bound s (c.close s))
      → ((s t x : ℕ) → Unfinished g s → Departs g s t → Bound (to g t) x → Bound s (c.step t + x))
      → (s : ℕ) (ts : List ℕ) → RouteFrom g s ts → Bound s (total g c s ts)
  route-bound Bound at-final over s [] r = at-final s r
  route-bound Bound at-final over s (t ∷ ts) r =
      over s t (total g c (to g t) ts) r.0 r.1 (route-bound Bound at-final over (to g t) ts r.2)

  -- values for the states that have one: at a final state at most the close; over a transition, at most its cost and
  -- the value behind it
  pub record LeastValues (Has : ℕ → Type 0) (value : ℕ → ℕ) : Type 0 where
    pub at-final : (s : ℕ) → Final g s → Has s × (value s ≤ c.close s)
    pub over : (s t : ℕ) → Unfinished g s → Departs g s t → Has (to g t)
        → Has s × (value s ≤ c.step t + value (to g t))

  -- whatever state a route begins at has a value, and the route costs no less
  pub least-values : (Has : ℕ → Type 0) (value : ℕ → ℕ) → LeastValues Has value → (s : ℕ) (ts : List ℕ)
      → RouteFrom g s ts
      → Has s × (value s ≤ total g c s ts)
  least-values Has value v = route-bound (λ s x. Has s × (value s ≤ x)) v.at-final over
    where
      over : (s t x : ℕ) → Unfinished g s → Departs g s t → Has (to g t) × (value (to g t) ≤ x)
          → Has s × (value s ≤ c.step t + x)
      over s t x u d (h, l) = let (h', l') = v.over s t u d h in (h', omega arith)

  -- values for the unfinished states of a set: at a final state at least the close; over a transition out of an unfinished one, at least its
  -- cost and the value behind it
  pub record GreatestValues (In : ℕ → Type 0) (value : ℕ → ℕ) : Type 0 where
    pub at-final : (s : ℕ) → Final g s → c.close s ≤ value s
    pub over : (s t : ℕ) → In s → Unfinished g s → Departs g s t → c.step t + value (to g t) ≤ value s

  -- where transitions lead from the set only to it and to final states, no route from it costs more
  pub greatest-values : (In : ℕ → Type 0) (value : ℕ → ℕ) → GreatestValues In value
      → ((s t : ℕ) → In s → Departs g s t → Unfinished g (to g t) → In (to g t))
      → (s : ℕ) (ts : List ℕ) → (Unfinished g s → In s) → RouteFrom g s ts → total g c s ts ≤ value s
  greatest-values In value v stays s ts i r =
      route-bound (λ s x. (Unfinished g s → In s) → x ≤ value s) (λ s f i. v.at-final s f) over s ts r i
    where
      over : (s t x : ℕ) → Unfinished g s → Departs g s t → ((Unfinished g (to g t) → In (to g t)) → x ≤ value (to g t))
          → (Unfinished g s → In s) → c.step t + x ≤ value s
      over s t x u d bound i = let h = bound (stays s t (i u) d) in omega (arith, v.over s t (i u) u d)

-- ---- 2

-- no open transition leaves a state of the set
abbrev pub Limited : Graph → (ℕ → Type 0) → Cost → Type 0
Limited g In c = (s t : ℕ) → In s → Departs g s t → c.unlimited t ≡ false

module _ (g : Graph) (In : ℕ → Type 0) (rank : ℕ → ℕ) where
  -- the set holds the starts and the unfinished states that they reach through unfinished ones, and the rank falls within it
  pub record FallingRank : Type 0 where
    pub begins : (s : ℕ) → Begins g s → In s
    pub onward : (s t : ℕ) → In s → Departs g s t → Unfinished g (to g t) → In (to g t) × (rank (to g t) < rank s)

  module _ (r : FallingRank) where
    in_and_falls : (s : ℕ) (taken : ℕ → ℕ) → EndlessWalk g s taken → (i : ℕ)
        → In (reached g s taken i) × (i + rank (reached g s taken i) ≤ rank s)
    in_and_falls s taken (b, e) zero = (r.begins s b, omega arith)
    in_and_falls s taken (b, e) (suc i) =
        let (here, l) = in_and_falls s taken (b, e) i in
        let (there, falls) = r.onward (reached g s taken i) (taken i) here (at-departs g s taken e i) (at-unfinished g s taken e i) in
        (there, omega arith)

    -- after so many steps the rank would be below 0
    pub no-endless : HasEndlessWalk g → ⊥
    no-endless (s, taken, e) = omega (arith, (in_and_falls s taken e (suc (rank s))).1)

    -- the last state of a walk of unfinished states from the set is in the set, and so is that of one from a start
    arrival_in : (s : ℕ) (ts : List ℕ) → In s → UnfinishedFrom g s ts → In (arrival g s ts)
    arrival_in s [] i w = i
    arrival_in s (t ∷ ts) i w = arrival_in (to g t) ts (r.onward s t i w.1 (first-unfinished g (to g t) ts w.2)).0 w.2

    begun_in : (s : ℕ) (ts : List ℕ) → UnfinishedWalk g s ts → In (arrival g s ts)
    begun_in s [] (b, w) = r.begins s b
    begun_in s (t ∷ ts) (b, (d, w)) = arrival_in (to g t) ts (r.onward s t (r.begins s b) d (first-unfinished g (to g t) ts w)).0 w

    module _ (c : Cost) (limited : Limited g In c) where
      pub no_open : HasOpenWalk g c → ⊥
      no_open (s, ts, w) =
          let here = begun_in s w.before w.unfinished in
          false≢true (sym (limited (arrival g s w.before) w.last here w.departs) ∙ w.unlimited)

      pub no-forever : GoesOnForever g c → ⊥
      no-forever (inl e) = no-endless e
      no-forever (inr w) = no_open w

    -- if each state of the set has a transition out: the last state of a walk to a dead end is a start alone, or unfinished, and in the set
    pub no-stranded : ((s : ℕ) → In s → (t : ℕ) × Departs g s t) → EndsUnanswered g → ⊥
    no-stranded out (s, ts, (b, w)) =
        let u = after_with g (NoneDeparts g) (Unfinished g) (DeadEnd g) (λ x. Unit) (Unfinished g) (λ x n. tt) (λ x d. d.unfinished) s ts w in
        let none = after-stopped g (NoneDeparts g) (Unfinished g) (DeadEnd g) (NoneDeparts g) (λ x n. n) (λ x d. d.none-departs) s ts w in
        let (t, d) = out (arrival g s ts) (begun_in s ts (b, u)) in
        none t d

    pub rank-answers : Closed g → ((s : ℕ) → In s → (t : ℕ) × Departs g s t) → (s : ℕ) → Begins g s → LeadsToAnswer g s
    rank-answers closed out = leads-to-answer g closed no-endless (no-stranded out)

    -- and there is a greatest value, where some state is marked start: no other kind is left for the figure
    pub rank-greatest : (c : Cost) → Limited g In c → Closed g → ((s : ℕ) → In s → (t : ℕ) × Departs g s t) → (s : ℕ) → Begins g s
        → (k : ℕ) × IsGreatest g c (number k)
    rank-greatest c limited closed out s b = go (greatest g c) (greatest-is g c closed)
      where
        go : (f : Figure) → IsGreatest g c f → (k : ℕ) × IsGreatest g c (number k)
        go (number k) u = (k, u)
        go NONE u = absurd (u s b)
        go ENDLESS u = absurd (no-forever c limited u.1)
        go STRANDED u = absurd (no-stranded out u.2)

-- ---- 3

module _ (g : Graph) (c : Cost) (In : ℕ → Type 0) (value rank : ℕ → ℕ) where
  -- the transition to take at s
  pub record Choice (s : ℕ) : Type 0 where
    pub next : ℕ
    pub departs : Departs g s next
    pub accounts : value s ≡ c.step next + value (to g next)
    pub onward : Unfinished g (to g next) → In (to g next) × (rank (to g next) < rank s)

  pub record Choices : Type 0 where
    pub at-final : (s : ℕ) → Final g s → value s ≡ c.close s
    pub choice : (s : ℕ) → In s → Unfinished g s → Choice s

  -- the route that the choices make
  pub record Followed (s : ℕ) : Type 0 where
    pub taken : List ℕ
    pub route : RouteFrom g s taken
    pub costs : total g c s taken ≡ value s
    pub falls : (i : ℕ) → i < length (visits g s taken) → Unfinished g (nth (visits g s taken) i)
        → Unfinished g s × (rank (nth (visits g s taken) i) ≤ rank s)
    pub different : Different (visits g s taken)

  module _ (p : Choices) where
    follow-final : (s : ℕ) → Final g s → Followed s
    follow-final s f = record {
      taken = [];
      route = f;
      costs = sym (p.at-final s f);
      falls = one;
      different = different-one s;
    }
      where
        one : (i : ℕ) → i < 1 → Unfinished g (nth (s ∷ []) i) → Unfinished g s × (rank (nth (s ∷ []) i) ≤ rank s)
        one zero h u = (u, le_refl (rank s))
        one (suc i) h u = absurd (not-suc-le-zero (le_of_suc-le-suc h))

    follow-on : (s : ℕ) → Unfinished g s → (q : Choice s) → Followed (to g q.next) → Followed s
    follow-on s u q f = record {
      taken = q.next ∷ f.taken;
      route = (u, q.departs, f.route);
      costs = ap (λ (x : ℕ). c.step q.next + x) f.costs ∙ sym q.accounts;
      falls = falls;
      different = different_cons s after new f.different;
    }
      where
        after : List ℕ
        after = visits g (to g q.next) f.taken

        -- an unfinished state behind s has a lower rank
        lower : (i : ℕ) → i < length after → Unfinished g (nth after i) → rank (nth after i) < rank s
        lower i h v = let (w, l) = f.falls i h v in omega (arith, (q.onward w).1)

        falls : (i : ℕ) → i < suc (length after) → Unfinished g (nth (s ∷ after) i)
            → Unfinished g s × (rank (nth (s ∷ after) i) ≤ rank s)
        falls zero h v = (u, le_refl (rank s))
        falls (suc i) h v = (u, le_of_lt (lower i (le_of_suc-le-suc h) v))

        new : (i : ℕ) → i < length after → nth after i ≡ s → ⊥
        new i h e = omega (arith, lower i h (rw e u), ap rank e)

    follow-within : (n s : ℕ) → (Unfinished g s → In s × (rank s < n)) → Followed s
    follow-within zero s i = here (final g s) refl
      where
        here : (b : Bool) → final g s ≡ b → Followed s
        here true e = follow-final s e
        here false e = absurd (not-suc-le-zero (i e).1)
    follow-within (suc n) s i = here (final g s) refl (λ x h. follow-within n x h)
      where
        here : (b : Bool) → final g s ≡ b → ((x : ℕ) → (Unfinished g x → In x × (rank x < n)) → Followed x) → Followed s
        here true e rest = follow-final s e
        here false e rest =
            let (inside, l) = i e in
            let q = p.choice s inside e in
            follow-on s e q (rest (to g q.next) (λ u. let (there, lower) = q.onward u in (there, omega arith)))

    pub follow : (s : ℕ) → (Unfinished g s → In s) → Followed s
    follow s i = follow-within (suc (rank s)) s (λ u. (i u, le_refl (suc (rank s))))

    -- after a first step from a start: where the start is unfinished, its rank is above that of the state behind
    abbrev pub Lower : ℕ → ℕ → Type 0
    Lower s t = Unfinished g s → Unfinished g (to g t) → rank (to g t) < rank s

    -- the start is none of the states behind that are unfinished, so it is at most the last
    ends-apart : (s t : ℕ) → Lower s t → (f : Followed (to g t)) → DifferentButEnds (visits g s (t ∷ f.taken))
    ends-apart s t lower f = different-ends_cons s behind new f.different
      where
        behind : List ℕ
        behind = visits g (to g t) f.taken

        new : (i : ℕ) → suc i < length behind → nth behind i ≡ s → ⊥
        new i h e =
            let u = passed g (Unfinished g) (Final g) (to g t) f.taken f.route i (omega (arith, length-visits g (to g t) f.taken)) in
            let (v, l) = f.falls i (omega arith) u in
            omega (arith, lower (subst (Unfinished g) e u) v, ap rank e)

    -- what begins with t costs what t costs, and the value behind; and the route is what 01 asks to be shown for that
    pub follow-shown : (s t : ℕ) → Begins g s → Departs g s t → (Unfinished g (to g t) → In (to g t)) → Lower s t
        → (ts : List ℕ) × Shown g c (number (c.step t + value (to g t))) ts 0
    follow-shown s t b d i lower =
        let f = follow (to g t) i in
        (t ∷ f.taken, (s, (b, (d, f.route)), ap (λ (x : ℕ). c.step t + x) f.costs, ends-apart s t lower f, refl))

-- ---- 4

-- a walk of unfinished states to one that no transition leaves is a walk to a dead end
pub ends_nowhere : (g : Graph) (s : ℕ) (ts : List ℕ) → UnfinishedWalk g s ts → NoneDeparts g (arrival g s ts) → StrandedWalk g s ts
ends_nowhere g s ts (b, w) none = (
  b,
  after_last g (λ x. Unit) (Unfinished g) (Unfinished g) (NoneDeparts g) (DeadEnd g) (NoneDeparts g) (λ x n. n)
      (λ x u n. record { unfinished = u; none-departs = n }) s ts w none,
)

module _ (g : Graph) (In : ℕ → Type 0) (order : ℕ → ℕ) where
  -- the transition by which s was found, from a state that was found before it
  pub record FoundBy (s : ℕ) : Type 0 where
    pub via : ℕ
    pub listed : via < count g
    pub arrives : to g via ≡ s
    pub inside : In (from g via)
    pub earlier : order (from g via) < order s
    pub unfinished : Unfinished g s

  -- each state found is a start, final or not, or was found so
  pub record Tree : Type 0 where
    pub origin : (s : ℕ) → In s → Begins g s ⊎ FoundBy s

  -- an unfinished walk from a start to s, that visits no state twice
  pub record TreeWalk (s : ℕ) : Type 0 where
    pub first : ℕ
    pub taken : List ℕ
    pub walk : UnfinishedWalk g first taken
    pub arrives : arrival g first taken ≡ s
    pub rises : (i : ℕ) → i < length (visits g first taken) → order (nth (visits g first taken) i) ≤ order s
    pub different : Different (visits g first taken)

  module _ (p : Tree) where
    from_start : (s : ℕ) → In s → Begins g s → TreeWalk s
    from_start s i b = record {
      first = s;
      taken = [];
      walk = (b, tt);
      arrives = refl;
      rises = one;
      different = different-one s;
    }
      where
        one : (i : ℕ) → i < 1 → order (nth (s ∷ []) i) ≤ order s
        one zero h = le_refl (order s)
        one (suc i) h = absurd (not-suc-le-zero (le_of_suc-le-suc h))

    one_further : (s : ℕ) → In s → (f : FoundBy s) → TreeWalk (from g f.via) → TreeWalk s
    one_further s i f q = record {
      first = q.first;
      taken = q.taken ++ (f.via ∷ []);
      walk = (
        q.walk.0,
        after_snoc g (λ x. Unit) (Unfinished g) (Unfinished g) (Unfinished g) q.first q.taken f.via q.walk.1 (λ x u. u)
            (record { listed = f.listed; source = sym q.arrives }) (rw f.arrives f.unfinished),
      );
      arrives = arrival_snoc g q.first q.taken f.via ∙ f.arrives;
      rises = rw (visits_snoc g q.first q.taken f.via) rises;
      different = rw (visits_snoc g q.first q.taken f.via) (different_snoc before (to g f.via) new q.different);
    }
      where
        before : List ℕ
        before = visits g q.first q.taken

        lower : (k : ℕ) → k < length before → order (nth before k) < order s
        lower k h = omega (arith, q.rises k h, f.earlier)

        rises : (k : ℕ) → k < length (before ++ (to g f.via ∷ []))
            → order (nth (before ++ (to g f.via ∷ [])) k) ≤ order s
        rises k h = go (nth_snoc before (to g f.via) k h)
          where
            go : Snoc before (to g f.via) k → order (nth (before ++ (to g f.via ∷ [])) k) ≤ order s
            go (inl u) = rw u.1 (le_of_lt (lower k u.0))
            go (inr u) = le_of_eq (ap order (u.1 ∙ f.arrives))

        new : (k : ℕ) → k < length before → nth before k ≡ to g f.via → ⊥
        new k h e = omega (arith, lower k h, ap order (e ∙ f.arrives))

    tree_within : (n s : ℕ) → In s → order s < n → TreeWalk s
    tree_within zero s i h = absurd (not-suc-le-zero h)
    tree_within (suc n) s i h = go (λ x j l. tree_within n x j l) (p.origin s i)
      where
        go : ((x : ℕ) → In x → order x < n → TreeWalk x) → Begins g s ⊎ FoundBy s → TreeWalk s
        go rest (inl b) = from_start s i b
        go rest (inr f) = one_further s i f (rest (from g f.via) f.inside (omega (arith, f.earlier)))

    pub tree_walk : (s : ℕ) → In s → TreeWalk s
    tree_walk s i = tree_within (suc (order s)) s i (le_refl (suc (order s)))

    -- a state found that no transition leaves: the walk to it is what 01 asks to be shown for STRANDED
    pub tree_stranded : (c : Cost) (s : ℕ) → In s → NoneDeparts g s
        → (ts : List ℕ) × Shown g c STRANDED ts 0
    tree_stranded c s i none-departs =
        let q = tree_walk s i in
        (q.taken, (q.first, ends_nowhere g q.first q.taken q.walk (rw q.arrives none-departs), q.different, refl))

    -- a state found that an open transition leaves: the walk to it and the transition are what E2 asks to be shown for ENDLESS
    pub tree_open : (c : Cost) (s t : ℕ) → In s → Departs g s t → c.unlimited t ≡ true → (ts : List ℕ) × Shown g c ENDLESS ts (length ts)
    tree_open c s t i d o =
        let q = tree_walk s i in
        (q.taken ++ (t ∷ []), inr (ring-shown g c q.first q.taken q.walk q.different t (rw q.arrives d) o))

-- ---- 5

module _ (g : Graph) (c : Cost) (In : ℕ → Type 0) (value rank : ℕ → ℕ) where
  -- the least over all pairs of a start and a transition out of it
  pub least-number : LeastValues g c In value → Choices g c In value rank
      → (s t : ℕ) → Begins g s → Departs g s t → In (to g t)
      → ((x u : ℕ) → Begins g x → Departs g x u → In (to g u) → c.step t + value (to g t) ≤ c.step u + value (to g u))
      → IsLeast g c (number (c.step t + value (to g t)))
  least-number v p s t b d i best = record {
    attained = let f = follow g c In value rank p (to g t) (λ u. i) in (s, t ∷ f.taken, (b, (d, f.route)), ap (λ (x : ℕ). c.step t + x) f.costs);
    bound = bound;
  }
    where
      bound : (x : ℕ) (ts : List ℕ) → Route g x ts → c.step t + value (to g t) ≤ total g c x ts
      bound x [] (b, r) = absurd r
      bound x (u ∷ ts) (b, (e, r)) = let (h, l) = least-values g c In value v (to g u) ts r in omega (arith, best x u b e h)

  -- the greatest over all pairs
  pub greatest-number : FallingRank g In rank → Limited g In c → GreatestValues g c In value → Choices g c In value rank
      → (s t : ℕ) → Begins g s → Departs g s t
      → ((x u : ℕ) → Begins g x → Departs g x u → c.step u + value (to g u) ≤ c.step t + value (to g t)) → ((x : ℕ) → In x → (u : ℕ) × Departs g x u)
      → IsGreatest g c (number (c.step t + value (to g t)))
  greatest-number r limited v p s t b d best out = (
    λ no_start. no_start s b,
    no-forever g In rank r c limited,
    no-stranded g In rank r out,
    record {
      attained = let f = follow g c In value rank p (to g t) (stays s t (r.begins s b) d) in (s, t ∷ f.taken, (b, (d, f.route)), ap (λ (x : ℕ). c.step t + x) f.costs);
      bound = bound;
    },
  )
    where
      stays : (x t : ℕ) → In x → Departs g x t → Unfinished g (to g t) → In (to g t)
      stays x t i d u = (r.onward x t i d u).0

      bound : (x : ℕ) (ts : List ℕ) → Route g x ts → total g c x ts ≤ c.step t + value (to g t)
      bound x [] (b, q) = absurd q
      bound x (u ∷ ts) (b, (e, q)) =
          omega (arith, best x u b e, greatest-values g c In value v stays (to g u) ts (stays x u (r.begins x b) e) q)

module _ (g : Graph) (c : Cost) where
  -- no transition out of a start leads to a state with a value: there is no route
  pub least-none : (Has : ℕ → Type 0) (value : ℕ → ℕ) → LeastValues g c Has value → ((s t : ℕ) → Begins g s → Departs g s t → Has (to g t) → ⊥) → IsLeast g c NONE
  least-none Has value v none s [] (b, r) = r
  least-none Has value v none s (t ∷ ts) (b, (d, r)) = none s t b d (least-values g c Has value v (to g t) ts r).0

  -- a walk that is shown for ENDLESS
  pub greatest-endless : (ts : List ℕ) (j : ℕ) → Shown g c ENDLESS ts j → IsGreatest g c ENDLESS
  greatest-endless ts j (inl shown) = (
    λ no_start. no_start shown.0 shown.1.0,
    let (s, taken, e, front) = shown-endless g ts j shown in inl (s, taken, e),
  )
  greatest-endless ts j (inr (s, w, e, d)) = (λ no_start. no_start s w.unfinished.0, inr (s, ts, w))

  -- a walk that is shown for STRANDED, where the rank falls
  pub greatest-stranded : (In : ℕ → Type 0) (rank : ℕ → ℕ) → FallingRank g In rank → Limited g In c → (ts : List ℕ) (j : ℕ)
      → Shown g c STRANDED ts j → IsGreatest g c STRANDED
  greatest-stranded In rank r limited ts j shown = (λ no_start. no_start shown.0 shown.1.0, no-forever g In rank r c limited, (shown.0, ts, shown.1))

-- a loop by its places, as on a search's stack: k transitions from a start to states that are unfinished, the k states that they leave differ, and the state
-- after them is the one at place j
pub endless_by_places : (g : Graph) (state : ℕ → ℕ) (ts : List ℕ) → Begins g (state 0)
    → ((i : ℕ) → i < length ts → StepAt g (λ x. Unit) (λ x. Unit) state ts i) → ((i : ℕ) → i < length ts → Unfinished g (state (suc i)))
    → (j : ℕ) → j < length ts → state (length ts) ≡ state j → Apart state (length ts) → LoopShown g ts j
endless_by_places g state ts b at unfinished j l same apart =
    let s = state 0 in
    let here = visits_by_places g (λ x. Unit) (λ x. Unit) state ts at in
    let at_j = state-after g s ts j (le_of_lt l) in
    let later : (i : ℕ) → i < length ts → Unfinished g (nth (visits g s ts) (suc i)) = λ i h. rw (here (suc i) h) (unfinished i h) in (
      s,
      (
        b,
        after_of g (λ x. Unit) (Unfinished g) (Unfinished g) s ts (walk_by_places g (λ x. Unit) (λ x. Unit) state ts at tt) (λ e. tt)
            (λ i h. later i (omega arith)) (λ h. last-unfinished later h),
      ),
      l,
      sym (state-last g s ts) ∙ here (length ts) (le_refl (length ts)) ∙ same ∙ sym (here j (le_of_lt l)) ∙ at_j,
      different-take (visits g s ts) (length ts) (λ i i' o h e. apart i i' o h (sym (here i (omega arith)) ∙ e ∙ here i' (le_of_lt h))),
    )
  where
    last-unfinished : ((i : ℕ) → i < length ts → Unfinished g (nth (visits g (state 0) ts) (suc i))) → 0 < length ts → Unfinished g (arrival g (state 0) ts)
    last-unfinished later h = go (length ts) refl h
      where
        go : (k : ℕ) → length ts ≡ k → 0 < k → Unfinished g (arrival g (state 0) ts)
        go zero e z = absurd (not-suc-le-zero z)
        go (suc i) e z = subst (Unfinished g) (sym (ap (nth (visits g (state 0) ts)) e) ∙ state-last g (state 0) ts) (later i (omega arith))
