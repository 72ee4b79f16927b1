-- The greatest figure exists, is one, and can be shown: for any cost.
--
-- 1. Each of the tests says yes exactly when what it asks for exists. An endless walk exists exactly when a first step from a start and n transitions
--    through unfinished states after it can be walked (Endless.antt). A walk to a dead end has a simple one, of
--    at most n transitions, and so has one to a state that an open transition leaves (Open.antt). A call can go on
--    forever where one of the two walks exists (`goes_on`).
-- 2. Where neither an endless walk nor a walk to a dead end exists, every start leads to an answer: a transition leaves it; walk on from where that leads,
--    and within n transitions it ends in a final state, as it can neither be stuck nor go on (`go_on`).
-- 3. There, too, every route visits no state twice but for its ends (`route-simple`), so its cost is listed: the largest of the list is the largest over all
--    routes. By 2 the list is not empty.
-- 4. So what is computed is the greatest figure (`greatest-is`); each kind excludes the ones after it, so it is the
--    only one (`greatest_unique`); and each kind can be shown (`greatest-shown`).
-- Assumes nothing.
use Prim.Native.Nat.{ℕ, zero, suc, max}
use mathlib.Core.Path.{◌≡◌, refl, sym, ◌∙◌, ap, subst}
use mathlib.Core.Bool.{Bool, true, false, not, cond, ◌||◌, false≢true}
use mathlib.Core.Logic.{◌⊎◌, inl, inr}
use mathlib.Core.List.{List, [], ◌∷◌}
use native.Mathlib.Nat.{le_of_eq, le_refl}
use lib.ListN.{length}
use borrow.Author.Tests.{not-true}
use Rattle.graph.specs.Graph.{Graph, states, start, final, to, Departs, Final, Unfinished, NoneDeparts, DeadEnd, Closed}
use Rattle.graph.specs.Walk.{Begins, AfterStart, visits, arrival, UnfinishedFrom, Different, DifferentButEnds, EndlessFrom}
use Rattle.graph.specs.Route.{RouteFrom, Route, LeadsToAnswer, StrandedFrom, StrandedWalk, HasEndlessWalk, GoesOnForever, EndsUnanswered}
use Rattle.graph.specs.Route.{Cost, total}
use Rattle.graph.specs.Figure.{Figure, number, NONE, STRANDED, ENDLESS, IsGreatest, NoStart, Shown}
use Rattle.graph.specs.Compute.{leaving, dead_end, extreme, begun, within, costs, any_start, any_endless}
use Rattle.graph.specs.Compute.{any_open, any_stranded, greatest}
use Rattle.graph.proofs.Tests.{decided, or_cases, or_left, or_right, Tests, refuted, any_of, in_any}
use Rattle.graph.proofs.Repeat.{different-one, different-ends}
use Rattle.graph.proofs.Walks.{start-below, stopped, with_stop, after_with}
use Rattle.graph.proofs.Simple.{SimpleBegun, simple-begun, begun-length, returns_last}
use Rattle.graph.proofs.Endless.{run, length_run, run-walk, long-endless, then, then-endless, endless-begun, endless-shown, simple_or_endless}
use Rattle.graph.proofs.Listed.{◌∈◌, Yes, of_nonempty, in_nonempty, of_begun, in_begun, of_within, in_within}
use Rattle.graph.proofs.Listed.{of_leaving, in_leaving, dead_end-is, of_dead_end, in_dead_end}
use Rattle.graph.proofs.Open.{any_open_lem, open_shown}
use Rattle.graph.proofs.Extreme.{AtLeast, picks_max, Covered, IsExtreme, in_costs, extreme-is, extreme_unique}

-- ---- 1

module _ (g : Graph) where
  abbrev unanswered : ℕ → Bool
  unanswered s = not (final g s)

  any-start : Tests (any_start g) ((s : ℕ) × Begins g s)
  unfolding any_start
  any-start = record {
    sound = λ e. let (s, h, b) = any_of (start g) (states g) e in (s, b);
    complete = λ p. let (s, b) = p in in_any (start g) (states g) s (start-below g s b) b;
  }

  any-endless : Closed g → Tests (any_endless g) (HasEndlessWalk g)
  unfolding any_endless
  any-endless closed = record {
    sound = λ e.
        let (r, m) = of_nonempty (begun g unanswered (states g)) e in
        let l = of_begun g unanswered (states g) r m in
        let (d, w) = l.step in
        let (taken, walk) = long-endless g (Yes unanswered) (to g l.first) l.rest (closed l.first d.listed) w closed (le_of_eq (sym l.size)) in
        (r.0, then l.first taken, then-endless g r.0 l.first taken l.begins d walk);
    complete = λ (s, taken, (b, (d, e))).
        let x = to g (taken 0) in
        let after : ℕ → ℕ = λ i. taken (suc i) in
        let ts = run after 0 (states g) in
        let w = with_stop g (Unfinished g) (Unfinished g) (Yes unanswered) (λ x u. ap not u) x ts (run-walk g x after e 0 (states g)) in
        let m = in_begun g unanswered s (taken 0) ts b (d, w) in
        in_nonempty (begun g unanswered (states g))
        (subst (λ (k : ℕ). (s, taken 0 ∷ ts) ∈ begun g unanswered k) (length_run after 0 (states g)) m);
  }

  -- a walk to a dead end that visits no state twice
  simple-stranded : (s : ℕ) (ts : List ℕ) → StrandedWalk g s ts → SimpleBegun g (NoneDeparts g) (DeadEnd g) s ts
  simple-stranded s ts w = simple-begun g (NoneDeparts g) (DeadEnd g) (λ x u d. d.none-departs) s ts w.1

  -- a start without transitions, by the test
  of_none : (s : ℕ) → Yes (λ x. not (leaving g x)) s → NoneDeparts g s
  of_none s e t d = false≢true (sym (not-true (leaving g s) e) ∙ in_leaving g s t d)

  in_none : (s : ℕ) → NoneDeparts g s → Yes (λ x. not (leaving g x)) s
  in_none s none = go (decided (leaving g s))
    where
      go : (leaving g s ≡ true) ⊎ (leaving g s ≡ false) → not (leaving g s) ≡ true
      go (inl e) = let (t, d) = of_leaving g s e in absurd (none t d)
      go (inr e) = ap not e

  abbrev nowhere : ℕ → Bool
  nowhere s = not (leaving g s)

  any-stranded : Closed g → Tests (any_stranded g) (EndsUnanswered g)
  unfolding any_stranded
  any-stranded closed = record {
    sound = λ e.
        let (r, m) = of_nonempty (within g nowhere (dead_end g)) e in
        let (b, w) = of_within g nowhere (dead_end g) r m in
        (r.0, r.1, (b, after_with g (Yes nowhere) (Unfinished g) (Yes (dead_end g)) (NoneDeparts g) (DeadEnd g) of_none (of_dead_end g) r.0 r.1 w));
    complete = λ (s, ts, w).
        let q = simple-stranded s ts w in
        let h = begun-length g (NoneDeparts g) (DeadEnd g) closed s q.short (w.0, q.walk) q.different in
        let v = after_with g (NoneDeparts g) (Unfinished g) (DeadEnd g) (Yes nowhere) (Yes (dead_end g)) in_none (in_dead_end g) s q.short q.walk in
        in_nonempty (within g nowhere (dead_end g)) (in_within g nowhere (dead_end g) s q.short (w.0, v) h);
  }

-- the last state of a walk to a dead end is unfinished, unless it is a start alone
stranded-apart : (g : Graph) (s : ℕ) (ts : List ℕ) → AfterStart g (NoneDeparts g) (StrandedFrom g) s ts
    → (Unfinished g (arrival g s ts) → Different (visits g s ts)) → Different (visits g s ts)
stranded-apart g s [] w d = different-one s
stranded-apart g s (t ∷ ts) w d = d (stopped g (Unfinished g) (DeadEnd g) (to g t) ts w.1).unfinished

-- whatever goes on forever begins at a start
pub forever-begins : (g : Graph) (c : Cost) → GoesOnForever g c → (s : ℕ) × Begins g s
forever-begins g c (inl (s, taken, (b, e))) = (s, b)
forever-begins g c (inr (s, ts, w)) = (s, w.unfinished.0)

goes_on : (g : Graph) (c : Cost) → Closed g → Tests (any_endless g || any_open g c) (GoesOnForever g c)
goes_on g c closed = record { sound = λ e. of_either (or_cases (any_endless g) (any_open g c) e); complete = in_either }
  where
    of_either : (any_endless g ≡ true) ⊎ (any_open g c ≡ true) → GoesOnForever g c
    of_either (inl e) = inl ((any-endless g closed).sound e)
    of_either (inr e) = inr ((any_open_lem g c closed).sound e)

    in_either : GoesOnForever g c → (any_endless g || any_open g c) ≡ true
    in_either (inl u) = or_left (any_endless g) (any_open g c) ((any-endless g closed).complete u)
    in_either (inr u) = or_right (any_endless g) (any_open g c) ((any_open_lem g c closed).complete u)

-- ---- 2

module _ (g : Graph) where
  -- walking on from s for k transitions: an answer, a dead end, or k transitions without either
  abbrev Onward : ℕ → ℕ → Type 0
  Onward k s =
      ((ts : List ℕ) × RouteFrom g s ts)
      ⊎ (((ts : List ℕ) × StrandedFrom g s ts) ⊎ ((ts : List ℕ) × UnfinishedFrom g s ts × (length ts ≡ k)))

  one_more : (k s t : ℕ) → Unfinished g s → Departs g s t → Onward k (to g t) → Onward (suc k) s
  one_more k s t u d (inl (ts, w)) = inl (t ∷ ts, (u, d, w))
  one_more k s t u d (inr (inl (ts, w))) = inr (inl (t ∷ ts, (u, d, w)))
  one_more k s t u d (inr (inr (ts, w, l))) = inr (inr (t ∷ ts, (u, d, w), ap suc l))

  go_on : (k s : ℕ) → Onward k s
  go_on zero s = here (decided (final g s))
    where
      here : (final g s ≡ true) ⊎ (final g s ≡ false) → Onward 0 s
      here (inl f) = inl ([], f)
      here (inr u) = inr (inr ([], u, refl))
  go_on (suc k) s = here (decided (final g s)) (decided (leaving g s)) (λ t. go_on k (to g t))
    where
      here : (final g s ≡ true) ⊎ (final g s ≡ false) → (leaving g s ≡ true) ⊎ (leaving g s ≡ false)
          → ((t : ℕ) → Onward k (to g t)) → Onward (suc k) s
      here (inl f) l rest = inl ([], f)
      here (inr u) (inl l) rest = let (t, d) = of_leaving g s l in one_more k s t u d (rest t)
      here (inr u) (inr l) rest = inr (inl ([], dead_end-is g s u l))

  -- from a start: a first step, whatever its own mark, or it is a dead end
  pub leads-to-answer : Closed g → (HasEndlessWalk g → ⊥) → (EndsUnanswered g → ⊥) → (s : ℕ) → Begins g s
      → LeadsToAnswer g s
  leads-to-answer closed finite unstranded s b = go (decided (leaving g s))
    where
      on : (t : ℕ) → Departs g s t → Onward (states g) (to g t) → LeadsToAnswer g s
      on t d (inl (ts, w)) = (t ∷ ts, (b, (d, w)))
      on t d (inr (inl (ts, w))) = absurd (unstranded (s, t ∷ ts, (b, (d, w))))
      on t d (inr (inr (ts, w, l))) =
          let (taken, e) = long-endless g (Unfinished g) (to g t) ts (closed t d.listed) w closed (le_of_eq (sym l)) in
          absurd (finite (s, then t taken, then-endless g s t taken b d e))

      go : (leaving g s ≡ true) ⊎ (leaving g s ≡ false) → LeadsToAnswer g s
      go (inl l) = let (t, d) = of_leaving g s l in on t d (go_on (states g) (to g t))
      go (inr l) = absurd (unstranded (s, [], (b, of_none g s (ap not l))))

-- ---- 3

-- every route visits no state twice but for its ends
pub route-simple : (g : Graph) → (HasEndlessWalk g → ⊥) → (s : ℕ) (ts : List ℕ) → Route g s ts
    → DifferentButEnds (visits g s ts)
route-simple g finite s [] (b, w) = absurd w
route-simple g finite s (t ∷ ts) (b, (d, w)) = go (decided (final g s))
  where
    rest : ((taken : ℕ → ℕ) × EndlessFrom g (to g t) taken) ⊎ Different (visits g (to g t) ts) → Different (visits g (to g t) ts)
    rest (inl (taken, e)) = absurd (finite (s, then t taken, then-endless g s t taken b d e))
    rest (inr e) = e

    whole : ((taken : ℕ → ℕ) × EndlessFrom g s taken) ⊎ Different (visits g s (t ∷ ts)) → Different (visits g s (t ∷ ts))
    whole (inl (taken, e)) = absurd (finite (s, taken, endless-begun g s taken b e))
    whole (inr e) = e

    go : (final g s ≡ true) ⊎ (final g s ≡ false) → DifferentButEnds (visits g s (t ∷ ts))
    go (inl f) = returns_last g (λ x. ⊥) (Final g) s t ts f w (rest (simple_or_endless g (Final g) (to g t) ts w))
    go (inr u) = different-ends (visits g s (t ∷ ts)) (whole (simple_or_endless g (Final g) s (t ∷ ts) (u, d, w)))

cover : (g : Graph) (c : Cost) → Closed g → (HasEndlessWalk g → ⊥) → Covered max AtLeast picks_max g c
cover g c closed finite s ts r =
    let h = begun-length g (λ x. ⊥) (Final g) closed s ts r (route-simple g finite s ts r) in
    (total g c s ts, in_costs g c s ts r h, le_refl (total g c s ts))

-- ---- 4

module _ (g : Graph) (c : Cost) where
  some_start : (s : ℕ) → Begins g s → NoStart g → ⊥
  some_start s b no_start = no_start s b

  is-largest : (f : Figure) → (NoStart g → ⊥) → (GoesOnForever g c → ⊥) → (EndsUnanswered g → ⊥)
      → (s : ℕ) → LeadsToAnswer g s → IsExtreme max AtLeast picks_max g c f → IsGreatest g c f
  is-largest (number k) started finite unstranded s a h = (started, finite, unstranded, h)
  is-largest NONE started finite unstranded s a h = absurd (h s a.0 a.1)
  is-largest STRANDED started finite unstranded s a h = absurd h
  is-largest ENDLESS started finite unstranded s a h = absurd h

  -- what is computed is the greatest figure
  pub greatest-is : Closed g → IsGreatest g c (greatest g c)
  unfolding greatest
  greatest-is closed = go (any_start g) (any_endless g || any_open g c) (any_stranded g) refl refl refl
    where
      go : (a e d : Bool) → any_start g ≡ a → (any_endless g || any_open g c) ≡ e → any_stranded g ≡ d
          → IsGreatest g c (cond (not a) NONE (cond e ENDLESS (cond d STRANDED (extreme max (costs g c)))))
      go false e d p q r = λ s b. refuted (any-start g) p (s, b)
      go true true d p q r = let (s, b) = (any-start g).sound p in (some_start s b, (goes_on g c closed).sound q)
      go true false true p q r =
          let (s, b) = (any-start g).sound p in
          (some_start s b, refuted (goes_on g c closed) q, (any-stranded g closed).sound r)
      go true false false p q r =
          let (s, b) = (any-start g).sound p in
          let finite = refuted (goes_on g c closed) q in
          let unstranded = refuted (any-stranded g closed) r in
          is-largest (extreme max (costs g c)) (some_start s b) finite unstranded s (leads-to-answer g closed (λ u. finite (inl u)) unstranded s b)
          (extreme-is max AtLeast picks_max g c (cover g c closed (λ u. finite (inl u))))

  -- and there is only one: each kind excludes those after it
  pub greatest_unique : (f h : Figure) → IsGreatest g c f → IsGreatest g c h → f ≡ h
  greatest_unique NONE NONE u v = refl
  greatest_unique NONE ENDLESS u v = absurd (v.0 u)
  greatest_unique NONE STRANDED u v = absurd (v.0 u)
  greatest_unique NONE (number l) u v = absurd (v.0 u)
  greatest_unique ENDLESS NONE u v = absurd (u.0 v)
  greatest_unique ENDLESS ENDLESS u v = refl
  greatest_unique ENDLESS STRANDED u v = absurd (v.1 u.1)
  greatest_unique ENDLESS (number l) u v = absurd (v.1 u.1)
  greatest_unique STRANDED NONE u v = absurd (u.0 v)
  greatest_unique STRANDED ENDLESS u v = absurd (u.1 v.1)
  greatest_unique STRANDED STRANDED u v = refl
  greatest_unique STRANDED (number l) u v = absurd (v.2 u.2)
  greatest_unique (number k) NONE u v = absurd (u.0 v)
  greatest_unique (number k) ENDLESS u v = absurd (u.1 v.1)
  greatest_unique (number k) STRANDED u v = absurd (u.2 v.2)
  greatest_unique (number k) (number l) u v = ap number (extreme_unique max AtLeast picks_max g c k l u.3 v.3)

  -- so whatever is the greatest figure is what is computed
  pub greatest_computed : Closed g → (f : Figure) → IsGreatest g c f → f ≡ greatest g c
  greatest_computed closed f u = greatest_unique f (greatest g c) u (greatest-is closed)

  -- and it can be shown
  pub greatest-shown : Closed g → (f : Figure) → IsGreatest g c f → (ts : List ℕ) × (j : ℕ) × Shown g c f ts j
  greatest-shown closed NONE u = ([], 0, (refl, refl))
  greatest-shown closed ENDLESS u = go u.1
    where
      go : GoesOnForever g c → (ts : List ℕ) × (j : ℕ) × Shown g c ENDLESS ts j
      go (inl (s, taken, e)) = let (k, j, shown) = endless-shown g closed s taken e in (run taken 0 k, j, inl shown)
      go (inr w) = let (ts, shown) = open_shown g c w in (ts, length ts, inr shown)
  greatest-shown closed STRANDED u =
      let (s, ts, w) = u.2 in
      let q = simple-stranded g s ts w in
      (q.short, 0, (s, (w.0, q.walk), stranded-apart g s q.short q.walk (λ v. q.unanswered (rw (sym q.ends) v)), refl))
  greatest-shown closed (number k) u =
      let (s, ts, r, q) = u.3.attained in
      (ts, 0, (s, r, q, route-simple g (λ e. u.1 (inl e)) s ts r, refl))
