-- From what the search left behind to the greatest figure, where it is no number (values' `best-quoted` has the numbers).
--
-- 1. A loop: the states on the stack are the first states of a walk, whose last transition leads back to one of them (`loop-shown`).
-- 2. A rank that falls, from all starts (values' `falling`): no walk goes on forever. Up the tree the rank rises (`rising`), so a state that was entered
--    has a walk from a start, down the tree, to states that are unfinished (`walked_down`), which shows a dead end, the start alone too (`dead_end-shown`).
-- Assumes nothing.
use mathlib.Core.Bool.{false}
use mathlib.Core.List.{List}
use mathlib.Core.Logic.{◌⊎◌, inl, inr, ⊎_elim}
use mathlib.Core.Path.{◌≡◌, refl, sym, ap, ◌∙◌, subst}
use Prim.Native.Nat.{ℕ, zero, suc, ◌+◌, ◌-◌, ◌≤◌, ◌<◌}
use native.Mathlib.Nat.{le_refl}
use native.Mathlib.Omega.{arith}
use lib.ListN.{length, take, drop}
use lib.Seq.{length-take-le, get_or-take}
use Rattle.graph.specs.Graph.{Graph, Unfinished}
use Rattle.graph.specs.Walk.{Begins, AfterStart, visits, arrival, UnfinishedFrom, UnfinishedWalk, Different}
use Rattle.graph.specs.Route.{Cost}
use Rattle.graph.specs.Figure.{NONE, STRANDED, ENDLESS, IsGreatest, LoopShown, Shown}
use Rattle.graph.proofs.Build.{StepAt}
use Rattle.graph.proofs.Certificate.{ends_nowhere, greatest-endless, endless_by_places, greatest-stranded}
use Rattle.graph.proofs.Repeat.{nth, Apart}
use Rattle.graph.proofs.Walks.{after_of}
use Rattle.search.specs.Arrays.{Arrays, at, StartIn, UnfinishedIn, Leaves, Bounded, StandsIn}
use Rattle.search.specs.Chain.{none}
use Rattle.turns.specs.declared.Table.{Table}
use Rattle.turns.specs.Search.{Loop, Rooted}
use Rattle.hunt.specs.Hunted.{DeadEndAt}
use Rattle.reach.specs.Explored.{Ranked}
use Rattle.search.specs.Quoted.{Quoted}
use Rattle.search.specs.Route.{along, Steps}
use Rattle.tree.specs.Tree.{Rising, up, Climbable, Climbs, Climbed}
use Rattle.reach.proofs.Hunting.{onward-lower}
use Rattle.values.proofs.BestFigure.{falling}
use Rattle.tree.proofs.Climbing.{climbed_along, climbed_steps}
use Rattle.search.proofs.Held.{held-final, held_start, begins_in, departs, leaves, held-walk}
use Rattle.search.proofs.Held.{held_at, held-arrival, held-different}
use Rattle.arrays.proofs.Lists.{below_or_not}

-- a walk of unfinished states from a start to s that visits no state twice
pub record WalkDown (g : Graph) (s : ℕ) (ts : List ℕ) : Type 0 where
  pub first : ℕ
  pub walk : UnfinishedWalk g first ts
  pub arrives : arrival g first ts ≡ s
  pub different : Different (visits g first ts)

module _ (A : Arrays) (bounded : Bounded A) (a : Table) where
  -- ---- 1

  module _ (d j : ℕ) (l : Loop A a d j) (walk : List ℕ)
      (written : (i : ℕ) → i < d → at walk i ≡ at a.cursor (at a.stack i)) where
    on_stack : (i : ℕ) → i < d → along A.to (at a.stack 0) walk i ≡ at a.stack i
    on_stack zero h = refl
    on_stack (suc i) h = ap (at A.to) (written i (omega arith)) ∙ l.path i h

    back : (i : ℕ) → suc i ≡ d → along A.to (at a.stack 0) walk (suc i) ≡ at a.stack j
    back i e = ap (at A.to) (written i (omega arith)) ∙ l.back i e

    -- the state after d transitions, d not being 0
    last : (d' : ℕ) → d' ≡ d → along A.to (at a.stack 0) walk d' ≡ at a.stack j
    last zero e = absurd (omega (arith, l.below))
    last (suc i) e = back i e

    module _ (g : Graph) (held : StandsIn A g) where
      pub loop-shown : d ≤ length walk → LoopShown g (take d walk) j
      loop-shown room = endless_by_places g (along A.to (at a.stack 0) walk) (take d walk) begins steps unfinished j (rw long l.below) same apart
        where
          long : length (take d walk) ≡ d
          long = length-take-le d walk room

          begins : Begins g (at a.stack 0)
          begins = let (h, r) = l.stacked 0 (omega (arith, l.below)) in held_start held (at a.stack 0) h ∙ l.root

          steps : (i : ℕ) → i < length (take d walk) → StepAt g (λ x. Unit) (λ x. Unit) (along A.to (at a.stack 0) walk) (take d walk) i
          steps i q =
              let b : i < d = rw long at q in
              let e : nth (take d walk) i ≡ at walk i = get_or-take d walk i 0 b in
              let p : Leaves A (at a.stack i) (at walk i) = rw (written i b) (l.leaves i b) in
              record { passes = tt; departs = rw (e, on_stack i b) (departs held p); arrives = rw e (held.arrives (at walk i) p.listed) }

          -- each state after the first is unfinished, the last too, which is on the stack
          unfinished : (i : ℕ) → i < length (take d walk) → Unfinished g (along A.to (at a.stack 0) walk (suc i))
          unfinished i q = go (below_or_not (suc i) d)
            where
              go : (suc i < d) ⊎ (d ≤ suc i) → Unfinished g (along A.to (at a.stack 0) walk (suc i))
              go (inl h) = rw (on_stack (suc i) h) (held-final held (at a.stack (suc i)) (l.stacked (suc i) h).0 ∙ l.unfinished i h)
              go (inr h) = rw (last (suc i) (omega (arith, long))) (held-final held (at a.stack j) (l.stacked j l.below).0 ∙ l.back-unfinished)

          same : along A.to (at a.stack 0) walk (length (take d walk)) ≡ along A.to (at a.stack 0) walk j
          same = last (length (take d walk)) long ∙ sym (on_stack j l.below)

          apart : Apart (along A.to (at a.stack 0) walk) (length (take d walk))
          apart x y q h e =
              let hy : y < d = rw long at h in
              let s : at a.stack x ≡ at a.stack y = sym (on_stack x (omega arith)) ∙ e ∙ on_stack y hy in
              omega (arith, (l.stacked x (omega arith)).1, (l.stacked y hy).1, ap (at a.rank) s)

  -- ---- 2

  module _ (done : ℕ) (r : Ranked A a done) where
    pub rising : Rising A.n A.m A.from a.rank a.via
    rising s h p = (most, go (r.origin s h p))
      where
        most : at a.rank s ≤ A.n
        most = let (i, l, e, q) = r.placed s h p in omega (arith, r.count)

        go : Rooted A a.rank a.via s
            → (at a.via s ≡ none)
            ⊎ ((at a.via s < A.m) × (at A.from (at a.via s) < A.n) × (at a.rank s < at a.rank (at A.from (at a.via s))))
        go (inl (e, b)) = inl e
        go (inr (l, e, q, u)) =
            let y = at A.from (at a.via s) in
            let b = bounded.leaves (at a.via s) l in
            let f = onward-lower r y (at a.via s) b q (record { listed = l; source = refl }) (rw e u) in
            inr (l, b, rw e at f.1)

    module _ (g : Graph) (held : StandsIn A g) (s k : ℕ) (before after : List ℕ) (room : k ≤ length after) (h : s < A.n) (p : 0 < at a.rank s)
        (climbs : Climbs A.n A.m A.from a.rank a.via s k) (climbed : Climbed A.from a.via s k before after) where
      abbrev top : ℕ
      top = up A.from a.via s k

      -- a state that a transition led to is where that leads, and unfinished
      led_to : (x : ℕ) → x < A.n → 0 < at a.rank x → at a.via x < A.m → (at A.to (at a.via x) ≡ x) × UnfinishedIn A.marks x
      led_to x b q l = ⊎_elim (λ w. absurd (omega (arith, bounded.count, w.0))) (λ w. (w.1, w.3)) (r.origin x b q)

      arrives : (x : ℕ) → x < A.n → 0 < at a.rank x → at a.via x < A.m → at A.to (at a.via x) ≡ x
      arrives x b q l = (led_to x b q l).0

      steps : Steps A (up A.from a.via s k) after k
      steps = climbed_steps A a.rank a.via s k before after climbs climbed arrives

      place : (i u : ℕ) → i + u ≡ k → along A.to (up A.from a.via s k) after i ≡ up A.from a.via s u
      place i u e = climbed_along A a.rank a.via s k before after climbs climbed arrives i u e

      -- each state after the first is one that a transition led to
      later_unfinished : (i : ℕ) → i < k → Unfinished g (along A.to (up A.from a.via s k) after (suc i))
      later_unfinished i l =
          let u = k - suc i in
          let (b, q, z) = climbs.below u (omega arith) in
          rw (place (suc i) u (omega arith)) (held-final held (up A.from a.via s u) b ∙ (led_to (up A.from a.via s u) b q (climbs.listed u (omega arith)).0).1)

      -- the walk down the tree to a state that was entered: from a start, final or not, through unfinished states, none twice
      pub walked_down : WalkDown g s (take k after)
      walked_down = record {
        first = top;
        walk = (begins, walk);
        arrives = held-arrival held bounded top after k room steps ∙ place k 0 (omega arith);
        different = held-different held bounded top after k room steps;
      }
        where
          long : length (take k after) ≡ k
          long = length-take-le k after room

          begins : Begins g top
          begins =
              let (b, q, z) = climbs.below k (le_refl k) in
              held_start held top b ∙ ⊎_elim (λ w. w.1) (λ w. absurd (omega (arith, bounded.count, climbs.root, w.0))) (r.origin top b q)

          end : 0 < k → Unfinished g (along A.to top after k)
          end l = let e : suc (k - 1) ≡ k = omega arith in subst (λ (j : ℕ). Unfinished g (along A.to top after j)) e (later_unfinished (k - 1) (omega arith))

          walk : AfterStart g (λ x. Unit) (UnfinishedFrom g) top (take k after)
          walk =
              after_of g (λ x. Unit) (Unfinished g) (Unfinished g) top (take k after)
              (held-walk held bounded top after k room steps (λ x. Unit) (λ x. Unit) (λ i l. tt) tt) (λ e. tt)
              (λ i l. rw (held_at held bounded top after k room steps (suc i) (omega (arith, long))) (later_unfinished i (omega (arith, long))))
              (λ l. rw (held-arrival held bounded top after k room steps) (end (omega (arith, long))))

      pub dead_end-shown : (c : Cost) → ((t : ℕ) → Leaves A s t → ⊥) → Shown g c STRANDED (take k after) 0
      dead_end-shown c none =
          let w = walked_down in
          (w.first, ends_nowhere g w.first (take k after) w.walk (rw w.arrives (λ t d. none t (leaves held d))), w.different, refl)

-- ---- as they are quoted

-- a state that was entered can be climbed from
pub climbable : {A : Arrays} {a : Table} {done s : ℕ} → Bounded A → Ranked A a done → s < A.n → 0 < at a.rank s → Climbable A.n A.m A.from a.rank a.via s
climbable {A} {a} {done} b r h p = record { below = h; states = b.states; count = b.count; entered = p; rising = rising A b a done r }

module _ {A : Arrays} (b : Bounded A) {a : Table} {g : Graph} (held : StandsIn A g) (c : Cost) {before after : List ℕ} (long : length after ≡ length before) (room : A.n ≤ length before) where
  pub loop-quoted : {d j : ℕ} → Loop A a d j → ((i : ℕ) → i < d → at after i ≡ at a.cursor (at a.stack i)) → drop d after ≡ drop d before
      → Quoted (IsGreatest g c) g c ENDLESS d j before after
  loop-quoted {d} {j} l written later =
      let shown = loop-shown A b a d j l after written g held (omega (arith, l.depth)) in
      record { right = greatest-endless g c (take d after) j (inl shown); shown = inl shown; fits = omega (arith, l.depth, held.as_many); later = later }

  pub dead_end-quoted : ((t : ℕ) → c.unlimited t ≡ false) → {done s k : ℕ} → Ranked A a done → DeadEndAt A a.rank s → Climbs A.n A.m A.from a.rank a.via s k → Climbed A.from a.via s k before after
      → Quoted (IsGreatest g c) g c STRANDED k 0 before after
  dead_end-quoted limited {done} {s} {k} r (h, p, none) way climbed =
      let shown = dead_end-shown A b a done r g held s k before after (omega (arith, way.fits)) h p way climbed c none in
      record {
        right = greatest-stranded g c (λ x. (x < A.n) × (0 < at a.rank x)) (at a.rank) (falling A b a done r g held) (λ x t i d. limited t) (take k after) 0 shown;
        shown = shown;
        fits = omega (arith, way.fits, held.as_many);
        later = climbed.later;
      }

-- no start
pub none-quoted : {A : Arrays} {g : Graph} → StandsIn A g → (c : Cost) (places : List ℕ) → ((s : ℕ) → s < A.n → StartIn A.marks s → ⊥) → Quoted (IsGreatest g c) g c NONE 0 0 places places
none-quoted held c places none =
    record { right = λ s b. let (h, e) = begins_in held s b in none s h e; shown = (refl, refl); fits = omega arith; later = refl }
