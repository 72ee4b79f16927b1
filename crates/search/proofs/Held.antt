-- From arrays to the graph that they hold: marks, transitions and walks are those of the graph.
--
-- What stands in the arrays at a state or a transition of the graph is what the graph has there; so a walk by places through the arrays
-- (`Steps`) is a walk of the graph, its states are those that the places give, and they differ (`held-walk` and what follows). So a route that was read off values is one of
-- the graph, and costs the value that it began with; after a first step from a start it is a route of the plan (`begun-route`). The states on it differ, but that the last may
-- be the start: where the start is unfinished, its rank is not among those that fall behind it. So it may be shown (`begun-quoted`). Assumes nothing.
use mathlib.Core.List.{List, ◌∷◌}
use mathlib.Core.Path.{◌≡◌, refl, sym, ap, ◌∙◌, subst}
use Prim.Native.Nat.{ℕ, suc, ◌+◌, ◌≤◌, ◌<◌}
use native.Mathlib.Nat.{le_refl}
use native.Mathlib.Omega.{arith}
use lib.ListN.{length, take, drop}
use lib.Seq.{length-take-le, get_or-take, drop-drop}
use Rattle.graph.specs.Graph.{Graph, start, final, to, Departs, Final, Unfinished, Closed, start_mark, final_mark}
use Rattle.graph.specs.Walk.{Begins, WalkTo, visits, arrival, Different, DifferentButEnds}
use Rattle.graph.specs.Route.{RouteFrom, Route, total}
use Rattle.graph.specs.Figure.{Figure, number}
use Rattle.graph.proofs.Build.{StepAt, walk_by_places, visits_by_places, different_by_places, total-is}
use Rattle.graph.proofs.Repeat.{nth, different-ends_cons}
use Rattle.graph.proofs.Walks.{start-below, final-below, length-visits, state-last}
use Rattle.arrays.specs.Tables.{cost_of}
use Rattle.search.specs.Arrays.{Arrays, at, StartIn, FinalIn, UnfinishedIn, Leaves, Bounded, StandsIn}
use Rattle.search.specs.Quoted.{Quoted}
use Rattle.search.specs.Route.{along, Steps, Traced, TracedBy}

module _ {A : Arrays} {g : Graph} (h : StandsIn A g) where
  -- ---- marks

  pub held-final : (s : ℕ) → s < A.n → final g s ≡ final_mark (at A.marks s)
  unfolding final
  held-final s l = rw (h.marked s l)

  pub held_start : (s : ℕ) → s < A.n → start g s ≡ start_mark (at A.marks s)
  unfolding start
  held_start s l = rw (h.marked s l)

  pub begins_in : (s : ℕ) → Begins g s → (s < A.n) × StartIn A.marks s
  begins_in s b = let l : s < A.n = rw h.as_many at (start-below g s b) in (l, sym (held_start s l) ∙ b)

  pub final_in : (s : ℕ) → Final g s → (s < A.n) × FinalIn A.marks s
  final_in s f = let l : s < A.n = rw h.as_many at (final-below g s f) in (l, sym (held-final s l) ∙ f)

  -- ---- transitions

  pub departs : {s t : ℕ} → Leaves A s t → Departs g s t
  departs {s} {t} l = record { listed = rw h.as_long l.listed; source = h.leaves t l.listed ∙ l.source }

  pub leaves : {s t : ℕ} → Departs g s t → Leaves A s t
  leaves {s} {t} d = let l : t < A.m = rw h.as_long at d.listed in record { listed = l; source = sym (h.leaves t l) ∙ d.source }

  module _ (bounded : Bounded A) where
    pub held-closed : Closed g
    held-closed t l = let k : t < A.m = rw h.as_long at l in rw (h.arrives t k, h.as_many) (bounded.arrives t k)

    -- where a transition leads: a state below n
    pub leads : (t : ℕ) → t < A.m → (at A.to t < A.n) × (to g t ≡ at A.to t)
    leads t l = (bounded.arrives t l, h.arrives t l)

    -- ---- walks by places

    module _ (s : ℕ) (ts : List ℕ) (k : ℕ) (room : k ≤ length ts) (w : Steps A s ts k) where
      abbrev taken : List ℕ
      taken = take k ts

      long : length taken ≡ k
      long = length-take-le k ts room

      steps-at : (pass stop : ℕ → Type 0) → ((i : ℕ) → i < k → pass (along A.to s ts i)) → (i : ℕ) → i < length taken → StepAt g pass stop (along A.to s ts) taken i
      steps-at pass stop passes i l =
          let b : i < k = rw long at l in
          let e : nth taken i ≡ at ts i = get_or-take k ts i 0 b in
          let p = w.leaves i b in
          record { passes = passes i b; departs = rw e (departs p); arrives = rw e (h.arrives (at ts i) p.listed) }

      pub held-walk : (pass stop : ℕ → Type 0) → ((i : ℕ) → i < k → pass (along A.to s ts i)) → stop (along A.to s ts k) → WalkTo g pass stop s taken
      held-walk pass stop passes q = walk_by_places g pass stop (along A.to s ts) taken (steps-at pass stop passes) (rw long q)

      plainly : (i : ℕ) → i < length taken → StepAt g (λ x. Unit) (λ x. Unit) (along A.to s ts) taken i
      plainly = steps-at (λ x. Unit) (λ x. Unit) (λ i l. tt)

      -- the states on it
      pub held_at : (i : ℕ) → i ≤ k → nth (visits g s taken) i ≡ along A.to s ts i
      held_at i b = visits_by_places g (λ x. Unit) (λ x. Unit) (along A.to s ts) taken plainly i (rw long b)

      pub held-arrival : arrival g s taken ≡ along A.to s ts k
      held-arrival = sym (state-last g s taken) ∙ rw long (held_at k (le_refl k))

      pub held-different : Different (visits g s taken)
      held-different =
          different_by_places g (λ x. Unit) (λ x. Unit) (along A.to s ts) taken plainly
          (rw long (λ i j l b e. w.apart i j l (omega arith) e))

-- ---- routes read off values

-- the route that was written costs the value of its first state
module _ {A : Arrays} {g : Graph} (h : StandsIn A g) (bounded : Bounded A) {weight close value : List ℕ} {rank : ℕ → ℕ} (s k : ℕ) (before after : List ℕ)
    (room : k ≤ length after) (x : Traced A weight close value rank s k before after) where
  traced-route : RouteFrom g s (take k after)
  traced-route =
      held-walk h bounded s after k room x.steps (Unfinished g) (Final g)
      (λ i l. held-final h (along A.to s after i) (x.steps.below i (omega arith)) ∙ x.unfinished i l)
      (held-final h (along A.to s after k) (x.steps.below k (le_refl k)) ∙ x.ends)

  traced-costs : total g (cost_of weight close) s (take k after) ≡ at value s
  traced-costs = total-is g (cost_of weight close) s (take k after) ∙ rw (held-arrival h bounded s after k room x.steps) x.costs

-- with a first step from a start before it: it costs what that weighs and the value behind, and is what 01 asks to be shown for that number
module _ {A : Arrays} {g : Graph} (h : StandsIn A g) (bounded : Bounded A) {weight close value : List ℕ} {rank : ℕ → ℕ} {s t k : ℕ} {before after : List ℕ}
    (b : Begins g s) (l : Leaves A s t) (room : A.n ≤ length after) (x : TracedBy A weight close value rank t k before after) where
  abbrev more : ℕ
  more = x.more

  abbrev ts : List ℕ
  ts = take more x.rest

  taken_is : take k after ≡ t ∷ ts
  taken_is = ap (λ (j : ℕ). take j after) x.number_of ∙ ap (λ (l : List ℕ). take (suc more) l) x.written

  leads-to : to g t ≡ at A.to t
  leads-to = h.arrives t l.listed

  enough : more ≤ length x.rest
  enough = omega (arith, room, ap length x.written, x.traced.fits)

  pub begun-route : Route g s (take k after)
  begun-route = rw taken_is (b, (departs h l, rw leads-to (traced-route h bounded (at A.to t) more (drop 1 before) x.rest enough x.traced)))

  pub begun-costs : total g (cost_of weight close) s (take k after) ≡ at weight t + at value (at A.to t)
  begun-costs =
      rw (taken_is, leads-to) (ap (λ (y : ℕ). at weight t + y) (traced-costs h bounded (at A.to t) more (drop 1 before) x.rest enough x.traced))

  -- an unfinished start has no rank up to that of the state behind
  abbrev pub Higher : Type 0
  Higher = UnfinishedIn A.marks s → UnfinishedIn A.marks (at A.to t) → rank s ≤ rank (at A.to t) → ⊥

  begun-different : Higher → DifferentButEnds (visits g s (t ∷ ts))
  begun-different higher =
      subst (λ (v : ℕ). DifferentButEnds (s ∷ visits g v ts)) (sym leads-to)
      (different-ends_cons s (visits g (at A.to t) ts) new (held-different h bounded (at A.to t) x.rest more enough x.traced.steps))
    where
      new : (i : ℕ) → suc i < length (visits g (at A.to t) ts) → nth (visits g (at A.to t) ts) i ≡ s → ⊥
      new i o e =
          let w = x.traced.steps in
          let j : i < more = omega (arith, length-visits g (at A.to t) ts, length-take-le more x.rest enough) in
          let q : along A.to (at A.to t) x.rest i ≡ s = sym (held_at h bounded (at A.to t) x.rest more enough w i (omega arith)) ∙ e in
          higher (rw q at (x.traced.unfinished i j)) (x.traced.unfinished 0 (omega arith)) (rw q at (x.traced.under i j))

  pub begun-quoted : Higher → (Is : Figure → Type 0) → Is (number (at weight t + at value (at A.to t)))
      → Quoted Is g (cost_of weight close) (number (at weight t + at value (at A.to t))) k 0 before after
  begun-quoted higher Is right = record {
    right = right;
    shown = (s, begun-route, begun-costs, rw taken_is (begun-different higher), refl);
    fits = omega (arith, x.number_of, x.traced.fits, h.as_many);
    later = later;
  }
    where
      later : drop k after ≡ drop k before
      later =
          let e : 1 + more ≡ k = omega (arith, x.number_of) in
          ap (λ (j : ℕ). drop j after) x.number_of ∙ ap (λ (l : List ℕ). drop (suc more) l) x.written ∙ x.traced.later ∙ drop-drop more 1 before
          ∙ ap (λ (j : ℕ). drop j before) e
