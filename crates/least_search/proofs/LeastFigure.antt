-- From settled keys to the least figure.
--
-- 1. Where the best first step costs B: a route from s costs at least the key of s, or at least B (`route-bound` of graph's certificates), so a route
--    that begins with a step from a start costs at least B. Within the states whose key is at most B some transition accounts for the key exactly, and each that does leads
--    to a lower key: so a route can be read off behind the step (`leading`), and costs B with it. An unfinished start is none of the states behind: its key would be below
--    B, and so would what some step out of it costs (`higher`).
-- 2. Where no first step leads to a key: from each state with a key a route can be followed that visits no state twice and costs the key, so the key is far
--    below `far` (`key_bound`); so a state with a transition to one with a key has a key, and no start leads to an answer (`no-route`).
-- Assumes nothing.
use mathlib.Core.Bool.{true}
use mathlib.Core.List.{List, [], ◌∷◌}
use mathlib.Core.Logic.{◌⊎◌, inl, inr, ⊎_elim}
use mathlib.Core.Path.{◌≡◌, refl, sym, ap, ◌∙◌}
use Prim.Native.Nat.{ℕ, ◌+◌, ◌*◌, ◌≤◌, ◌<◌}
use native.Mathlib.Nat.{mul-le-mul_right}
use native.Mathlib.Omega.{arith}
use borrow.Author.Tests.{le-leb, leb-true}
use lib.Dec.{leb}
use lib.ListN.{length, take}
use Rattle.graph.specs.Graph.{Graph, states, to, Departs, Final, Unfinished, start_mark}
use Rattle.graph.specs.Walk.{Begins, visits, arrival}
use Rattle.graph.specs.Route.{Route, RouteFrom, total, delay}
use Rattle.graph.specs.Figure.{number, NONE, IsLeast}
use Rattle.graph.proofs.Build.{total-is}
use Rattle.graph.proofs.Certificate.{route-bound, Choices, Choice, follow}
use Rattle.graph.proofs.Repeat.{different-length}
use Rattle.graph.proofs.Walks.{length-visits, visits-below, stopped}
use Rattle.search.specs.Arrays.{Arrays, at, StartIn, UnfinishedIn, Leaves, Bounded, StandsIn}
use Rattle.arrays.specs.Tables.{cost_of}
use Rattle.keys.specs.Keys.{Weighed, Keys, Keyed, Settled, Ready}
use Rattle.best_step.specs.declared.Step.{Step}
use Rattle.best_step.specs.Steps.{BestStep}
use Rattle.search.specs.Sizes.{far, heaviest}
use Rattle.search.specs.Chain.{none, Chains}
use Rattle.search.specs.Quoted.{Quoted}
use Rattle.search.specs.Route.{Accounts, Leading, TracedBy, Readable}
use Rattle.search.proofs.Held.{held-final, held_start, begins_in, final_in, departs, leaves, held-closed, leads, begun-route, begun-costs, begun-quoted}
use Rattle.arrays.proofs.Lists.{below_or_not}

module _ {A : Arrays} {weight close key : List ℕ} (keyed : Keyed A weight close key) where
  bounded : Bounded A
  bounded = keyed.bounded

  w : Weighed A.m weight close
  w = keyed.weighed

  keys : Keys A weight close key
  keys = keyed.keys

  -- some transition accounts for a key exactly, if the key is at most the bound and the bound is settled
  exact : (bound : ℕ) → Settled A weight A.m bound key → (s : ℕ) → s < A.n → UnfinishedIn A.marks s → at key s < far → at key s ≤ bound
      → (t : ℕ) × Leaves A s t × Accounts A.to weight key s t
  exact bound settled s h u l b =
      let (t, p, q) = keys.accounted s h u l in
      (t, p, ⊎_elim (λ a. omega (arith, ap (at key) p.source)) (λ a. omega arith) (settled t p.listed (rwu p u)))
    where
      rwu : {t : ℕ} → Leaves A s t → UnfinishedIn A.marks s → UnfinishedIn A.marks (at A.from t)
      rwu p u = rw p.source u

  falls : (s t : ℕ) → Leaves A s t → Accounts A.to weight key s t → at key (at A.to t) < at key s
  falls s t p q = omega (arith, w.some t p.listed, q)

  -- ---- 1

  module _ {step : Step} (first : BestStep true A.m A.from A.to weight key (λ x. start_mark (at A.marks x)) step) (settled : Settled A weight A.m step.cost key)
      (near : step.cost < far) where
    abbrev B : ℕ
    B = step.cost

    abbrev t : ℕ
    t = step.transition

    found : (t < A.m) × StartIn A.marks (at A.from t) × (B ≡ at weight t + at key (at A.to t))
    found = go (below_or_not t none)
      where
        go : (t < none) ⊎ (none ≤ t) → (t < A.m) × StartIn A.marks (at A.from t) × (B ≡ at weight t + at key (at A.to t))
        go (inl l) = first.found l
        go (inr l) = absurd (omega (arith, (first.missing l).0))

    leading : Leading A weight close key (λ s. leb (at key s) B) (at key)
    leading = record {
      at-final = keys.at-final;
      accounted = λ s l i u. exact B settled s l u (omega (arith, leb-true (at key s) B i)) (leb-true (at key s) B i);
      onward = λ s l i u t p q v. (le-leb (at key (at A.to t)) B (omega (arith, leb-true (at key s) B i, falls s t p q)), falls s t p q);
    }

    pub leads-on : {head link : List ℕ} → Chains A.from A.m head link → Readable A head link weight close key (at A.to t)
    leads-on chains = record {
      linked = record { bounded = bounded; chains = chains };
      below = bounded.arrives t found.0;
      weights = λ t l. w.most t;
      values = keys.most;
      inside = λ s. leb (at key s) B;
      rank = at key;
      leading = leading;
      within = λ u. le-leb (at key (at A.to t)) B (omega (arith, found.2));
    }

    -- an unfinished start with a key up to that of the state behind would be a better beginning
    higher : UnfinishedIn A.marks (at A.from t) → UnfinishedIn A.marks (at A.to t) → at key (at A.from t) ≤ at key (at A.to t) → ⊥
    higher u v l =
        let s = at A.from t in
        let below = w.some t found.0 in
        let (x, p, q) = keys.accounted s (bounded.leaves t found.0) u (omega (arith, found.2)) in
        omega (arith, first.over x p.listed (rw p.source found.1), found.2)

    module _ (g : Graph) (held : StandsIn A g) where
      bound : (s : ℕ) (ts : List ℕ) → RouteFrom g s ts → (at key s ≤ total g (cost_of weight close) s ts) ⊎ (B ≤ total g (cost_of weight close) s ts)
      bound = route-bound g (cost_of weight close) (λ s x. (at key s ≤ x) ⊎ (B ≤ x)) at-final over
        where
          at-final : (s : ℕ) → Final g s → (at key s ≤ at close s) ⊎ (B ≤ at close s)
          at-final s f = let (l, d) = final_in held s f in inl (omega (arith, keys.at-final s l d))

          over : (s t x : ℕ) → Unfinished g s → Departs g s t → (at key (to g t) ≤ x) ⊎ (B ≤ x)
              → (at key s ≤ at weight t + x) ⊎ (B ≤ at weight t + x)
          over s t x u d b =
              let p = leaves held d in
              let (l, e) = leads held bounded t p.listed in
              let v : UnfinishedIn A.marks (at A.from t) = rw p.source (sym (held-final held s (source-below p)) ∙ u) in
              go p (rw e at b) (settled t p.listed v)
            where
              source-below : {y : ℕ} → Leaves A s y → s < A.n
              source-below {y} p = rw p.source at (bounded.leaves y p.listed)

              go : Leaves A s t → (at key (at A.to t) ≤ x) ⊎ (B ≤ x)
                  → (at key (at A.from t) ≤ at weight t + at key (at A.to t)) ⊎ (B ≤ at weight t + at key (at A.to t))
                  → (at key s ≤ at weight t + x) ⊎ (B ≤ at weight t + x)
              go p (inl a) (inl b) = inl (omega (arith, ap (at key) p.source))
              go p (inl a) (inr b) = inr (omega arith)
              go p (inr a) b = inr (omega arith)

      pub least-shown : (k : ℕ) (before after : List ℕ) → A.n ≤ length after → TracedBy A weight close key (at key) t k before after
          → Quoted (IsLeast g (cost_of weight close)) g (cost_of weight close) (number B) k 0 before after
      least-shown k before after room a = rw found.2 (begun-quoted held bounded b l room a higher (IsLeast g (cost_of weight close)) (rw found.2 at least))
        where
          l : Leaves A (at A.from t) t
          l = record { listed = found.0; source = refl }

          b : Begins g (at A.from t)
          b = held_start held (at A.from t) (bounded.leaves t found.0) ∙ found.1

          smallest : (s : ℕ) (ts : List ℕ) → Route g s ts → B ≤ total g (cost_of weight close) s ts
          smallest s [] (d, q) = absurd q
          smallest s (u ∷ ts) (d, (e, q)) =
              let (h, y) = begins_in held s d in
              let p = leaves held e in
              let z = (leads held bounded u p.listed).1 in
              let o = first.over u p.listed (rw p.source y) in
              ⊎_elim (λ x. omega (arith, ap (at key) z)) (λ x. omega arith) (bound (to g u) ts q)

          least : IsLeast g (cost_of weight close) (number B)
          least = record { attained = (at A.from t, take k after, begun-route held bounded b l room a, begun-costs held bounded b l room a ∙ sym found.2); bound = smallest }

  -- ---- 2

  module _ (settled : Settled A weight A.m far key) (g : Graph) (held : StandsIn A g) where
    -- the states with a key
    abbrev HasKey : ℕ → Type 0
    HasKey s = (s < A.n) × (at key s < far)

    choices : Choices g (cost_of weight close) HasKey (at key) (at key)
    choices = record { at-final = λ s f. let (l, d) = final_in held s f in keys.at-final s l d; choice = choice }
      where
        choice : (s : ℕ) → HasKey s → Unfinished g s → Choice g (cost_of weight close) HasKey (at key) (at key) s
        choice s (h, l) u =
            let (t, p, q) = exact far settled s h (sym (held-final held s h) ∙ u) l (omega arith) in
            let (b, e) = leads held bounded t p.listed in
            record {
              next = t;
              departs = departs held p;
              accounts = rw e q;
              onward = λ v. rw e ((b, omega (arith, falls s t p q)), falls s t p q);
            }

    delay-le : (s : ℕ) (ts : List ℕ) → RouteFrom g s ts → delay (at weight) ts ≤ length ts * heaviest
    delay-le s [] r = omega arith
    delay-le s (t ∷ ts) (u, d, r) =
        let p = leaves held d in
        omega (arith, w.most t, delay-le (to g t) ts r)

    key_bound : (s : ℕ) → HasKey s → at key s ≤ 512 * heaviest
    key_bound s (h, l) =
        let f = follow g (cost_of weight close) HasKey (at key) (at key) choices s (λ u. (h, l)) in
        let ts = f.taken in
        let below = visits-below g (Unfinished g) (Final g) (held-closed held bounded) s ts (rw held.as_many h) f.route in
        let k : length ts < A.n = omega (arith, length-visits g s ts, different-length (states g) (visits g s ts) f.different below, held.as_many) in
        let (b, z) = final_in held (arrival g s ts) (stopped g (Unfinished g) (Final g) s ts f.route) in
        let few : length ts ≤ 511 = omega (arith, bounded.states) in
        let m : length ts * heaviest ≤ 511 * heaviest = mul-le-mul_right heaviest few in
        omega (arith, total-is g (cost_of weight close) s ts, f.costs, delay-le s ts f.route, w.close-most (arrival g s ts))

    -- whatever leads to an answer has a key
    answers_keyed : (s : ℕ) (ts : List ℕ) → RouteFrom g s ts → HasKey s
    answers_keyed s ts r = route-bound g (cost_of weight close) (λ s x. HasKey s) at-final over s ts r
      where
        at-final : (s : ℕ) → Final g s → HasKey s
        at-final s f = let (l, d) = final_in held s f in (l, omega (arith, keys.at-final s l d, w.close-most s))

        over : (s t x : ℕ) → Unfinished g s → Departs g s t → HasKey (to g t) → HasKey s
        over s t x u d b =
            let p = leaves held d in
            let (l, e) = leads held bounded t p.listed in
            let h : s < A.n = rw p.source at (bounded.leaves t p.listed) in
            let v : UnfinishedIn A.marks (at A.from t) = rw p.source (sym (held-final held s h) ∙ u) in
            let k : at key (at A.to t) ≤ 512 * heaviest = rw e at (key_bound (to g t) b) in
            (h, ⊎_elim (λ a. omega (arith, w.most t, ap (at key) p.source)) (λ a. absurd (omega (arith, w.most t))) (settled t p.listed v))

    pub no-route : ((t : ℕ) → t < A.m → StartIn A.marks (at A.from t) → far ≤ at weight t + at key (at A.to t)) → IsLeast g (cost_of weight close) NONE
    no-route none s [] (b, r) = r
    no-route none s (t ∷ ts) (b, (d, r)) =
        let (l, e) = begins_in held s b in
        let p = leaves held d in
        let z = (leads held bounded t p.listed).1 in
        omega (arith, none t p.listed (rw p.source e), key_bound (to g t) (answers_keyed (to g t) ts r), w.most t, ap (at key) z)

-- ---- settled by the best first step

module _ {A : Arrays} {weight close key : List ℕ} {step : Step} (ready : Ready A weight close step key) where
  pub taken : step.cost < far → step.transition < A.m
  taken near = (found ready.keyed ready.first ready.settled near).0

  pub readable : {head link : List ℕ} → Chains A.from A.m head link → step.cost < far → Readable A head link weight close key (at A.to step.transition)
  readable chains near = leads-on ready.keyed ready.first ready.settled near chains

  module _ {g : Graph} (held : StandsIn A g) where
    pub least-quoted : {head link : List ℕ} (chains : Chains A.from A.m head link) (near : step.cost < far) → {k : ℕ} {before after : List ℕ} → length after ≡ length before → A.n ≤ length before
        → TracedBy A weight close key (readable chains near).rank step.transition k before after
        → Quoted (IsLeast g (cost_of weight close)) g (cost_of weight close) (number step.cost) k 0 before after
    unfolding readable leads-on
    least-quoted chains near {k} {before} {after} long room x = least-shown ready.keyed ready.first ready.settled near g held k before after (omega arith) x

    pub none-quoted : far ≤ step.cost → (places : List ℕ) → Quoted (IsLeast g (cost_of weight close)) g (cost_of weight close) NONE 0 0 places places
    none-quoted l places = record {
      right = no-route ready.keyed (λ t h u. ⊎_elim inl (λ b. inr (omega arith)) (ready.settled t h u)) g held (λ t h b. omega (arith, ready.first.over t h b));
      shown = (refl, refl);
      fits = omega arith;
      later = refl;
    }
