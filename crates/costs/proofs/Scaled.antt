-- What is found over a scaled cost, read back for the cost itself.
--
-- 1. A walk costs scale times as much and extra for each of its transitions: by recursion on the transitions (`total-scaled`).
-- 2. Scale 1,024 and extra 1. A route that visits no state twice, but perhaps its first as its last, has at most 512 transitions in a plan of at most 512
--    states, so its scaled cost is its cost times 1,024 and less than 1,024 more: dividing gives the cost. Every route has such a one at no greater cost, and
--    of two such the one that costs less costs less after scaling. So the route that is least after scaling is least (`least-scaled`).
-- 3. Scale 1 and extra 0 change no cost, so no figure and nothing shown: over weights, none of which is open, where an open transition changes nothing
--    (`greatest-scaled`).
-- Assumes nothing.
use mathlib.Core.Bool.{false}
use mathlib.Core.List.{List, [], ◌∷◌}
use mathlib.Core.Logic.{inl, inr}
use mathlib.Core.Path.{◌≡◌, ◌∙◌}
use Prim.Native.Nat.{ℕ, ◌+◌, ◌*◌, ◌/◌, ◌≤◌, ◌<◌}
use native.Mathlib.Omega.{arith}
use lib.ListN.{length}
use Rattle.graph.specs.Graph.{Graph, states, count, to, Final, Unfinished, Closed}
use Rattle.graph.specs.Walk.{WalkFrom, visits, DifferentButEnds}
use Rattle.graph.specs.Route.{Cost, Route, total, HasEndlessWalk, HasOpenWalk, GoesOnForever}
use Rattle.graph.specs.Figure.{Figure, number, NONE, STRANDED, ENDLESS, Largest, IsLeast, IsGreatest, Shown}
use Rattle.graph.proofs.Simple.{begun-length}
use Rattle.graph.proofs.Walks.{start-below, after_plain}
use Rattle.graph.proofs.Least.{simple-route}
use Rattle.graph.proofs.Open.{none_open}
use Rattle.graph.proofs.Sentences.{no_heed}
use Rattle.costs.specs.Scaled.{Scaled, scale, divided}

-- ---- 1

module _ (g : Graph) (closed : Closed g) (c c' : Cost) (scale extra : ℕ) (scaled : Scaled scale extra g c c') where
  pub total-scaled : (s : ℕ) (ts : List ℕ) → s < states g → WalkFrom g s ts → total g c' s ts ≡ scale * total g c s ts + extra * length ts
  total-scaled s [] below w = omega (arith, scaled.close s below)
  total-scaled s (t ∷ ts) below w =
      let h = w.1.listed in
      omega (arith, scaled.step t h, total-scaled (to g t) ts (closed t h) w.2)

  route-scaled : (s : ℕ) (ts : List ℕ) → Route g s ts → total g c' s ts ≡ scale * total g c s ts + extra * length ts
  route-scaled s ts r = total-scaled s ts (start-below g s r.0) (after_plain g (λ x. ⊥) (Unfinished g) (Final g) s ts r.1)

-- ---- 2

module _ (g : Graph) (closed : Closed g) (small : states g ≤ 512) (c c' : Cost) (scaled : Scaled scale 1 g c c') where
  -- a route of at most n transitions: its cost times 1,024, and less than 1,024 more
  record Composite (s : ℕ) (ts : List ℕ) : Type 0 where
    pub over : scale * total g c s ts ≤ total g c' s ts
    pub under : total g c' s ts < scale * total g c s ts + scale

  composite : (s : ℕ) (ts : List ℕ) → Route g s ts → length ts ≤ states g → Composite s ts
  composite s ts r h =
      let e = route-scaled g closed c c' scale 1 scaled s ts r in
      record { over = omega arith; under = omega arith }

  -- and so one that visits no state twice, but perhaps its first as its last
  short : (s : ℕ) (ts : List ℕ) → Route g s ts → DifferentButEnds (visits g s ts) → Composite s ts
  short s ts r d = composite s ts r (begun-length g (λ x. ⊥) (Final g) closed s ts r d)

  divides : (s : ℕ) (ts : List ℕ) → Route g s ts → DifferentButEnds (visits g s ts) → total g c s ts ≡ total g c' s ts / scale
  divides s ts r d = let k = short s ts r d in omega arith

  -- no route costs less than one that is least after scaling
  none_less : (k : ℕ) → ((s : ℕ) (ts : List ℕ) → Route g s ts → k ≤ total g c' s ts) → (s : ℕ) (ts : List ℕ) → Route g s ts
      → k / scale ≤ total g c s ts
  none_less k least s ts r =
      let q = simple-route g s ts r in
      let p : Route g s q.short = (r.0, q.walk) in
      let b = short s q.short p q.different in
      omega (arith, least s q.short p, q.cheaper c)

  pub least-scaled : (f : Figure) (ts : List ℕ) (j : ℕ) → IsLeast g c' f → Shown g c' f ts j
      → IsLeast g c (divided f) × Shown g c (divided f) ts j
  least-scaled (number k) ts j u (s, r, e, d, z) =
      let q : total g c s ts ≡ k / scale = divides s ts r d ∙ rw e in
      (record { attained = (s, ts, r, q); bound = none_less k u.bound }, (s, r, q, d, z))
  least-scaled NONE ts j u shown = (u, shown)
  least-scaled STRANDED ts j u shown = absurd u
  least-scaled ENDLESS ts j u shown = absurd u

-- ---- 3

module _ (g : Graph) (closed : Closed g) (c c' : Cost) (scaled : Scaled 1 0 g c c') where
  same_total : (s : ℕ) (ts : List ℕ) → Route g s ts → total g c s ts ≡ total g c' s ts
  same_total s ts r = omega (arith, route-scaled g closed c c' 1 0 scaled s ts r)

  same-largest : (k : ℕ) → Largest g c' k → Largest g c k
  same-largest k u =
      let (s, ts, r, e) = u.attained in
      record { attained = (s, ts, r, same_total s ts r ∙ e); bound = λ x xs p. rw (same_total x xs p) (u.bound x xs p) }

  -- no transition of c' is open, and where a walk takes one that is open for c, there is an endless one too
  module _ (none : (t : ℕ) → t < count g → c'.unlimited t ≡ false) (beside : HasOpenWalk g c → HasEndlessWalk g) where
    same-forever : (GoesOnForever g c' → ⊥) → GoesOnForever g c → ⊥
    same-forever finite (inl e) = finite (inl e)
    same-forever finite (inr w) = finite (inl (beside w))

    pub greatest-scaled : (f : Figure) (ts : List ℕ) (j : ℕ) → IsGreatest g c' f → Shown g c' f ts j → IsGreatest g c f × Shown g c f ts j
    greatest-scaled (number k) ts j (started, finite, unstranded, u) (s, r, e, d, z) =
        ((started, same-forever finite, unstranded, same-largest k u), (s, r, same_total s ts r ∙ e, d, z))
    greatest-scaled NONE ts j u shown = (u, shown)
    greatest-scaled STRANDED ts j (started, finite, ends) shown = ((started, same-forever finite, ends), shown)
    greatest-scaled ENDLESS ts j (started, forever) (inl shown) = ((started, inl (no_heed g c' none forever)), inl shown)
    greatest-scaled ENDLESS ts j u (inr (s, w, e, d)) = absurd (none_open g c' none (s, ts, w))
