-- The least figure exists, is one, and can be shown: for any cost.
--
-- Every route has one at no greater cost that visits no state twice but for its ends, and that has at most n transitions, so its cost is listed. So the
-- smallest of the list is the smallest over all routes, and where the list is empty there is no route (`least-is`). A
-- number that is least is attained by some route, so by such a one too, which costs no more and, the number being
-- least, no less (`least-shown`). Assumes nothing.
use Prim.Native.Nat.{ℕ, ◌≤◌, min}
use mathlib.Core.Path.{◌≡◌, refl, sym, ◌∙◌, ap}
use mathlib.Core.Bool.{true≢false}
use mathlib.Core.List.{List, []}
use native.Mathlib.Nat.{le_antisymm, le_trans, le_of_eq}
use Rattle.graph.specs.Graph.{Graph, Final, Closed}
use Rattle.graph.specs.Route.{Route, Cost, total}
use Rattle.graph.specs.Figure.{Figure, number, NONE, STRANDED, ENDLESS, IsLeast, Shown}
use Rattle.graph.specs.Compute.{extreme, costs, least}
use Rattle.graph.proofs.Simple.{SimpleBegun, simple-begun, begun-length}
use Rattle.graph.proofs.Extreme.{AtMost, picks-min, Covered, IsExtreme, in_costs, extreme-is, extreme_unique}

-- a route of which no state stands twice but for its ends: an unfinished start is no route
pub simple-route : (g : Graph) (s : ℕ) (ts : List ℕ) → Route g s ts → SimpleBegun g (λ s. ⊥) (Final g) s ts
simple-route g s ts r = simple-begun g (λ s. ⊥) (Final g) (λ x u f. true≢false (sym f ∙ u)) s ts r.1

module _ (g : Graph) (c : Cost) where
  cover : Closed g → Covered min AtMost picks-min g c
  cover closed s ts r =
      let q = simple-route g s ts r in
      let h = begun-length g (λ s. ⊥) (Final g) closed s q.short (r.0, q.walk) q.different in
      (total g c s q.short, in_costs g c s q.short (r.0, q.walk) h, q.cheaper c)

  is-least : (f : Figure) → IsExtreme min AtMost picks-min g c f → IsLeast g c f
  is-least (number k) h = h
  is-least NONE h = h
  is-least STRANDED h = h
  is-least ENDLESS h = h

  -- what is computed is the least figure
  pub least-is : Closed g → IsLeast g c (least g c)
  unfolding least
  least-is closed = is-least (extreme min (costs g c)) (extreme-is min AtMost picks-min g c (cover closed))

  -- and there is only one
  pub least_unique : (f h : Figure) → IsLeast g c f → IsLeast g c h → f ≡ h
  least_unique (number k) (number l) u v = ap number (extreme_unique min AtMost picks-min g c k l u v)
  least_unique (number k) NONE u v = let (s, ts, r, q) = u.attained in absurd (v s ts r)
  least_unique (number k) STRANDED u v = absurd v
  least_unique (number k) ENDLESS u v = absurd v
  least_unique NONE (number l) u v = let (s, ts, r, q) = v.attained in absurd (u s ts r)
  least_unique NONE NONE u v = refl
  least_unique NONE STRANDED u v = absurd v
  least_unique NONE ENDLESS u v = absurd v
  least_unique STRANDED h u v = absurd u
  least_unique ENDLESS h u v = absurd u

  -- so whatever is the least figure is what is computed
  pub least_computed : Closed g → (f : Figure) → IsLeast g c f → f ≡ least g c
  least_computed closed f u = least_unique f (least g c) u (least-is closed)

  -- and it can be shown
  pub least-shown : (f : Figure) → IsLeast g c f → (ts : List ℕ) × (j : ℕ) × Shown g c f ts j
  least-shown (number k) u =
      let (s, ts, r, q) = u.attained in
      let p = simple-route g s ts r in
      let cheap : total g c s p.short ≤ k = le_trans (p.cheaper c) (le_of_eq q) in
      (p.short, 0, (s, (r.0, p.walk), le_antisymm cheap (u.bound s p.short (r.0, p.walk)), p.different, refl))
  least-shown NONE u = ([], 0, (refl, refl))
  least-shown STRANDED u = absurd u
  least-shown ENDLESS u = absurd u
