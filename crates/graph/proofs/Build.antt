-- Walks put together as a search does it: one transition after another, or place by place from what stands in arrays.
--
-- A transition that departs from the last state makes the walk one longer, with one more state and its cost added
-- (`walk_snoc` and what follows). And where the states are given by place, together with what each transition does at
-- its place, the list of transitions is a walk and its states are the given ones (`walk_by_places`,
-- `visits_by_places`). All by recursion on the transitions. Assumes nothing.
use Prim.Native.Nat.{ℕ, zero, suc, ◌+◌, ◌≤◌, ◌<◌, suc-le-suc}
use mathlib.Core.Path.{◌≡◌, refl, sym, ◌∙◌, ap}
use mathlib.Core.List.{List, [], ◌∷◌, ◌++◌}
use native.Mathlib.Nat.{not-suc-le-zero, le_of_suc-le-suc, zero-add, zero-lt-suc}
use native.Mathlib.Omega.{arith}
use lib.ListN.{length}
use Rattle.graph.specs.Graph.{Graph, to, Departs}
use Rattle.graph.specs.Walk.{WalkTo, AfterStart, visits, arrival, Different}
use Rattle.graph.specs.Route.{Cost, total, delay}
use Rattle.graph.proofs.Repeat.{nth, Apart}
use Rattle.graph.proofs.Walks.{length-visits, stopped}

-- ---- one more transition

module _ (g : Graph) where
  pub arrival_snoc : (s : ℕ) (ts : List ℕ) (t : ℕ) → arrival g s (ts ++ (t ∷ [])) ≡ to g t
  arrival_snoc s [] t = refl
  arrival_snoc s (u ∷ ts) t = arrival_snoc (to g u) ts t

  pub visits_snoc : (s : ℕ) (ts : List ℕ) (t : ℕ) → visits g s (ts ++ (t ∷ [])) ≡ visits g s ts ++ (to g t ∷ [])
  visits_snoc s [] t = refl
  visits_snoc s (u ∷ ts) t = ap (λ (r : List ℕ). s ∷ r) (visits_snoc (to g u) ts t)

  pub walk_snoc : (pass stop stop' : ℕ → Type 0) (s : ℕ) (ts : List ℕ) (t : ℕ) → WalkTo g pass stop s ts
      → pass (arrival g s ts) → Departs g (arrival g s ts) t → stop' (to g t) → WalkTo g pass stop' s (ts ++ (t ∷ []))
  walk_snoc pass stop stop' s [] t w p d q = (p, d, q)
  walk_snoc pass stop stop' s (u ∷ ts) t w p d q = (w.0, w.1, walk_snoc pass stop stop' (to g u) ts t w.2 p d q)

  pub last-departs : (pass stop : ℕ → Type 0) (s : ℕ) (ts : List ℕ) (t : ℕ) → WalkTo g pass stop s (ts ++ (t ∷ []))
      → Departs g (arrival g s ts) t
  last-departs pass stop s [] t w = w.1
  last-departs pass stop s (u ∷ ts) t w = last-departs pass stop (to g u) ts t w.2

  -- a cost is the sum over the transitions, and the close at the last state
  pub total-is : (c : Cost) (s : ℕ) (ts : List ℕ) → total g c s ts ≡ delay c.step ts + c.close (arrival g s ts)
  total-is c s [] = sym (zero-add (c.close s))
  total-is c s (t ∷ ts) = omega (arith, total-is c (to g t) ts)

-- a walk of the plan, one transition longer
pub after_snoc : (g : Graph) (alone pass stop stop' : ℕ → Type 0) (s : ℕ) (ts : List ℕ) (t : ℕ) → AfterStart g alone (WalkTo g pass stop) s ts
    → ((x : ℕ) → stop x → pass x) → Departs g (arrival g s ts) t → stop' (to g t) → AfterStart g alone (WalkTo g pass stop') s (ts ++ (t ∷ []))
after_snoc g alone pass stop stop' s [] t w p d q = (d, q)
after_snoc g alone pass stop stop' s (u ∷ ts) t w p d q =
    (w.0, walk_snoc g pass stop stop' (to g u) ts t w.1 (p (arrival g (to g u) ts) (stopped g pass stop (to g u) ts w.1)) d q)

pub delay_snoc : (f : ℕ → ℕ) (ts : List ℕ) (t : ℕ) → delay f (ts ++ (t ∷ [])) ≡ delay f ts + f t
delay_snoc f [] t = omega arith
delay_snoc f (u ∷ ts) t = omega (arith, delay_snoc f ts t)

-- ---- place by place

module _ (g : Graph) (pass stop : ℕ → Type 0) where
  -- at place i the walk passes the state, departs from it, and arrives at the next
  pub record StepAt (state : ℕ → ℕ) (ts : List ℕ) (i : ℕ) : Type 0 where
    pub passes : pass (state i)
    pub departs : Departs g (state i) (nth ts i)
    pub arrives : to g (nth ts i) ≡ state (suc i)

  rest : (state : ℕ → ℕ) (t : ℕ) (ts : List ℕ) → ((i : ℕ) → i < length (t ∷ ts) → StepAt state (t ∷ ts) i) → (i : ℕ)
      → i < length ts → StepAt (λ j. state (suc j)) ts i
  rest state t ts at i h =
      let a = at (suc i) (suc-le-suc h) in
      record { passes = a.passes; departs = a.departs; arrives = a.arrives }

  pub walk_by_places : (state : ℕ → ℕ) (ts : List ℕ) → ((i : ℕ) → i < length ts → StepAt state ts i)
      → stop (state (length ts))
      → WalkTo g pass stop (state 0) ts
  walk_by_places state [] at q = q
  walk_by_places state (t ∷ ts) at q =
      let a = at 0 (zero-lt-suc (length ts)) in
      (a.passes, a.departs, rw a.arrives (walk_by_places (λ j. state (suc j)) ts (rest state t ts at) q))

  pub visits_by_places : (state : ℕ → ℕ) (ts : List ℕ) → ((i : ℕ) → i < length ts → StepAt state ts i) → (i : ℕ)
      → i ≤ length ts
      → nth (visits g (state 0) ts) i ≡ state i
  visits_by_places state [] at zero h = refl
  visits_by_places state [] at (suc i) h = absurd (not-suc-le-zero h)
  visits_by_places state (t ∷ ts) at zero h = refl
  visits_by_places state (t ∷ ts) at (suc i) h =
      let a = at 0 (zero-lt-suc (length ts)) in
      rw a.arrives (visits_by_places (λ j. state (suc j)) ts (rest state t ts at) i (le_of_suc-le-suc h))

  -- no state twice, if the given ones are apart
  pub different_by_places : (state : ℕ → ℕ) (ts : List ℕ) → ((i : ℕ) → i < length ts → StepAt state ts i)
      → Apart state (suc (length ts)) → Different (visits g (state 0) ts)
  different_by_places state ts at a i j l h e =
      let hj : j < suc (length ts) = omega (arith, length-visits g (state 0) ts) in
      a i j l hj (sym (visits_by_places state ts at i (omega arith)) ∙ e ∙ visits_by_places state ts at j (omega arith))
