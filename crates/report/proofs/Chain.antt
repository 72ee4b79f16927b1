-- Procedures lower and upper return on every plan.
--
-- In both the loop goes from R and R' to R' and F(R'), where F(R') is T(R') ∪ R' or T⁻¹(R') ∩ not_final, and it goes on
-- only while R' differs from R. F keeps the order of sets, so the sets go one way: in lower each lies within the next,
-- in upper the next within each. So when R' differs from R it has more states than R, or fewer; and a plan has n
-- states, so that happens n times at most (`chain_returns`). Nothing is asked of the plan. Assumes nothing.
use Prim.Native.Nat.{ℕ, zero, suc, ◌+◌, ◌-◌, ◌≤◌, ◌<◌}
use mathlib.Core.Path.{◌≡◌, refl, ◌∙◌}
use mathlib.Core.Bool.{Bool, true, false, not, ◌&&◌, ◌||◌, and-eq-true_iff}
use mathlib.Core.Logic.{◌⊎◌, inl, inr}
use native.Mathlib.Omega.{arith}
use borrow.Author.Tests.{not-true}
use Rattle.graph.specs.Graph.{Graph, states, start, final, to}
use Rattle.report.specs.Procedure.{Procedure, Returns, while}
use Rattle.report.specs.Sets.{States, ◌∩◌, ◌∪◌, not_final_lem, empty, same, T, T⁻¹}
use Rattle.report.specs.Bounds.{Bound, Vars, lower, upper}
use Rattle.graph.proofs.Tests.{or_cases, or_left, or_right}
use Rattle.report.proofs.Loop.{returns_some, goes_on}
use Rattle.report.proofs.Sets.{T_of, in_T, T⁻¹_of, in_T⁻¹, same_comm, size, size-all, Within, smaller}

-- `Down A B`: B may come after A. `left A`: how many sets may still come after A at most.
module _ (g : Graph) (F : States → States) (more : Vars → Bool) (Down : States → States → Type 0) (left : States → ℕ)
    (keeps : (A B : States) → Down A B → Down (F A) (F B))
    (falls : (A B : States) → Down A B → same g B A ≡ false → left B < left A) where
  -- the loop of both figures
  abbrev chain : Vars → (Vars → Bound) → Procedure Vars Bound
  chain begin answer =
      while begin (λ v. not (same g v.R' v.R) && more v) (λ v. record { i = v.i + 1; R = v.R'; R' = F v.R' }) answer

  record Falling (k : ℕ) (v : Vars) : Type 0 where
    now : Down v.R v.R'
    after : Down v.R' (F v.R')
    enough : left v.R ≤ k

  fewer : (k : ℕ) (v : Vars) → Falling k v → not (not (same g v.R' v.R) && more v) ≡ false → left v.R' < k
  fewer k v f h =
      let (moved, m) = goes_on (not (same g v.R' v.R)) (more v) h in
      omega (arith, f.enough, falls v.R v.R' f.now (not-true (same g v.R' v.R) moved))

  chain_returns : (v : Vars) (answer : Vars → Bound) → Down v.R v.R' → Down v.R' (F v.R')
      → (b : Bound) × Returns (chain v answer) b
  chain_returns v answer a b =
      returns_some (chain v answer) Falling
      (λ k v f h. record { now = f.after; after = keeps v.R' (F v.R') f.after; enough = omega (arith, fewer (suc k) v f h) })
      (λ v f h. omega (arith, fewer zero v f h))
      (left v.R) (record { now = a; after = b; enough = omega arith })

module _ (g : Graph) where
  -- lower: the sets grow
  successors : States → States
  successors A = T g A ∪ A

  successors_keep : (A B : States) → Within (states g) A B → Within (states g) (successors A) (successors B)
  unfolding successors
  successors_keep A B w s l h = go (or_cases (T g A s) (A s) h)
    where
      go : (T g A s ≡ true) ⊎ (A s ≡ true) → (T g B s || B s) ≡ true
      go (inl r) = let (s', l', m, t, d, e) = T_of g A s r in or_left (T g B s) (B s) (rw e at (in_T g B s' t l' (w s' l' m) d))
      go (inr r) = or_right (T g B s) (B s) (w s l r)

  pub lower_returns : (b : Bound) × Returns (lower g) b
  unfolding successors
  lower_returns =
      chain_returns g successors (λ v. empty g (v.R ∩ final g)) (Within (states g)) (λ A. states g - size A (states g)) successors_keep
      (λ A B w h. omega (arith, smaller g A B w h, size-all B (states g)))
      (lower g).begin (lower g).answer
      (λ s l h. or_right (T g (start g) s) (start g s) h)
      (λ s l h. or_right (T g (T g (start g) ∪ start g) s) ((T g (start g) ∪ start g) s) h)

  -- upper: the sets shrink
  predecessors : States → States
  predecessors A = T⁻¹ g A ∩ not_final_lem g

  predecessors_keep : (A B : States) → Within (states g) B A → Within (states g) (predecessors B) (predecessors A)
  unfolding predecessors
  predecessors_keep A B w s l h =
      let (r, u) = (and-eq-true_iff (T⁻¹ g B s) (not (final g s))).0 h in
      let (t, d, l', m) = T⁻¹_of g B s r in
      (and-eq-true_iff (T⁻¹ g A s) (not (final g s))).1 (in_T⁻¹ g A s t l' (w (to g t) l' m) d, u)

  pub upper_returns : (b : Bound) × Returns (upper g) b
  unfolding predecessors
  upper_returns =
      chain_returns g predecessors (λ v. not (empty g (v.R' ∩ start g)))
      (λ A B. Within (states g) B A) (λ A. size A (states g)) predecessors_keep
      (λ A B w h. smaller g B A w (same_comm g A B ∙ h))
      (upper g).begin (upper g).answer
      (λ s l h. refl)
      (λ s l h. ((and-eq-true_iff (T⁻¹ g (not_final_lem g) s) (not (final g s))).0 h).1)
