-- What the tests and the operations of specs/Sets.antt say of states.
--
-- A search for a number below n that a test accepts finds one exactly if there is one (`any_of`, `in_any` of graph).
-- All tests and operations are such searches: so an empty set has no state, the same set the same states, and N, T and
-- T⁻¹ are what transitions of the plan join. Last, the number of states in a set, by recursion on n: a set within
-- another that is not the same has fewer (`smaller`). Assumes nothing.
use Prim.Native.Nat.{ℕ, zero, suc, ◌+◌, ◌≤◌, ◌<◌}
use mathlib.Core.Path.{◌≡◌, refl, sym, ◌∙◌, ap, fun_ext}
use mathlib.Core.Bool.{Bool, true, false, not, ◌&&◌, beq, true≢false, false≢true, and-eq-true_iff}
use mathlib.Core.Logic.{◌⊎◌, inl, inr}
use native.Mathlib.Nat.{lt-suc_self, le_step}
use native.Mathlib.Omega.{arith}
use lib.Dec.{eqb}
use borrow.Author.Tests.{eqb-true, eq-eqb, not-true, not-false}
use Rattle.graph.specs.Graph.{Graph, states, count, from, to, Departs}
use Rattle.graph.specs.Route.{one}
use Rattle.graph.specs.Compute.{any}
use Rattle.graph.proofs.Tests.{or_cases, any_of, in_any, none_of}
use Rattle.report.specs.Sets.{States, ◌Δ◌, empty, same, N, T, T⁻¹}

-- an empty set has no state, and one that is not empty has one
pub of_empty : (g : Graph) (A : States) → empty g A ≡ true → (s : ℕ) → s < states g → A s ≡ true → ⊥
unfolding empty
of_empty g A h s l a = true≢false (sym (in_any A (states g) s l a) ∙ not-true (any A (states g)) h)

pub of_not_empty : (g : Graph) (A : States) → empty g A ≡ false → (s : ℕ) × (s < states g) × (A s ≡ true)
unfolding empty
of_not_empty g A h = any_of A (states g) (not-false (any A (states g)) h)

-- the same set has the same states
not_apart : (a b : Bool) → not (beq a b) ≡ false → a ≡ b
not_apart true true h = refl
not_apart true false h = absurd (true≢false h)
not_apart false true h = absurd (true≢false h)
not_apart false false h = refl

pub of_same : (g : Graph) (A B : States) → same g A B ≡ true → (s : ℕ) → s < states g → A s ≡ B s
unfolding same empty
of_same g A B h s l = not_apart (A s) (B s) (none_of (A Δ B) (states g) (not-true (any (A Δ B) (states g)) h) s l)

beq_comm : (a b : Bool) → beq a b ≡ beq b a
beq_comm true true = refl
beq_comm true false = refl
beq_comm false true = refl
beq_comm false false = refl

pub same_comm : (g : Graph) (A B : States) → same g A B ≡ same g B A
unfolding same
same_comm g A B = ap (empty g) (fun_ext (λ s. ap not (beq_comm (A s) (B s))))

-- ---- successors and predecessors

pub N_of : (g : Graph) (s s' : ℕ) → N g s s' ≡ true → (t : ℕ) × Departs g s t × (to g t ≡ s')
unfolding N
N_of g s s' h =
    let (t, l, a) = any_of (λ (t : ℕ). eqb (from g t) s && eqb (to g t) s') (count g) h in
    let (f, o) = (and-eq-true_iff (eqb (from g t) s) (eqb (to g t) s')).0 a in
    (t, record { listed = l; source = eqb-true (from g t) s f }, eqb-true (to g t) s' o)

pub in_N : (g : Graph) (s t : ℕ) → Departs g s t → N g s (to g t) ≡ true
unfolding N
in_N g s t d =
    in_any (λ (t' : ℕ). eqb (from g t') s && eqb (to g t') (to g t)) (count g) t d.listed
    ((and-eq-true_iff (eqb (from g t) s) (eqb (to g t) (to g t))).1 (eq-eqb (from g t) s d.source, eq-eqb (to g t) (to g t) refl))

pub T_of : (g : Graph) (A : States) (s' : ℕ) → T g A s' ≡ true
    → (s : ℕ) × (s < states g) × (A s ≡ true) × (t : ℕ) × Departs g s t × (to g t ≡ s')
unfolding T
T_of g A s' h =
    let (s, l, a) = any_of (λ (s : ℕ). A s && N g s s') (states g) h in
    let (m, n) = (and-eq-true_iff (A s) (N g s s')).0 a in
    let (t, d, e) = N_of g s s' n in
    (s, l, m, t, d, e)

pub in_T : (g : Graph) (A : States) (s t : ℕ) → s < states g → A s ≡ true → Departs g s t → T g A (to g t) ≡ true
unfolding T
in_T g A s t l m d =
    in_any (λ (s : ℕ). A s && N g s (to g t)) (states g) s l ((and-eq-true_iff (A s) (N g s (to g t))).1 (m, in_N g s t d))

pub T⁻¹_of : (g : Graph) (A : States) (s : ℕ) → T⁻¹ g A s ≡ true
    → (t : ℕ) × Departs g s t × (to g t < states g) × (A (to g t) ≡ true)
unfolding T⁻¹
T⁻¹_of g A s h =
    let (s', l, a) = any_of (λ (s' : ℕ). A s' && N g s s') (states g) h in
    let (m, n) = (and-eq-true_iff (A s') (N g s s')).0 a in
    let (t, d, e) = N_of g s s' n in
    (t, d, rw e l, rw e m)

pub in_T⁻¹ : (g : Graph) (A : States) (s t : ℕ) → to g t < states g → A (to g t) ≡ true → Departs g s t
    → T⁻¹ g A s ≡ true
unfolding T⁻¹
in_T⁻¹ g A s t l m d =
    let both = (and-eq-true_iff (A (to g t)) (N g s (to g t))).1 (m, in_N g s t d) in
    in_any (λ (s' : ℕ). A s' && N g s s') (states g) (to g t) l both

-- ---- how many states a set has

unfoldable pub size : States → ℕ → ℕ
size A zero = 0
size A (suc n) = one (A n) + size A n

abbrev pub Within : ℕ → States → States → Type 0
Within n A B = (s : ℕ) → s < n → A s ≡ true → B s ≡ true

one_mono : (a b : Bool) → (a ≡ true → b ≡ true) → one a ≤ one b
one_mono true true h = omega arith
one_mono true false h = absurd (false≢true (h refl))
one_mono false true h = omega arith
one_mono false false h = omega arith

one-lt : (a b : Bool) → (a ≡ true → b ≡ true) → not (beq b a) ≡ true → one a < one b
one-lt true true h d = absurd (false≢true d)
one-lt true false h d = absurd (false≢true (h refl))
one-lt false true h d = omega arith
one-lt false false h d = absurd (false≢true d)

pub size-all : (A : States) (n : ℕ) → size A n ≤ n
unfolding size
size-all A zero = omega arith
size-all A (suc n) = omega (arith, one_mono (A n) true (λ _. refl), size-all A n)

size-le : (A B : States) (n : ℕ) → Within n A B → size A n ≤ size B n
unfolding size
size-le A B zero w = omega arith
size-le A B (suc n) w = omega (arith, one_mono (A n) (B n) (w n (lt-suc_self n)), size-le A B n (λ s h. w s (le_step h)))

-- a set within another that is not the same one has fewer states
size-lt : (A B : States) (n : ℕ) → Within n A B → any (B Δ A) n ≡ true → size A n < size B n
unfolding size any
size-lt A B zero w d = absurd (false≢true d)
size-lt A B (suc n) w d = go (size-lt A B n (λ s h. w s (le_step h))) (or_cases (any (B Δ A) n) ((B Δ A) n) d)
  where
    go : (any (B Δ A) n ≡ true → size A n < size B n) → (any (B Δ A) n ≡ true) ⊎ ((B Δ A) n ≡ true)
        → one (A n) + size A n < one (B n) + size B n
    go ih (inl l) = omega (arith, ih l, one_mono (A n) (B n) (w n (lt-suc_self n)))
    go ih (inr r) = omega (arith, one-lt (A n) (B n) (w n (lt-suc_self n)) r, size-le A B n (λ s h. w s (le_step h)))

pub smaller : (g : Graph) (A B : States) → Within (states g) A B → same g B A ≡ false
    → size A (states g) < size B (states g)
unfolding same
smaller g A B w h = size-lt A B (states g) w (not-false (any (B Δ A) (states g)) h)
