-- What is in the sets of pairs of specs/Counts.antt.
--
-- The sets are listed, so each fact is by recursion on the list, or on the numbers below n that it is gathered over:
-- which pairs R ∩ Final and R ∩ Not_final keep; that the first pairs are the starts, each with its count; and that T's
-- pairs are those that a transition leads to, each with the count of its state added (`Follows`). Assumes nothing.
use Prim.Native.Nat.{ℕ, ◌+◌, ◌<◌}
use mathlib.Core.Path.{◌≡◌, refl, sym, ◌∙◌, ap}
use mathlib.Core.Bool.{Bool, true, false, not, ◌&&◌, ◌||◌, and-eq-true_iff}
use mathlib.Core.Logic.{◌⊎◌, inl, inr}
use mathlib.Core.List.Memᴰ
use mathlib.Core.List.{[], ◌∷◌, ◌++◌}
use native.Mathlib.Omega.{arith}
use lib.Dec.{eqb}
use borrow.Author.Tests.{eqb-true, eq-eqb, not-true}
use Rattle.graph.specs.Graph.{Graph, states, start}
use Rattle.graph.specs.Walk.{Begins}
use Rattle.graph.specs.Route.{one}
use Rattle.graph.specs.Compute.{given, gather}
use Rattle.graph.proofs.Tests.{decided, or_cases, or_left, or_right}
use Rattle.graph.proofs.Listed.{◌∈◌, of_given, in_given, of_gather, in_gather}
use Rattle.report.specs.Sets.{States, ◌∩◌, N}
use Rattle.report.specs.Counts.{Pairs, paired, those, at, Nₐ, Tₐ}

-- ---- those pairs that a test accepts, and the pairs at some states

of_those : (p : ℕ × ℕ → Bool) (U : Pairs) {u : ℕ × ℕ} → u ∈ those p U → (p u ≡ true) × (u ∈ U)
unfolding those
of_those p [] m = absurd (Memᴰ.not-nil m)
of_those p (x ∷ xs) {u} m = go (of_those p xs) (Memᴰ.append_cases (given (p x) (x ∷ [])) m)
  where
    go : (u ∈ those p xs → (p u ≡ true) × (u ∈ xs)) → (u ∈ given (p x) (x ∷ [])) ⊎ (u ∈ those p xs)
        → (p u ≡ true) × (u ∈ (x ∷ xs))
    go ih (inl l) = let (a, n) = of_given (p x) l in let e : u ≡ x = Memᴰ.eq_of_singleton n in (ap p e ∙ a, Memᴰ.head e)
    go ih (inr r) = let (a, n) = ih r in (a, Memᴰ.tail n)

in_those : (p : ℕ × ℕ → Bool) (U : Pairs) {u : ℕ × ℕ} → u ∈ U → p u ≡ true → u ∈ those p U
unfolding those
in_those p [] m a = absurd (Memᴰ.not-nil m)
in_those p (x ∷ xs) {u} m a = go (in_those p xs) (Memᴰ.cases_cons m)
  where
    go : (u ∈ xs → p u ≡ true → u ∈ those p xs) → (u ≡ x) ⊎ (u ∈ xs) → u ∈ (given (p x) (x ∷ []) ++ those p xs)
    go ih (inl e) = Memᴰ.append_left (those p xs) (in_given (p x) (ap p (sym e) ∙ a) (Memᴰ.head e))
    go ih (inr r) = Memᴰ.append_right (given (p x) (x ∷ [])) (ih r a)

pub of_at : (A : States) (U : Pairs) {u : ℕ × ℕ} → u ∈ at A U → (A u.0 ≡ true) × (u ∈ U)
of_at A U m = of_those (λ u. A u.0) U m

pub in_at : (A : States) (U : Pairs) {u : ℕ × ℕ} → u ∈ U → A u.0 ≡ true → u ∈ at A U
in_at A U m a = in_those (λ u. A u.0) U m a

-- ---- the first pairs: the starts, each with 1 if it is in cond and with 0 if not

of_paired : (g : Graph) (A : States) (k : ℕ) {u : ℕ × ℕ} → u ∈ paired g A k
    → (u.0 < states g) × (A u.0 ≡ true) × (u.1 ≡ k)
of_paired g A k {u} m =
    let (s, l, n) = of_gather (λ (s : ℕ). given (A s) ((s, k) ∷ [])) (states g) m in
    let (a, o) = of_given (A s) n in
    let e : u ≡ (s, k) = Memᴰ.eq_of_singleton o in
    (rw e l, ap (λ (y : ℕ × ℕ). A y.0) e ∙ a, ap (λ (y : ℕ × ℕ). y.1) e)

in_paired : (g : Graph) (A : States) (k s : ℕ) → s < states g → A s ≡ true → (s, k) ∈ paired g A k
in_paired g A k s l a = in_gather (λ (s : ℕ). given (A s) ((s, k) ∷ [])) (states g) s l (in_given (A s) a (Memᴰ.head refl))

-- 1 where it says yes and 0 where it says no
one_yes : {b : Bool} → b ≡ true → one b ≡ 1
one_yes e = ap one e

one-no : {b : Bool} → b ≡ false → one b ≡ 0
one-no e = ap one e

abbrev first_pairs : Graph → States → Pairs
first_pairs g c = paired g (start g ∩ c) 1 ++ paired g (start g ∩ (λ s. not (c s))) 0

pub of_first : (g : Graph) (c : States) {u : ℕ × ℕ} → u ∈ first_pairs g c
    → (u.0 < states g) × Begins g u.0 × (u.1 ≡ one (c u.0))
of_first g c {u} m = go (Memᴰ.append_cases (paired g (start g ∩ c) 1) m)
  where
    go : (u ∈ paired g (start g ∩ c) 1) ⊎ (u ∈ paired g (start g ∩ (λ s. not (c s))) 0)
        → (u.0 < states g) × Begins g u.0 × (u.1 ≡ one (c u.0))
    go (inl n) =
        let (l, a, k) = of_paired g (start g ∩ c) 1 n in
        let (b, y) = (and-eq-true_iff (start g u.0) (c u.0)).0 a in
        (l, b, k ∙ sym (one_yes y))
    go (inr n) =
        let (l, a, k) = of_paired g (start g ∩ (λ (s : ℕ). not (c s))) 0 n in
        let (b, y) = (and-eq-true_iff (start g u.0) (not (c u.0))).0 a in
        (l, b, k ∙ sym (one-no (not-true (c u.0) y)))

pub in_first : (g : Graph) (c : States) (s : ℕ) → s < states g → Begins g s → (s, one (c s)) ∈ first_pairs g c
in_first g c s l b = go (decided (c s))
  where
    go : (c s ≡ true) ⊎ (c s ≡ false) → (s, one (c s)) ∈ first_pairs g c
    go (inl y) =
        Memᴰ.append_left (paired g (start g ∩ (λ s. not (c s))) 0)
        (Memᴰ.cast (ap (λ (k : ℕ). (s, k)) (one_yes y)) (in_paired g (start g ∩ c) 1 s l ((and-eq-true_iff (start g s) (c s)).1 (b, y))))
    go (inr y) =
        Memᴰ.append_right (paired g (start g ∩ c) 1)
        (Memᴰ.cast (ap (λ (k : ℕ). (s, k)) (one-no y))
        (in_paired g (start g ∩ (λ s. not (c s))) 0 s l ((and-eq-true_iff (start g s) (not (c s))).1 (b, ap not y))))

-- ---- the next pairs

-- there is a transition from the one state to the other, and the other's count is added
pub record Follows (g : Graph) (c : States) (u u' : ℕ × ℕ) : Type 0 where
  pub joined : N g u.0 u'.0 ≡ true
  pub adds : u'.1 ≡ u.1 + one (c u'.0)

-- N_a says just that
module _ (g : Graph) (c : States) (u u' : ℕ × ℕ) where
  counts_one : Bool
  counts_one = c u'.0 && eqb u'.1 (u.1 + 1)

  counts_none : Bool
  counts_none = not (c u'.0) && eqb u'.1 u.1

  of_Nₐ : Nₐ g c u u' ≡ true → Follows g c u u'
  unfolding Nₐ counts_one counts_none
  of_Nₐ h =
      let (n, k) = (and-eq-true_iff (N g u.0 u'.0) (counts_one || counts_none)).0 h in
      record { joined = n; adds = go (or_cases counts_one counts_none k) }
    where
      go : (counts_one ≡ true) ⊎ (counts_none ≡ true) → u'.1 ≡ u.1 + one (c u'.0)
      go (inl a) =
          let (y, e) = (and-eq-true_iff (c u'.0) (eqb u'.1 (u.1 + 1))).0 a in
          omega (arith, eqb-true u'.1 (u.1 + 1) e, one_yes y)
      go (inr a) =
          let (y, e) = (and-eq-true_iff (not (c u'.0)) (eqb u'.1 u.1)).0 a in
          omega (arith, eqb-true u'.1 u.1 e, one-no (not-true (c u'.0) y))

  in_Nₐ : Follows g c u u' → Nₐ g c u u' ≡ true
  unfolding Nₐ counts_one counts_none
  in_Nₐ f = (and-eq-true_iff (N g u.0 u'.0) (counts_one || counts_none)).1 (f.joined, go (decided (c u'.0)))
    where
      go : (c u'.0 ≡ true) ⊎ (c u'.0 ≡ false) → (counts_one || counts_none) ≡ true
      go (inl y) =
          let e : u'.1 ≡ u.1 + 1 = omega (arith, f.adds, one_yes y) in
          or_left counts_one counts_none ((and-eq-true_iff (c u'.0) (eqb u'.1 (u.1 + 1))).1 (y, eq-eqb u'.1 (u.1 + 1) e))
      go (inr y) =
          let e : u'.1 ≡ u.1 = omega (arith, f.adds, one-no y) in
          or_right counts_one counts_none ((and-eq-true_iff (not (c u'.0)) (eqb u'.1 u.1)).1 (ap not y, eq-eqb u'.1 u.1 e))

-- the next pairs of one pair at one state: its number and the next are all that N_a allows
abbrev pair_choices : ℕ × ℕ → ℕ → Pairs
pair_choices u s' = (s', u.1 + 1) ∷ (s', u.1) ∷ []

chosen_at : (u u' : ℕ × ℕ) (s' : ℕ) → u' ∈ pair_choices u s' → u'.0 ≡ s'
chosen_at u u' s' m = go (Memᴰ.cases_cons m)
  where
    go : (u' ≡ (s', u.1 + 1)) ⊎ (u' ∈ ((s', u.1) ∷ [])) → u'.0 ≡ s'
    go (inl e) = ap (λ (y : ℕ × ℕ). y.0) e
    go (inr n) = ap (λ (y : ℕ × ℕ). y.0) (Memᴰ.eq_of_singleton n)

a_choice : (g : Graph) (c : States) (u u' : ℕ × ℕ) → Follows g c u u' → u' ∈ pair_choices u u'.0
a_choice g c u u' f = go (decided (c u'.0))
  where
    go : (c u'.0 ≡ true) ⊎ (c u'.0 ≡ false) → u' ∈ pair_choices u u'.0
    go (inl y) = let e : u'.1 ≡ u.1 + 1 = omega (arith, f.adds, one_yes y) in Memᴰ.head (ap (λ (k : ℕ). (u'.0, k)) e)
    go (inr y) = let e : u'.1 ≡ u.1 = omega (arith, f.adds, one-no y) in Memᴰ.tail (Memᴰ.head (ap (λ (k : ℕ). (u'.0, k)) e))

pub of_Tₐ : (g : Graph) (c : States) (U : Pairs) {u' : ℕ × ℕ} → u' ∈ Tₐ g c U
    → (u : ℕ × ℕ) × (u ∈ U) × (u'.0 < states g) × Follows g c u u'
unfolding Tₐ
of_Tₐ g c [] m = absurd (Memᴰ.not-nil m)
of_Tₐ g c (x ∷ xs) {u'} m = go (of_Tₐ g c xs) (Memᴰ.append_cases (gather (λ s'. those (Nₐ g c x) (pair_choices x s')) (states g)) m)
  where
    go : (u' ∈ Tₐ g c xs → (u : ℕ × ℕ) × (u ∈ xs) × (u'.0 < states g) × Follows g c u u')
        → (u' ∈ gather (λ s'. those (Nₐ g c x) (pair_choices x s')) (states g)) ⊎ (u' ∈ Tₐ g c xs)
        → (u : ℕ × ℕ) × (u ∈ (x ∷ xs)) × (u'.0 < states g) × Follows g c u u'
    go ih (inl l) =
        let (s', h, n) = of_gather (λ s'. those (Nₐ g c x) (pair_choices x s')) (states g) l in
        let (a, o) = of_those (Nₐ g c x) (pair_choices x s') n in
        (x, Memᴰ.head refl, rw (chosen_at x u' s' o) h, of_Nₐ g c x u' a)
    go ih (inr r) = let (u, n, h, f) = ih r in (u, Memᴰ.tail n, h, f)

pub in_Tₐ : (g : Graph) (c : States) (U : Pairs) {u : ℕ × ℕ} (u' : ℕ × ℕ) → u ∈ U → u'.0 < states g → Follows g c u u'
    → u' ∈ Tₐ g c U
unfolding Tₐ
in_Tₐ g c [] u' m h f = absurd (Memᴰ.not-nil m)
in_Tₐ g c (x ∷ xs) {u} u' m h f = go (in_Tₐ g c xs u') (Memᴰ.cases_cons m)
  where
    go : (u ∈ xs → u'.0 < states g → Follows g c u u' → u' ∈ Tₐ g c xs) → (u ≡ x) ⊎ (u ∈ xs)
        → u' ∈ (gather (λ s'. those (Nₐ g c x) (pair_choices x s')) (states g) ++ Tₐ g c xs)
    go ih (inl e) =
        let f' : Follows g c x u' = rw e at f in
        let n = in_those (Nₐ g c x) (pair_choices x u'.0) (a_choice g c x u' f') (in_Nₐ g c x u' f') in
        Memᴰ.append_left (Tₐ g c xs) (in_gather (λ s'. those (Nₐ g c x) (pair_choices x s')) (states g) u'.0 h n)
    go ih (inr r) = Memᴰ.append_right (gather (λ s'. those (Nₐ g c x) (pair_choices x s')) (states g)) (ih r h f)
