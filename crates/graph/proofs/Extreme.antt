-- The smallest and the largest of a list of costs, by one argument.
--
-- `pick` takes one of two numbers, and `before` says that a number is the one to be taken rather than another: min with
-- ≤, or max with ≥ (`Picks`). So what is folded out of a list is in the list, and before all of it (`fold_in`,
-- `fold-before`). If every route has a listed cost before its own, then that number is before what any route costs, and
-- a route costs it; and if nothing is listed there is no route (`extreme-is`). Two numbers that routes cost and that
-- are before all costs are before each other, so they are equal (`extreme_unique`). Assumes nothing.
use Prim.Native.Nat.{ℕ, ◌≤◌, min, max}
use mathlib.Core.Path.{◌≡◌, refl, ◌∙◌}
use mathlib.Core.Bool.{false, false≢true}
use mathlib.Core.Logic.{◌⊎◌, inl, inr}
use mathlib.Core.List.Memᴰ
use mathlib.Core.List.{List, [], ◌∷◌}
use native.Mathlib.Nat.{le_refl, le_trans, le_antisymm, min-le_left, min-le_right, le-max_left, le-max_right}
use native.Mathlib.Nat.{min-eq_left, min-eq_right, max-eq_left, max-eq_right}
use native.Mathlib.Decide.{dec_le}
use native.Mathlib.Omega.{arith}
use lib.ListN.{length}
use Rattle.graph.specs.Graph.{Graph, states, final, Final, Unfinished}
use Rattle.graph.specs.Route.{Route, Cost, total}
use Rattle.graph.specs.Figure.{Figure, number, NONE, STRANDED, ENDLESS, Attained, Extreme}
use Rattle.graph.specs.Compute.{fold, extreme, costs, within}
use Rattle.graph.proofs.Listed.{◌∈◌, Yes, of_within, in_within}
use Rattle.graph.proofs.Walks.{after_with}

pub record Picks (pick : ℕ → ℕ → ℕ) (before : ℕ → ℕ → Type 0) : Type 0 where
  pub either : (a b : ℕ) → (pick a b ≡ a) ⊎ (pick a b ≡ b)
  pub left : (a b : ℕ) → before (pick a b) a
  pub right : (a b : ℕ) → before (pick a b) b
  pub self : (a : ℕ) → before a a
  pub trans : (a b c : ℕ) → before a b → before b c → before a c
  pub antisym : (a b : ℕ) → before a b → before b a → a ≡ b

-- the two of them
abbrev pub AtMost : ℕ → ℕ → Type 0
AtMost k x = k ≤ x

abbrev pub AtLeast : ℕ → ℕ → Type 0
AtLeast k x = x ≤ k

pub picks-min : Picks min AtMost
picks-min = record {
  either = λ a b. go a b (dec_le a b);
  left = min-le_left;
  right = min-le_right;
  self = le_refl;
  trans = λ a b c. le_trans;
  antisym = λ a b. le_antisymm;
}
  where
    go : (a b : ℕ) → Dec (a ≤ b) → (min a b ≡ a) ⊎ (min a b ≡ b)
    go a b (yes h) = inl (min-eq_left h)
    go a b (no h) = inr (min-eq_right (omega arith))

pub picks_max : Picks max AtLeast
picks_max = record {
  either = λ a b. go a b (dec_le b a);
  left = le-max_left;
  right = le-max_right;
  self = le_refl;
  trans = λ a b c h k. le_trans k h;
  antisym = λ a b h k. le_antisymm k h;
}
  where
    go : (a b : ℕ) → Dec (b ≤ a) → (max a b ≡ a) ⊎ (max a b ≡ b)
    go a b (yes h) = inl (max-eq_left h)
    go a b (no h) = inr (max-eq_right (omega arith))

module _ (g : Graph) (c : Cost) where
  -- what is listed is what some route costs, and what a route of at most n transitions costs is listed
  of_costs : (k : ℕ) → k ∈ costs g c → Attained g c k
  unfolding costs
  of_costs k m =
      let (r, n, q) = Memᴰ.of_map (λ r. total g c r.0 r.1) (within g (λ s. false) (final g)) m in
      let (b, w) = of_within g (λ s. false) (final g) r n in
      (r.0, r.1, (b, after_with g (Yes (λ s. false)) (Unfinished g) (Final g) (λ s. ⊥) (Final g) (λ x e. false≢true e) (λ x f. f) r.0 r.1 w), q)

  pub in_costs : (s : ℕ) (ts : List ℕ) → Route g s ts → length ts ≤ states g → total g c s ts ∈ costs g c
  unfolding costs
  in_costs s ts (b, w) h =
      Memᴰ.map (λ r. total g c r.0 r.1) (in_within g (λ s. false) (final g) s ts
      (b, after_with g (λ s. ⊥) (Unfinished g) (Final g) (Yes (λ s. false)) (Final g) (λ x e. absurd e) (λ x f. f) s ts w) h)

module _ (pick : ℕ → ℕ → ℕ) (before : ℕ → ℕ → Type 0) (P : Picks pick before) where
  pub fold_in : (x : ℕ) (xs : List ℕ) → fold pick x xs ∈ (x ∷ xs)
  fold_in x [] = Memᴰ.head refl
  fold_in x (y ∷ ys) = go (Memᴰ.cases_cons (fold_in x ys)) (P.either y (fold pick x ys))
    where
      z : ℕ
      z = fold pick x ys

      go : (z ≡ x) ⊎ (z ∈ ys) → (pick y z ≡ y) ⊎ (pick y z ≡ z) → pick y z ∈ (x ∷ y ∷ ys)
      go m (inl e) = Memᴰ.tail (Memᴰ.head e)
      go (inl q) (inr e) = Memᴰ.head (e ∙ q)
      go (inr m) (inr e) = Memᴰ.cast e (Memᴰ.tail (Memᴰ.tail m))

  pub fold-before : (x : ℕ) (xs : List ℕ) (k : ℕ) → k ∈ (x ∷ xs) → before (fold pick x xs) k
  fold-before x [] k m = rw (Memᴰ.eq_of_singleton m) (P.self x)
  fold-before x (y ∷ ys) k m = go (fold-before x ys k) (Memᴰ.cases_cons m)
    where
      z : ℕ
      z = fold pick x ys

      later : before z k → before (pick y z) k
      later h = P.trans _ _ _ (P.right y z) h

      go : (k ∈ (x ∷ ys) → before z k) → (k ≡ x) ⊎ (k ∈ (y ∷ ys)) → before (pick y z) k
      go ih (inl e) = later (ih (Memᴰ.head e))
      go ih (inr n) = next (Memᴰ.cases_cons n)
        where
          next : (k ≡ y) ⊎ (k ∈ ys) → before (pick y z) k
          next (inl e) = rw e (P.left y z)
          next (inr r) = later (ih (Memᴰ.tail r))

  module _ (g : Graph) (c : Cost) where
    -- some listed cost is before the route's
    abbrev pub Covered : Type 0
    Covered = (s : ℕ) (ts : List ℕ) → Route g s ts → (x : ℕ) × (x ∈ costs g c) × before x (total g c s ts)

    -- what `extreme` gives is the extreme over all routes, or there is no route
    abbrev pub IsExtreme : Figure → Type 0
    IsExtreme (number k) = Extreme before g c k
    IsExtreme NONE = (s : ℕ) (ts : List ℕ) → Route g s ts → ⊥
    IsExtreme STRANDED = ⊥
    IsExtreme ENDLESS = ⊥

    pub extreme-is : Covered → IsExtreme (extreme pick (costs g c))
    extreme-is cover = go (costs g c) refl
      where
        go : (xs : List ℕ) → costs g c ≡ xs → IsExtreme (extreme pick xs)
        go [] e = λ s ts r. let (y, m, h) = cover s ts r in Memᴰ.not-nil (rw e at m)
        go (x ∷ xs) e = record {
          attained = of_costs g c (fold pick x xs) (rw e (fold_in x xs));
          bound = λ s ts r.
              let (y, m, h) = cover s ts r in
              P.trans (fold pick x xs) y (total g c s ts) (fold-before x xs y (rw e at m)) h;
        }

    pub extreme_unique : (k l : ℕ) → Extreme before g c k → Extreme before g c l → k ≡ l
    extreme_unique k l u v =
        let (s, ts, r, q) = u.attained in
        let (s', ts', r', q') = v.attained in
        P.antisym k l (rw q' at (u.bound s' ts' r')) (rw q at (v.bound s ts r))
