-- The best step, for the least and for the greatest alike: all that is used of `Before` is that it is an order, kept by a sum, with a last number (the lemmas on it
-- come first).
--
-- The best of the transitions of some states is improved along the chain of one state more (`Choosing`): a transition that is no worse is taken (`chosen`), and one that is
-- worse is passed (`passed_over`), which, where nothing was taken yet, weighs more than every number up to `far`. At the chain's end it is the best of those states and
-- that one (`chosen-all`). Which states those are is a yes-or-no, and may be said in other words (`best-same`): so state after state they are the starts so far, and in the
-- end all starts (`starts_none` to `starts-all`). Assumes nothing.
use mathlib.Core.Bool.{Bool, true, false, ◌&&◌, ◌||◌, false≢true, true≢false}
use mathlib.Core.List.{List}
use mathlib.Core.Logic.{◌⊎◌, inl, inr, ◌≢◌}
use mathlib.Core.Path.{◌≡◌, refl, sym, ◌∙◌}
use Prim.Native.Nat.{ℕ, suc, ◌+◌, ◌≤◌, ◌<◌}
use native.Mathlib.Nat.{le_refl}
use native.Mathlib.Omega.{arith}
use borrow.Author.Tests.{ltb-true, ltb-false, lt-ltb, eqb-true, eq-eqb}
use lib.Dec.{ltb, eqb}
use Rattle.arrays.proofs.Lists.{same_or_not}
use Rattle.graph.specs.Graph.{start_mark}
use Rattle.graph.proofs.Tests.{or_cases, or_left, or_right}
use Rattle.rules.proofs.Results.{and_true}
use Rattle.search.specs.Arrays.{at}
use Rattle.search.specs.Chain.{none, Chains}
use Rattle.search.specs.Sizes.{far}
use Rattle.search.proofs.Chained.{Followed, followed-first, followed-next, followed-all}
use Rattle.best_step.specs.declared.Step.{Step}
use Rattle.best_step.specs.Steps.{Before, Better, last, weighs, BestStep}

-- ---- the order

pub before_refl : (least : Bool) (x : ℕ) → Before least x x
before_refl true x = le_refl x
before_refl false x = le_refl x

pub before-trans : (least : Bool) (x y z : ℕ) → Before least x y → Before least y z → Before least x z
before-trans true x y z p q = omega arith
before-trans false x y z p q = omega arith

pub before_add : (least : Bool) (k x y : ℕ) → Before least x y → Before least (k + x) (k + y)
before_add true k x y p = omega arith
before_add false k x y p = omega arith

-- what is worse than the last number is more than `far`
past-last : (least : Bool) (r x : ℕ) → r ≡ last least → Before least r x → (r ≡ x → ⊥) → far < x
past-last true r x e p d = omega (arith, d)
past-last false r x e p d = absurd (d (omega arith))

-- a test of two numbers says which is better
pub better_less : (x y : ℕ) → Better true x y (ltb x y)
better_less x y = record { yes = λ e. let h = ltb-true x y e in (omega arith, λ q. omega arith); no = λ e. ltb-false x y e }

pub better-more : (x y : ℕ) → Better false x y (ltb y x)
better-more x y = record { yes = λ e. let h = ltb-true y x e in (omega arith, λ q. omega arith); no = λ e. ltb-false y x e }

-- ---- along a chain

module _ (least : Bool) (m : ℕ) (from to weight value : List ℕ) (inside : ℕ → Bool) (s : ℕ) where
  -- the best of the transitions out of the states inside, and of those of s that the chain has passed as far as t
  pub record Choosing (transition cost t : ℕ) : Type 0 where
    pub found : transition < none → (transition < m) × ((inside (at from transition) ≡ true) ⊎ (at from transition ≡ s)) × (cost ≡ weighs to weight value transition)
    pub missing : none ≤ transition → (cost ≡ last least) × ((k : ℕ) → k < m → inside (at from k) ≡ true → far < weighs to weight value k)
    pub over : (k : ℕ) → k < m → inside (at from k) ≡ true → Before least cost (weighs to weight value k)
    pub followed : Followed from m (λ k. Before least cost (weighs to weight value k) × (none ≤ transition → far < weighs to weight value k)) s t

  module _ {head link : List ℕ} (chains : Chains from m head link) where
    pub chosen_none : {best : Step} {t : ℕ} → BestStep least m from to weight value inside best → s < 512 → t ≡ at head s → Choosing best.transition best.cost t
    chosen_none b h e = record {
      found = λ l. let (i, y, q) = b.found l in (i, inl y, q);
      missing = b.missing;
      over = b.over;
      followed = followed-first chains _ h e;
    }

    module _ {transition cost t u : ℕ} (r : Choosing transition cost t) (l : t < none) (e : u ≡ at link t) where
      -- a transition that is no worse is taken
      pub chosen : Before least (weighs to weight value t) cost → Choosing t (weighs to weight value t) u
      chosen b = record {
        found = λ h. let (i, q) = r.followed.here l in (i, inr q, refl);
        missing = λ h. absurd (omega arith);
        over = λ k h y. before-trans least _ cost (weighs to weight value k) b (r.over k h y);
        followed = followed-next chains _ (record { most = r.followed.most; here = r.followed.here; passed = passed }) l (before_refl least _, λ h. absurd (omega arith)) e;
      }
        where
          passed : (k : ℕ) → k < t → k < m → at from k ≡ s
              → Before least (weighs to weight value t) (weighs to weight value k) × (none ≤ t → far < weighs to weight value k)
          passed k a h q = (before-trans least _ cost (weighs to weight value k) b (r.followed.passed k a h q).0, λ n. absurd (omega arith))

      -- a worse one is passed
      pub passed_over : Before least cost (weighs to weight value t) → (cost ≡ weighs to weight value t → ⊥) → Choosing transition cost u
      passed_over b d = record {
        found = r.found;
        missing = r.missing;
        over = r.over;
        followed = followed-next chains _ r.followed l (b, λ n. past-last least cost (weighs to weight value t) (r.missing n).0 b d) e;
      }

  pub chosen-all : {transition cost t : ℕ} → m ≤ none → none ≤ t → Choosing transition cost t
      → BestStep least m from to weight value (λ x. inside x || eqb x s) (record { «transition» = transition; «cost» = cost })
  chosen-all {transition} {cost} {t} small h r = record { found = found; missing = λ n. ((r.missing n).0, λ k b y. (either k b y).1 n); over = λ k b y. (either k b y).0 }
    where
      found : transition < none → (transition < m) × ((inside (at from transition) || eqb (at from transition) s) ≡ true) × (cost ≡ weighs to weight value transition)
      found l = let (i, y, q) = r.found l in (i, go y, q)
        where
          go : (inside (at from transition) ≡ true) ⊎ (at from transition ≡ s) → (inside (at from transition) || eqb (at from transition) s) ≡ true
          go (inl y) = or_left (inside (at from transition)) (eqb (at from transition) s) y
          go (inr y) = or_right (inside (at from transition)) (eqb (at from transition) s) (eq-eqb (at from transition) s y)

      either : (k : ℕ) → k < m → (inside (at from k) || eqb (at from k) s) ≡ true
          → Before least cost (weighs to weight value k) × (none ≤ transition → far < weighs to weight value k)
      either k b y = go (or_cases (inside (at from k)) (eqb (at from k) s) y)
        where
          go : (inside (at from k) ≡ true) ⊎ (eqb (at from k) s ≡ true) → Before least cost (weighs to weight value k) × (none ≤ transition → far < weighs to weight value k)
          go (inl y) = (r.over k b y, λ n. (r.missing n).1 k b y)
          go (inr y) = followed-all r.followed small h k b (eqb-true (at from k) s y)

-- ---- over the states

module _ {least : Bool} {m : ℕ} {from to weight value : List ℕ} {inside inside' : ℕ → Bool} {step : Step} where
  -- which states those are, in other words
  pub best-same : ((t : ℕ) → t < m → inside (at from t) ≡ true → inside' (at from t) ≡ true) → ((t : ℕ) → t < m → inside' (at from t) ≡ true → inside (at from t) ≡ true)
      → BestStep least m from to weight value inside step → BestStep least m from to weight value inside' step
  best-same there back b = record {
    found = λ l. let (h, y, q) = b.found l in (h, there step.transition h y, q);
    missing = λ n. let (e, f) = b.missing n in (e, λ t h y. f t h (back t h y));
    over = λ t h y. b.over t h (back t h y);
  }

-- the starts below i
abbrev pub starts_below : List ℕ → ℕ → ℕ → Bool
starts_below marks i x = ltb x i && start_mark (at marks x)

module _ (marks : List ℕ) where
  in_starts : (i x : ℕ) → x < i → start_mark (at marks x) ≡ true → starts_below marks i x ≡ true
  in_starts i x h b = rw (lt-ltb x i h, b) refl

  of_starts : (i x : ℕ) → starts_below marks i x ≡ true → (x < i) × (start_mark (at marks x) ≡ true)
  of_starts i x y = let (a, b) = and_true (ltb x i) (start_mark (at marks x)) y in (ltb-true x i a, b)

  module _ {least : Bool} {m : ℕ} {from to weight value : List ℕ} {step : Step} where
    pub starts_none : BestStep least m from to weight value (λ x. false) step → BestStep least m from to weight value (starts_below marks 0) step
    starts_none b = best-same (λ t h y. absurd (false≢true y)) (λ t h y. absurd (omega (arith, (of_starts 0 (at from t) y).0))) b

    -- one start more
    pub starts_more : (s : ℕ) → start_mark (at marks s) ≡ true → BestStep least m from to weight value (λ x. starts_below marks s x || eqb x s) step
        → BestStep least m from to weight value (starts_below marks (suc s)) step
    starts_more s start b =
        best-same (λ t h y. there (at from t) (or_cases (starts_below marks s (at from t)) (eqb (at from t) s) y)) (λ t h y. back (at from t) (same_or_not (at from t) s) y) b
      where
        there : (x : ℕ) → (starts_below marks s x ≡ true) ⊎ (eqb x s ≡ true) → starts_below marks (suc s) x ≡ true
        there x (inl y) = let (l, q) = of_starts s x y in in_starts (suc s) x (omega arith) q
        there x (inr y) = let e = eqb-true x s y in in_starts (suc s) x (omega arith) (rw e start)

        back : (x : ℕ) → (x ≡ s) ⊎ (x ≢ s) → starts_below marks (suc s) x ≡ true → (starts_below marks s x || eqb x s) ≡ true
        back x (inl e) y = or_right (starts_below marks s x) (eqb x s) (eq-eqb x s e)
        back x (inr d) y = let (l, q) = of_starts (suc s) x y in or_left (starts_below marks s x) (eqb x s) (in_starts s x (omega (arith, d)) q)

    -- one state more that is no start
    pub starts-kept : (s : ℕ) → start_mark (at marks s) ≡ false → BestStep least m from to weight value (starts_below marks s) step
        → BestStep least m from to weight value (starts_below marks (suc s)) step
    starts-kept s other b =
        best-same (λ t h y. let (l, q) = of_starts s (at from t) y in in_starts (suc s) (at from t) (omega arith) q) (λ t h y. back (at from t) (same_or_not (at from t) s) y) b
      where
        back : (x : ℕ) → (x ≡ s) ⊎ (x ≢ s) → starts_below marks (suc s) x ≡ true → starts_below marks s x ≡ true
        back x (inl e) y = absurd (true≢false (sym (of_starts (suc s) x y).1 ∙ rw e other))
        back x (inr d) y = let (l, q) = of_starts (suc s) x y in in_starts s x (omega (arith, d)) q

    -- all of them
    pub starts-all : (n : ℕ) → ((t : ℕ) → t < m → at from t < n) → BestStep least m from to weight value (starts_below marks n) step
        → BestStep least m from to weight value (λ x. start_mark (at marks x)) step
    starts-all n below b = best-same (λ t h y. (of_starts n (at from t) y).1) (λ t h y. in_starts n (at from t) (below t h) y) b
