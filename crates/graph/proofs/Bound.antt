-- What is shown fits into n places, and no number is too large for the record.
--
-- The states of what is shown are below n and differ, all of them for STRANDED, all but the last for a number or
-- ENDLESS; so the transitions are at most n. A route that is shown for a number has at most 512 transitions, n being at most 512,
-- each of at most 2,047 seconds: 1,048,064 seconds, or 513 counted states. A high that is a number is at most 2,046, so
-- a greatest delay is at most 1,047,552 seconds. Assumes nothing.
use Prim.Native.Nat.{ℕ, ◌+◌, ◌*◌, ◌≤◌, ◌<◌, zero-le}
use mathlib.Core.Path.{◌≡◌, refl}
use mathlib.Core.Bool.{Bool, true, false, cond}
use mathlib.Core.List.{List}
use mathlib.Core.Logic.{inl, inr}
use native.Mathlib.Nat.{mul-le-mul_right}
use native.Mathlib.Omega.{arith}
use lib.Dec.{eqb}
use lib.ListN.{length}
use borrow.Author.Tests.{eqb-false}
use Rattle.graph.specs.declared.Duration.TheVariants.{Seconds, Open}
use Rattle.graph.specs.Graph.{Graph, states, count, from, low, high, Final, Unfinished, NoneDeparts, DeadEnd, Closed}
use Rattle.graph.specs.Walk.{visits}
use Rattle.graph.specs.Route.{Cost, limit, seconds, lows, highs, counts}
use Rattle.graph.specs.declared.Which.TheVariants.{LeastDelay, GreatestDelay, LeastCount, GreatestCount}
use Rattle.graph.specs.Figure.{Figure, number, NONE, STRANDED, ENDLESS, IsLeast, IsGreatest, Shown, most}
use Rattle.graph.proofs.Repeat.{different-ends}
use Rattle.graph.proofs.Walks.{after_plain}
use Rattle.graph.proofs.Open.{open_plain}
use Rattle.graph.proofs.Simple.{left-length, begun-length}
use Rattle.graph.proofs.Cost.{total-le, one-le}
use Rattle.graph.proofs.Least.{least-shown}
use Rattle.graph.proofs.Greatest.{greatest-shown}

module _ (g : Graph) (closed : Closed g) (c : Cost) where
  -- "n places" are enough for every walk that is shown
  pub shown-fits : (f : Figure) (ts : List ℕ) (j : ℕ) → Shown g c f ts j → length ts ≤ states g
  shown-fits (number k) ts j (s, r, q, d, z) = begun-length g (λ x. ⊥) (Final g) closed s ts r d
  shown-fits STRANDED ts j (s, w, d, z) = begun-length g (NoneDeparts g) (DeadEnd g) closed s ts w (different-ends (visits g s ts) d)
  shown-fits ENDLESS ts j (inl (s, (b, w), l, e, d)) = left-length g closed s ts b (after_plain g (λ x. Unit) (Unfinished g) (Unfinished g) s ts w) d
  shown-fits ENDLESS ts j (inr (s, w, e, d)) = left-length g closed s ts w.unfinished.0 (open_plain g c s ts w) d
  shown-fits NONE ts j (e, z) = omega arith

  -- so every figure can be shown within n places
  pub least-within : (f : Figure) → IsLeast g c f → (ts : List ℕ) × (j : ℕ) × Shown g c f ts j × (length ts ≤ states g)
  least-within f u = let (ts, j, shown) = least-shown g c f u in (ts, j, shown, shown-fits f ts j shown)

  pub greatest-within : (f : Figure) → IsGreatest g c f
      → (ts : List ℕ) × (j : ℕ) × Shown g c f ts j × (length ts ≤ states g)
  greatest-within f u = let (ts, j, shown) = greatest-shown g c closed f u in (ts, j, shown, shown-fits f ts j shown)

  -- a route that repeats no state but for its ends, in a plan of at most 512 states
  pub transitions-le : states g ≤ 512 → (k : ℕ) (ts : List ℕ) (j : ℕ) → Shown g c (number k) ts j → length ts ≤ 512
  transitions-le small k ts j shown = omega (arith, shown-fits (number k) ts j shown)

-- what it costs, where a transition costs at most a and the last state adds at most b
module _ (g : Graph) (closed : Closed g) (c : Cost) (small : states g ≤ 512)
    (a b : ℕ) (step-le : (t : ℕ) → t < count g → c.step t ≤ a) (close-le : (s : ℕ) → c.close s ≤ b) (k : ℕ) where
  pub shown-number-le : (ts : List ℕ) (j : ℕ) → Shown g c (number k) ts j → k ≤ 512 * a + b
  shown-number-le ts j (s, r, e, d, z) =
      let h : length ts * a ≤ 512 * a = mul-le-mul_right a (transitions-le g closed c small k ts j (s, r, e, d, z)) in
      let w = after_plain g (λ x. ⊥) (Unfinished g) (Final g) s ts r.1 in
      omega (arith, total-le g c a b (λ x. Unit) (λ x. Unit) step-le close-le s ts w)

  pub least-number-le : IsLeast g c (number k) → k ≤ 512 * a + b
  least-number-le u = let (ts, j, shown) = least-shown g c (number k) u in shown-number-le ts j shown

  pub greatest-number-le : IsGreatest g c (number k) → k ≤ 512 * a + b
  greatest-number-le u = let (ts, j, shown) = greatest-shown g c closed (number k) u in shown-number-le ts j shown

-- a high of 2,047 is no number
pub seconds-le : (high : ℕ) → high ≤ 2047 → seconds (limit high) ≤ 2046
seconds-le high h = go (eqb high 2047) refl
  where
    go : (b : Bool) → eqb high 2047 ≡ b → seconds (cond b Open (Seconds high)) ≤ 2046
    go true e = zero-le
    go false e = omega (arith, eqb-false high 2047 e)

module _ (g : Graph) (closed : Closed g) (small : states g ≤ 512) (k : ℕ) where
  -- a delay, of 512 transitions of 2,047 seconds, or of 2,046
  pub least-delay-le : ((t : ℕ) → t < count g → low g t ≤ 2047) → IsLeast g (lows g) (number k) → k ≤ most LeastDelay
  least-delay-le h u = least-number-le g closed (lows g) small 2047 0 h (λ s. zero-le) k u

  pub greatest-delay-le : ((t : ℕ) → t < count g → high g t ≤ 2047) → IsGreatest g (highs g) (number k) → k ≤ most GreatestDelay
  greatest-delay-le h u = greatest-number-le g closed (highs g) small 2046 0 (λ t l. seconds-le (high g t) (h t l)) (λ s. zero-le) k u

  -- and a count, over any yes-or-no on states
  pub least-count-le : (p : ℕ → Bool) → IsLeast g (counts g p) (number k) → k ≤ most LeastCount
  least-count-le p u = least-number-le g closed (counts g p) small 1 1 (λ t h. one-le (p (from g t))) (λ s. one-le (p s)) k u

  pub greatest-count-le : (p : ℕ → Bool) → IsGreatest g (counts g p) (number k) → k ≤ most GreatestCount
  greatest-count-le p u = greatest-number-le g closed (counts g p) small 1 1 (λ t h. one-le (p (from g t))) (λ s. one-le (p s)) k u
