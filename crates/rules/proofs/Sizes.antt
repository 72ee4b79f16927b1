-- "no figure passes 1,048,064" (document 02, E8), of a plan within the limits, whatever states count: each of the four has its bound (Figures.antt), 512 transitions of
-- 2,047 seconds or fewer for a delay and 513 for a count, and no bound is above that of the least delay. So it is for the figure by computation, which the record holds, and for
-- that of an accepted quotation, which is the one by computation. Assumes nothing.
use mathlib.Core.Bool.{Bool, true}
use mathlib.Core.List.{List}
use mathlib.Core.Path.{◌≡◌}
use Prim.Native.Nat.{ℕ, ◌≤◌, zero-le}
use native.Mathlib.Omega.{arith}
use Rattle.graph.specs.declared.Which.{Which}
use Rattle.graph.specs.declared.Which.TheVariants.{LeastDelay, GreatestDelay, LeastCount, GreatestCount}
use Rattle.graph.specs.Compute.{least, greatest, figure_for}
use Rattle.graph.specs.Figure.{Figure, number, NONE, STRANDED, ENDLESS, value, IsLeast, IsGreatest, IsFigure, most}
use Rattle.graph.specs.Graph.{Graph}
use Rattle.graph.specs.Route.{Cost, lows, highs, counts}
use Rattle.rules.specs.Limits.{within}
use Rattle.rules.specs.Quotations.{says, says_over}
use Rattle.rules.proofs.Figures.{least_exists, greatest_exists, figure_exists, figure-bound, least-count-bound, greatest-count-bound}

-- a figure whose number has a bound: its value in the record has it too
value-le : (Is : Figure → Type 0) (n : ℕ) → ((k : ℕ) → Is (number k) → k ≤ n) → (f : Figure) → Is f → value f ≤ n
value-le Is n bound (number k) is = bound k is
value-le Is n bound NONE is = zero-le
value-le Is n bound STRANDED is = zero-le
value-le Is n bound ENDLESS is = zero-le

-- the figure of an accepted quotation is the one by computation
pub figure-said : (which : Which) (g : Graph) (f : Figure) (k j : ℕ) (before after : List ℕ) → says which g f k j before after → f ≡ figure_for which g
unfolding figure_for
figure-said LeastDelay g f k j before after x = x.figure
figure-said GreatestDelay g f k j before after x = x.figure
figure-said LeastCount g f k j before after x = x.figure
figure-said GreatestCount g f k j before after x = x.figure

-- no bound is above that of the least delay
most-le : (which : Which) → most which ≤ 1048064
most-le LeastDelay = omega arith
most-le GreatestDelay = omega arith
most-le LeastCount = omega arith
most-le GreatestCount = omega arith

module _ (g : Graph) (w : within g ≡ true) where
  least-value : (c : Cost) (n : ℕ) → ((k : ℕ) → IsLeast g c (number k) → k ≤ n) → value (least g c) ≤ n
  least-value c n bound = value-le (IsLeast g c) n bound (least g c) (least_exists g w c)

  greatest-value : (c : Cost) (n : ℕ) → ((k : ℕ) → IsGreatest g c (number k) → k ≤ n) → value (greatest g c) ≤ n
  greatest-value c n bound = value-le (IsGreatest g c) n bound (greatest g c) (greatest_exists g w c)

  -- of a figure that was quoted, p saying which states count
  quoted-value : (which : Which) (p : ℕ → Bool) (f : Figure) (k j : ℕ) (before after : List ℕ) → says_over which p g f k j before after → value f ≤ most which
  quoted-value LeastDelay p f k j before after q = rw q.figure (least-value (lows g) (most LeastDelay) (figure-bound g w LeastDelay))
  quoted-value GreatestDelay p f k j before after q = rw q.figure (greatest-value (highs g) (most GreatestDelay) (figure-bound g w GreatestDelay))
  quoted-value LeastCount p f k j before after q = rw q.figure (least-value (counts g p) (most LeastCount) (least-count-bound g w p))
  quoted-value GreatestCount p f k j before after q = rw q.figure (greatest-value (counts g p) (most GreatestCount) (greatest-count-bound g w p))

  pub quoted-fits : (which : Which) (p : ℕ → Bool) (f : Figure) (k j : ℕ) (before after : List ℕ) → says_over which p g f k j before after → value f ≤ 1048064
  quoted-fits which p f k j before after q = omega (arith, quoted-value which p f k j before after q, most-le which)

  -- of the figure by computation
  figure-value : (which : Which) → value (figure_for which g) ≤ most which
  figure-value which = value-le (IsFigure which g) (most which) (figure-bound g w which) (figure_for which g) (figure_exists g w which)

  pub figure-fits : (which : Which) → value (figure_for which g) ≤ 1048064
  figure-fits which = omega (arith, figure-value which, most-le which)
