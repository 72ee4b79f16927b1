-- The report's procedures agree with the figures, on the plans that demand 2 names; the counts whatever the durations.
--
-- A procedure returns one value, and a plan has one figure of each name. So if a procedure returns and what it returns
-- is the figure, then it returns whatever is the figure (`exactly`). The rest is what Chain, Lower, Upper and Counts
-- show. Assumes nothing.
use Prim.Native.Nat.{ℕ}
use mathlib.Core.Path.{◌≡◌, refl, sym}
use mathlib.Core.Logic.{◌↔◌}
use native.Mathlib.Omega.{arith}
use Rattle.graph.specs.declared.Which.TheVariants.{LeastDelay, GreatestDelay, LeastCount, GreatestCount}
use Rattle.graph.specs.Graph.{Graph, counted}
use Rattle.graph.specs.Route.{Cost, counts}
use Rattle.graph.specs.Figure.{Figure, number, NONE, ENDLESS, IsLeast, IsGreatest, cost_for}
use Rattle.graph.specs.Figure.{cost_for}
use Rattle.graph.proofs.Least.{least_unique}
use Rattle.graph.proofs.Greatest.{greatest_unique}
use Rattle.report.specs.Procedure.{Procedure, Returns}
use Rattle.report.specs.Bounds.{Bound, finite, ∞, lower, upper}
use Rattle.report.specs.Counts.{mincount, maxcount}
use Rattle.report.specs.Agreement.{TotalPlan, ReportPlan, figure, least_figure, greatest_figure, CountAgreement}
use Rattle.report.specs.Agreement.{Agreement}
use Rattle.report.proofs.Loop.{returns_once}
use Rattle.report.proofs.Chain.{lower_returns, upper_returns}
use Rattle.report.proofs.Lower.{lower_says}
use Rattle.report.proofs.Upper.{upper-greatest}
use Rattle.report.proofs.Counts.{mincount_returns, maxcount_returns}

-- no two values are the same figure, where infinity is no number
apart : (f : Figure) → ((k : ℕ) → f ≡ number k → ⊥) → (a b : Bound) → figure f a ≡ figure f b → a ≡ b
apart f no_number (finite k) (finite l) e = cc
apart f no_number (finite k) ∞ e = absurd (no_number k (sym e))
apart f no_number ∞ (finite l) e = absurd (no_number l e)
apart f no_number ∞ ∞ e = refl

exactly : {S : Type 0} (q : Procedure S Bound) (f : Figure) (Is : Figure → Type 0)
    → ((k : ℕ) → f ≡ number k → ⊥) → ((h h' : Figure) → Is h → Is h' → h ≡ h')
    → (a : Bound) → Returns q a → Is (figure f a) → (b : Bound) → Returns q b ↔ Is (figure f b)
exactly q f Is no_number unique a r i b = (
  λ r'. rw (returns_once q r r') at i,
  λ i'. rw (apart f no_number a b (unique (figure f a) (figure f b) i i')) at r,
)

-- at the least and the greatest of a cost
exactly-least : {S : Type 0} (q : Procedure S Bound) (g : Graph) (c : Cost) (a : Bound)
    → Returns q a → IsLeast g c (least_figure a) → (b : Bound) → Returns q b ↔ IsLeast g c (least_figure b)
exactly-least q g c =
    exactly q NONE (IsLeast g c) (λ k e. let z : ◌≡◌ {A = ℕ} 0 1 = cc in omega arith) (least_unique g c)

exactly-greatest : {S : Type 0} (q : Procedure S Bound) (g : Graph) (c : Cost) (a : Bound)
    → Returns q a → IsGreatest g c (greatest_figure a) → (b : Bound) → Returns q b ↔ IsGreatest g c (greatest_figure b)
exactly-greatest q g c =
    exactly q ENDLESS (IsGreatest g c) (λ k e. let z : ◌≡◌ {A = ℕ} 0 1 = cc in omega arith) (greatest_unique g c)

pub count-agreement : (g : Graph) → TotalPlan g → CountAgreement g
count-agreement g q = record {
  mincount_returns = λ i u c. let (k, r, h) = mincount_returns g q i u c in (k, r);
  maxcount_returns = λ i u c. let (k, r, h) = maxcount_returns g q i u c in (k, r);
  mincount-least = λ i u c k.
      let (l, r, h) = mincount_returns g q i u c in
      exactly-least (mincount g c) g (counts g c) (finite l) r h (finite k);
  maxcount-greatest = λ i u c k.
      let (l, r, h) = maxcount_returns g q i u c in
      exactly-greatest (maxcount g c) g (counts g c) (finite l) r h (finite k);
}

pub agreement : (g : Graph) → ReportPlan g → Agreement g
agreement g q = record {
  lower_returns = lower_returns g;
  upper_returns = upper_returns g;
  lower-least = let (b, r) = lower_returns g in exactly-least (lower g) g (cost_for LeastDelay g) b r (lower_says g q b r);
  upper-greatest = let (b, r) = upper_returns g in exactly-greatest (upper g) g (cost_for GreatestDelay g) b r (upper-greatest g q b r);
  counts_agree = count-agreement g q.total;
}

-- the figures' counts are those over the counted mark
module _ (g : Graph) (q : TotalPlan g) (i : ℕ) (u : Returns (upper g) (finite i)) where
  pub least-count : (k : ℕ) → Returns (mincount g (counted g)) (finite k) ↔ IsLeast g (cost_for LeastCount g) (number k)
  least-count = (count-agreement g q).mincount-least i u (counted g)

  pub greatest-count : (k : ℕ) → Returns (maxcount g (counted g)) (finite k) ↔ IsGreatest g (cost_for GreatestCount g) (number k)
  greatest-count = (count-agreement g q).maxcount-greatest i u (counted g)
