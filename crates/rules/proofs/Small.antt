-- The k and the j of quotes. A walk that is shown has at most as many transitions as the plan has states, and j is at most their number; so both
-- are at most 512 (`small_quote`, `four_small`). Assumes nothing.
use mathlib.Core.Bool.{Bool, true}
use mathlib.Core.List.{List}
use mathlib.Core.Logic.{⊎_elim}
use mathlib.Core.Path.{◌≡◌}
use Prim.Native.Nat.{ℕ, ◌≤◌}
use native.Mathlib.Omega.{arith}
use Rattle.graph.specs.declared.Which.{Which}
use Rattle.graph.specs.declared.Which.TheVariants.{LeastDelay, GreatestDelay, LeastCount, GreatestCount}
use Rattle.graph.specs.Figure.{Figure, number, NONE, STRANDED, ENDLESS, cost_over}
use Rattle.graph.specs.Graph.{Graph, states, counted}
use Rattle.graph.specs.Route.{Cost}
use Rattle.rules.specs.declared.FourQuotes.{FourQuotes}
use Rattle.rules.specs.declared.Quote.{Quote}
use Rattle.rules.specs.Limits.{within}
use Rattle.rules.specs.Quotations.{Shows, says_over, Stated, AllStated, SmallQuote, quote_of}
use Rattle.rules.proofs.ReadWrite.{limited}

small_j : (g : Graph) (c : Cost) (f : Figure) (k j : ℕ) (before after : List ℕ) → Shows g c f k j before after → j ≤ k
small_j g c (number x) k j before after s = omega (arith, s.walk.4)
small_j g c NONE k j before after s = omega (arith, s.walk.1)
small_j g c STRANDED k j before after s = omega (arith, s.walk.3)
small_j g c ENDLESS k j before after s =
    ⊎_elim (λ w. omega (arith, w.2, s.number_of)) (λ w. omega (arith, w.2, s.number_of)) s.walk

-- what each says is shown
pub shows_of : (which : Which) (test : ℕ → Bool) {g : Graph} {f : Figure} {k j : ℕ} {before after : List ℕ} → says_over which test g f k j before after
    → Shows g (cost_over which test g) f k j before after
shows_of LeastDelay test x = x.shows
shows_of GreatestDelay test x = x.shows
shows_of LeastCount test x = x.shows
shows_of GreatestCount test x = x.shows

module _ (g : Graph) (w : within g ≡ true) where
  pub small_quote : (which : Which) (test : ℕ → Bool) (q : Quote) (before after : List ℕ) → Stated (says_over which test g) q before after → SmallQuote q
  small_quote which test q before after x =
      let s = shows_of which test x in
      let n : states g ≤ 512 = (limited g w).most in
      (omega (arith, s.places), omega (arith, s.places, small_j g (cost_over which test g) _ q.k q.j before after s))

  pub four_small : (q : FourQuotes) (before after : List ℕ) → AllStated g q before after → (which : Which) → SmallQuote (quote_of q which)
  four_small q before after s which = small_quote which (counted g) (quote_of q which) _ _ (s.each which)
