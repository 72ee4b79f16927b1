-- What a search answers, as a quotation promises it: the figure is the least or the greatest one for the cost, the walk that is shown stands at the front
-- of the lent places, and later places stay. The rest of the promise follows. The figure is the only one that is least or greatest, so it is the
-- computed one; its line of the rule says what holds where it is of a kind; and where the condition of a kind holds, the figure of that kind is
-- right too, so it is this one. Assumes nothing.
use mathlib.Core.Bool.{false}
use mathlib.Core.List.{List}
use mathlib.Core.Path.{◌≡◌, refl, sym, ◌∙◌}
use Prim.Native.Nat.{ℕ, ◌≤◌, ◌<◌}
use native.Mathlib.Omega.{arith}
use lib.ListN.{length, take, drop}
use lib.Seq.{length-take-le}
use Rattle.graph.specs.Graph.{Graph, states, count, Closed}
use Rattle.graph.specs.Route.{Cost, HasEndlessWalk, HasOpenWalk}
use Rattle.graph.specs.Figure.{Figure, number, NONE, STRANDED, ENDLESS, IsLeast, IsGreatest, Shown}
use Rattle.graph.proofs.Least.{least_unique, least_computed}
use Rattle.graph.proofs.Greatest.{forever-begins, greatest_unique, greatest_computed}
use Rattle.costs.specs.Scaled.{Scaled, scale, divided}
use Rattle.costs.proofs.Scaled.{least-scaled, greatest-scaled}
use Rattle.rules.specs.Quotations.{Shows, Costs, LeastQuoted, GreatestQuoted}

module _ (g : Graph) (c : Cost) where
  -- what is shown beside each kind
  shown-none : (f : Figure) (ts : List ℕ) (j : ℕ) → Shown g c f ts j → f ≡ NONE → length ts ≡ 0
  shown-none f ts j shown e = (rw e at shown).0

  shown_j : (f : Figure) (ts : List ℕ) (j : ℕ) → Shown g c f ts j → (f ≡ ENDLESS → ⊥) → j ≡ 0
  shown_j (number k) ts j (s, r, e, d, z) other = z
  shown_j STRANDED ts j (s, w, d, z) other = z
  shown_j NONE ts j (e, z) other = z
  shown_j ENDLESS ts j shown other = absurd (other refl)

module _ (g : Graph) (closed : Closed g) (c : Cost) (f : Figure) (k j : ℕ) (before after : List ℕ)
    (shown : Shown g c f (take k after) j) (fits : k ≤ states g) (room : states g ≤ length before)
    (later : drop k after ≡ drop k before) (as_long : length after ≡ length before) where
  front : length (take k after) ≡ k
  front = length-take-le k after (omega arith)

  shows : Shows g c f k j before after
  shows = record {
    walk = shown;
    number_of = front;
    places = fits;
    none-empty = λ e. sym front ∙ shown-none g c f (take k after) j shown e;
    only_endless = shown_j g c f (take k after) j shown;
    later = later;
    as_long = as_long;
  }

  costs : (x : ℕ) → f ≡ number x → Costs g c f k j before after x
  costs x e = let (s, r, q, d, z) = rw e at shown in (s, r, q)

  pub least-quoted : IsLeast g c f → LeastQuoted g c f k j before after
  least-quoted is = record {
    figure = least_computed g c closed f is;
    costs = costs;
    smallest = λ x e. (rw e at is).bound;
    none = (λ e s (ts, r). (rw e at is) s ts r, λ without. least_unique g c f NONE is (λ s ts r. without s (ts, r)));
    not_stranded = λ e. rw e at is;
    not_endless = λ e. rw e at is;
    shows = shows;
  }

  pub greatest-quoted : IsGreatest g c f → GreatestQuoted g c f k j before after
  greatest-quoted is = record {
    figure = greatest_computed g c closed f is;
    none = (λ e. rw e at is, λ unmarked. greatest_unique g c f NONE is unmarked);
    endless = (λ e. (rw e at is).1, λ u. let (s, b) = forever-begins g c u in greatest_unique g c f ENDLESS is (λ unmarked. unmarked s b, u));
    stranded = (
      λ e. let (started, finite, ends) = rw e at is in (finite, ends),
      λ (finite, u). let (s, ts, (b, w)) = u in greatest_unique g c f STRANDED is (λ unmarked. unmarked s b, finite, u),
    );
    costs = costs;
    largest = λ x e. (rw e at is).3.bound;
    shows = shows;
  }

-- from what a search answers over scaled costs
module _ (g : Graph) (closed : Closed g) (c c' : Cost) (f : Figure) (k j : ℕ) (before after : List ℕ)
    (shown : Shown g c' f (take k after) j) (fits : k ≤ states g) (room : states g ≤ length before)
    (later : drop k after ≡ drop k before) (as_long : length after ≡ length before) where
  pub least_answered : states g ≤ 512 → Scaled scale 1 g c c' → IsLeast g c' f → LeastQuoted g c (divided f) k j before after
  least_answered small scaled is =
      let (is', shown') = least-scaled g closed small c c' scaled f (take k after) j is shown in
      least-quoted g closed c (divided f) k j before after shown' fits room later as_long is'

  pub greatest_answered : Scaled 1 0 g c c' → ((t : ℕ) → t < count g → c'.unlimited t ≡ false) → (HasOpenWalk g c → HasEndlessWalk g) → IsGreatest g c' f
      → GreatestQuoted g c f k j before after
  greatest_answered scaled none beside is =
      let (is', shown') = greatest-scaled g closed c c' scaled none beside f (take k after) j is shown in
      greatest-quoted g closed c f k j before after shown' fits room later as_long is'
