-- What the quotations promise of lent slices: the walk in one, and the figure's kind and number with k and j in the first four places of another.
-- Assumes nothing.
use Rattle.std.specs.Prelude.{true, false, List, ◌≡◌, ℕ}
use Rattle.graph.specs.declared.Asked.{Asked}
use Rattle.graph.specs.Graph.{Graph}
use Rattle.graph.specs.Figure.{Figure}
use Rattle.rules.specs.declared.FourQuotes.{FourQuotes}
use Rattle.rules.specs.declared.Refusal.{Refusal}
use Rattle.rules.specs.Image.{graph_in}
use Rattle.rules.specs.Quotations.{says_asked, AllStated, lent_quote_rule, lent_held_rule}
use Rattle.rules.specs.Refusal.{accepted, refused, code}
use Rattle.arrays.specs.Tables.{over}
use Rattle.plan.specs.View.{view}
use Rattle.answers.specs.Answered.{numbers, four_numbers}
use Rattle.slices.specs.Lent.{Slices, has_room, plan_in}

-- a figure of the plan g that says what was asked, with its numbers at the front of the answer's places, and every later place as it was
pub record Stands (asked : Asked) (g : Graph) (walk walk' out out' : List ℕ) : Type 0 where
  pub figure : Figure
  pub k : ℕ
  pub j : ℕ
  pub says : says_asked asked g figure k j walk walk'
  pub places : out' ≡ over (numbers figure k j) out

-- a quotation of the plan that lent slices hold: 255 where they are no plan's, and otherwise the rule's number; a refusal leaves every place, and of an
-- accepted one the figure stands in the answer's places
pub record LentQuote (asked : Asked) (s : Slices) (walk walk' out out' : List ℕ) (r : ℕ) : Type 0 where
  pub short : has_room s ≡ false → (r ≡ 255) × (walk' ≡ walk) × (out' ≡ out)
  pub answer : has_room s ≡ true → r ≡ code (lent_quote_rule asked (view (plan_in s)) walk out)
  pub kept : has_room s ≡ true → (k : Refusal) → lent_quote_rule asked (view (plan_in s)) walk out ≡ refused k → (walk' ≡ walk) × (out' ≡ out)
  pub quoted : has_room s ≡ true → lent_quote_rule asked (view (plan_in s)) walk out ≡ accepted tt → Stands asked (view (plan_in s)) walk walk' out out'

-- ---- all four figures of an image

-- the quotes of the plan g, with their walks in the parts of the lent places and their numbers at the front of the answer's
pub record AllStand (g : Graph) (walks walks' out out' : List ℕ) : Type 0 where
  pub quotes : FourQuotes
  pub stated : AllStated g quotes walks walks'
  pub places : out' ≡ over (four_numbers quotes) out

-- a call that reads an image and quotes the four figures of its plan: the rule's number; a refusal leaves every place, and of an accepted one the four
-- figures of the plan that the octets hold stand in the answer's places
pub record LentQuotes (image walks walks' out out' : List ℕ) (r : ℕ) : Type 0 where
  pub answer : r ≡ code (lent_held_rule image walks out)
  pub kept : (k : Refusal) → lent_held_rule image walks out ≡ refused k → (walks' ≡ walks) × (out' ≡ out)
  pub quoted : lent_held_rule image walks out ≡ accepted tt → AllStand (graph_in image) walks walks' out out'
