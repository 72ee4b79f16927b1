-- Thirteen can go, document 02, E8: no figure is too large for the record, so record has no ground for one, and no call answers 13. The request's words stand above the field that carries
-- them. That no case of a refusal is numbered 13 is `numbered` of rules/proofs/Basic.antt, and that 20 bits hold each of a plan's figures `record_fits` of rules/proofs/Record.antt. Assumes nothing.
use Rattle.std.specs.Prelude.{true, false, List, ◌≡◌, ℕ, ◌≤◌, ◌<◌, length}
use Rattle.bounds.specs.Ring.{ring}
use Rattle.field.specs.Field.{field_at}
use Rattle.graph.specs.declared.Asked.{Asked}
use Rattle.graph.specs.declared.Which.{Which}
use Rattle.graph.specs.declared.Which.TheVariants.{LeastDelay}
use Rattle.graph.specs.Figure.{Figure, number, value}
use Rattle.graph.specs.Graph.{Graph, count, low, high}
use Rattle.rules.specs.declared.FourQuotes.{FourQuotes}
use Rattle.rules.specs.declared.HeldQuotations.{HeldQuotations}
use Rattle.rules.specs.Answer.{Written}
use Rattle.std.specs.Prelude.{Ok}
use Rattle.rules.specs.declared.Quote.{Quote}
use Rattle.rules.specs.declared.Refusal.TheVariants.{PlanLimits, BufferLength}
use Rattle.rules.specs.Image.{image}
use Rattle.rules.specs.Limits.{within}
use Rattle.rules.specs.Quotations.{meant, quote_of}
use Rattle.rules.specs.Refusal.{Result, refused, wrote, code}
use Rattle.rules.specs.Table.{Row}
use Rattle.arrays.specs.declared.Plan.{Plan}
use Rattle.plan.specs.View.{view}
use Rattle.demands.specs.Calculator.{Calculator}
use Rattle.demands.specs.Demands.{Called, Told}
use Rattle.demands.specs.Record.{Recorded}

pub record FiguresFit (c : Calculator) : Type 0 where
  -- "With at most 512 transitions on a shown route
  pub shown-route : {asked : Asked} {p : Plan} {before after : List ℕ} (q : Quote) → c.quotes asked p before after (Ok q) → q.k ≤ 512
  -- and at most 2,047 seconds each,
  pub seconds-each : {asked : Asked} {p : Plan} {before after : List ℕ} (q : Quote) → c.quotes asked p before after (Ok q)
      → (t : ℕ) → t < count (view p) → (low (view p) t ≤ 2047) × (high (view p) t ≤ 2047)
  -- no figure passes 1,048,064.": none that is asked for by itself, a count for a class too; nor one of the four, however it is told
  pub none_passes : {asked : Asked} {p : Plan} {before after : List ℕ} (q : Quote) → c.quotes asked p before after (Ok q) → value (meant q.figure) ≤ 1048064
  pub none_told_passes : {which : Which} {g : Graph} {f : Figure} → Told c which g f → value f ≤ 1048064
  -- and the least delay of the ring of 512 states is that, however it is told
  pub attained : {g : Graph} {f : Figure} → g ≡ ring → Told c LeastDelay g f → f ≡ number 1048064
  pub attained_of_image : {before after : List ℕ} {r : HeldQuotations} → 2048 ≤ length before → c.quotes-image (image ring) before after r
      → (q : FourQuotes) × (r.quotations ≡ Ok q) × (meant (quote_of q LeastDelay).figure ≡ number 1048064)
  -- "Show that it is never returned
  pub never_returned : {rows : List Row} {a : Result (Unit {0})} → Called c rows a → code a ≡ 13 → ⊥
  -- and take it out of the table.": record answers 0, then 11,
  pub by_limits : {p : Plan} {before after : List ℕ} {w : Written} → within (view p) ≡ false → c.records p before after w → wrote w ≡ refused PlanLimits
  pub by_length : {p : Plan} {before after : List ℕ} {w : Written} → within (view p) ≡ true → length before < 11 → c.records p before after w
      → wrote w ≡ refused BufferLength
  -- and every other plan's figures are put there,
  pub else_recorded : {p : Plan} {before after : List ℕ} {w : Written} → within (view p) ≡ true → 11 ≤ length before → c.records p before after w
      → (w ≡ Ok 11) × Recorded c p before after
  -- the ring's too: its least delay stands in the 20 bits behind the first 2
  pub ring-recorded : {p : Plan} {before after : List ℕ} {w : Written} → view p ≡ ring → 11 ≤ length before → c.records p before after w → field_at after 2 20 ≡ 1048064
