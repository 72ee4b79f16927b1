-- The record: the fields of four quotes are the 88 bits of the record, and the octets after the first 11 stay (`put_record`). The
-- figures are those of a plan within the limits, so each fits into its 20 bits. Assumes nothing.
use mathlib.Core.Bool.{true}
use mathlib.Core.List.{List, ◌++◌}
use mathlib.Core.Path.{◌≡◌, refl, sym, ap, ◌∙◌}
use Prim.Native.Nat.{ℕ, ◌≤◌, ◌<◌}
use native.Mathlib.Omega.{arith}
use lib.ListN.{length, drop}
use Rattle.field.specs.Field.{Field, Octets, width_of_all, put_all}
use Rattle.field.proofs.Pack.{put_all-pack}
use Rattle.graph.specs.declared.Which.{Which}
use Rattle.graph.specs.declared.Which.TheVariants.{LeastDelay, GreatestDelay, LeastCount, GreatestCount}
use Rattle.graph.specs.Graph.{Graph, counted}
use Rattle.graph.specs.Compute.{figure_for}
use Rattle.graph.specs.Figure.{value}
use Rattle.rules.specs.declared.Refusal.{Refusal}
use Rattle.std.proofs.Common.{Ok, Err}
use Rattle.rules.specs.declared.FourQuotes.{FourQuotes}
use Rattle.rules.specs.Limits.{within}
use Rattle.rules.specs.Quotations.{meant, quotes_fields, quote_of, record_fields, record_octets, record_rule, AllStated, Write}
use Rattle.rules.specs.Refusal.{accepted, refused}
use Rattle.rules.proofs.Sizes.{figure-said, quoted-fits}

module _ (g : Graph) (q : FourQuotes) (before after : List ℕ) (s : AllStated g q before after) where
  -- the figures of quotes of which the four hold
  figure_of_lem : (which : Which) → meant (quote_of q which).figure ≡ figure_for which g
  figure_of_lem which = figure-said which g _ _ _ _ _ (s.each which)

  -- so their fields are the record's
  quotes-fields : quotes_fields q ≡ record_fields g
  unfolding quotes_fields record_fields
  quotes-fields = rw (figure_of_lem LeastDelay, figure_of_lem GreatestDelay, figure_of_lem LeastCount, figure_of_lem GreatestCount) refl

  pub put_record : (os : List ℕ) → Octets os → 11 ≤ length os → put_all os 0 (quotes_fields q) ≡ record_octets g ++ drop 11 os
  unfolding record_octets record_fields width_of_all
  put_record os ho h = ap (λ (fs : List Field). put_all os 0 fs) quotes-fields ∙ put_all-pack (record_fields g) 11 os ho refl h

  -- and each fits into its 20 bits
  pub quotes_fit : within g ≡ true → (which : Which) → value (meant (quote_of q which).figure) < 1048576
  quotes_fit w which = omega (arith, quoted-fits g w which (counted g) _ _ _ _ _ (s.each which))

module _ (g : Graph) where
  pub record_refusal : (before : List ℕ) (r : Refusal) → record_rule g before ≡ refused r
      → Write (record_octets g) (record_rule g before) before before (Err r)
  record_refusal before r e = record { answer = sym e; buffer = rw e refl }

  pub record_acceptance : (before after : List ℕ) → record_rule g before ≡ accepted 11 → after ≡ record_octets g ++ drop 11 before
      → Write (record_octets g) (record_rule g before) before after (Ok 11)
  record_acceptance before after e b = record { answer = sym e; buffer = rw e b }
