-- What an accepted record holds, of whatever keeps the promises: the record's octets are at the front, and their fields read back as the four kinds and
-- figures (rules' `record_read`). They are the plan's figures by the rules, since those are the ones by computation; and so is whatever was told of the plan. Assumes nothing.
use mathlib.Core.List.{List, [], ◌∷◌, ◌++◌}
use mathlib.Core.Path.{◌≡◌, sym, ap, ◌∙◌, subst}
use Prim.Native.Nat.{ℕ, ◌*◌}
use lib.ListN.{get_or, drop}
use Rattle.field.specs.Field.{Field, unpack}
use Rattle.graph.specs.declared.Which.{Which}
use Rattle.graph.specs.declared.Which.TheVariants.{LeastDelay, GreatestDelay, LeastCount, GreatestCount}
use Rattle.graph.specs.Which.{place}
use Rattle.graph.specs.Compute.{figure_for}
use Rattle.graph.specs.Graph.{Graph}
use Rattle.std.proofs.Common.{Ok}
use Rattle.rules.specs.Image.{field}
use Rattle.rules.specs.Quotations.{record_fields, record_octets, record_rule}
use Rattle.rules.specs.Refusal.{accepted}
use Rattle.rules.specs.Rules.{written}
use Rattle.rules.proofs.Figures.{figure_exists}
use Rattle.rules.proofs.Record.{length_record, accepted_record, record_read}
use Rattle.arrays.specs.declared.Plan.{Plan}
use Rattle.plan.specs.View.{view}
use Rattle.demands.specs.Calculator.{Calculator, Promises}
use Rattle.demands.specs.Record.{FigureAt, Recorded}
use Rattle.demands.proofs.Demands.{told}

value_at : ℕ → List Field → ℕ
value_at i fs = (get_or fs i (field 0 0)).value

-- the eight fields at the front of octets
abbrev fields : List ℕ → List Field
fields os = unpack os 0 (2 ∷ 20 ∷ 2 ∷ 20 ∷ 2 ∷ 20 ∷ 2 ∷ 20 ∷ [])

at : (g : Graph) (os : List ℕ) → fields os ≡ record_fields g → (which : Which) → FigureAt os (22 * place which) (figure_for which g)
unfolding record_fields unpack value_at
at g os f LeastDelay = (ap (value_at 0) f, ap (value_at 1) f)
at g os f GreatestDelay = (ap (value_at 2) f, ap (value_at 3) f)
at g os f LeastCount = (ap (value_at 4) f, ap (value_at 5) f)
at g os f GreatestCount = (ap (value_at 6) f, ap (value_at 7) f)

pub recorded : (c : Calculator) → Promises c → {p : Plan} {before after : List ℕ} (n : ℕ) → c.records p before after (Ok n)
    → Recorded c p before after
recorded c keeps {p} {before} {after} n x =
    let g : Graph = view p in
    let a : record_rule g before ≡ accepted n = sym (keeps.records x).answer in
    let e : after ≡ record_octets g ++ drop n before = (keeps.records x).buffer ∙ ap (written (record_octets g) before) a in
    let (w, long) = accepted_record g before n a in
    let f : fields after ≡ record_fields g = ap (λ (os : List ℕ). fields os) e ∙ record_read g w (drop n before) in
    record {
      octets = e ∙ ap {B = List ℕ} (λ (k : ℕ). record_octets g ++ drop k before) long;
      long = length_record g;
      each = at g after f;
      right = figure_exists g w;
      as_told = λ {which} e t.
          subst (FigureAt after (22 * place which)) (ap (figure_for which) (sym e) ∙ sym (told c keeps t).0) (at g after f which);
    }
