-- The quotation record, where it was accepted. Document 01, "The quotation record". Assumes nothing.
use Rattle.std.specs.Prelude.{List, ◌++◌, ◌≡◌, ℕ, ◌+◌, ◌*◌, length, drop}
use Rattle.field.specs.Field.{field_at}
use Rattle.graph.specs.declared.Which.{Which}
use Rattle.graph.specs.Which.{place}
use Rattle.graph.specs.Compute.{figure_for}
use Rattle.graph.specs.Figure.{Figure, kind, value, IsFigure}
use Rattle.graph.specs.Graph.{Graph}
use Rattle.rules.specs.Quotations.{record_octets}
use Rattle.arrays.specs.declared.Plan.{Plan}
use Rattle.plan.specs.View.{view}
use Rattle.demands.specs.Calculator.{Calculator}
use Rattle.demands.specs.Demands.{Told}

-- "a kind of 2 bits (0 number, 1 NONE, 2 STRANDED, 3 ENDLESS) and a figure of 20 bits, zero unless the kind is 0", from a bit position on
abbrev pub FigureAt : List ℕ → ℕ → Figure → Type 0
FigureAt octets at f = (field_at octets at 2 ≡ kind f) × (field_at octets (at + 2) 20 ≡ value f)

pub record Recorded (c : Calculator) (p : Plan) (before after : List ℕ) : Type 0 where
  -- "puts 88 bits, 11 octets, at the front of the lent buffer, later octets staying"
  pub octets : after ≡ record_octets (view p) ++ drop 11 before
  pub long : length (record_octets (view p)) ≡ 11
  -- "for least delay, greatest delay, least count, greatest count in turn"
  pub each : (which : Which) → FigureAt after (22 * place which) (figure_for which (view p))
  -- "works out the plan's four figures": they are the figures by the rules,
  pub right : (which : Which) → IsFigure which (view p) (figure_for which (view p))
  -- and those that a quotation of the same plan tells, by any call
  pub as_told : {which : Which} {g : Graph} {f : Figure} → g ≡ view p → Told c which g f → FigureAt after (22 * place which) f
