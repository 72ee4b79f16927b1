-- What the calls that fill a lent buffer promise: the image, the record of the figures and the text, by an index. Assumes nothing.
use Rattle.std.specs.Prelude.{true, false, List, ◌≡◌, ℕ, ◌+◌}
use Rattle.graph.specs.Graph.{Graph}
use Rattle.rules.specs.Aldebaran.{export_text, export_rule}
use Rattle.rules.specs.Image.{image}
use Rattle.rules.specs.Quotations.{record_octets, record_rule}
use Rattle.rules.specs.Refusal.{Result, accepted, refused, number}
use Rattle.rules.specs.Rules.{write_rule, written}
use Rattle.plan.specs.View.{view}
use Rattle.slices.specs.Lent.{Slices, has_room, plan_in}
use Rattle.lent.specs.declared.Content.{Content}
use Rattle.lent.specs.declared.Content.TheVariants.{Image, Record, Text}

-- the octets that a filling puts at the front of the buffer, and its rule
abbrev pub octets_of : Content → Graph → List ℕ
octets_of Image g = image g
octets_of Record g = record_octets g
octets_of Text g = export_text g

abbrev pub rule_of : Content → Graph → List ℕ → Result ℕ
rule_of Image g buffer = write_rule g buffer
rule_of Record g buffer = record_rule g buffer
rule_of Text g buffer = export_rule g buffer

-- the number that a call answers which fills a lent buffer: 256 plus the octets' number
abbrev pub length_code : Result ℕ → ℕ
length_code (accepted n) = 256 + n
length_code (refused k) = number k

-- a call that puts octets of the plan that lent slices hold at the front of a lent buffer, and for which the rules give o
pub record LentWrite (s : Slices) (octets : List ℕ) (o : Result ℕ) (before after : List ℕ) (r : ℕ) : Type 0 where
  pub short : has_room s ≡ false → (r ≡ 255) × (after ≡ before)
  pub answer : has_room s ≡ true → r ≡ length_code o
  pub buffer : has_room s ≡ true → after ≡ written octets before o

-- a filling of that buffer, by what it puts there
abbrev pub LentFill : Content → Slices → List ℕ → List ℕ → ℕ → Type 0
LentFill content s before after r =
    LentWrite s (octets_of content (view (plan_in s))) (rule_of content (view (plan_in s)) before) before after r
