-- What reading a text promises. Document 02, E1. Assumes nothing.
use Rattle.std.specs.Prelude.{ℕ, ◌≤◌, List, ◌≡◌, length, Result, IfOk}
use Rattle.rules.specs.declared.Refusal.{Refusal}
use Rattle.rules.specs.Aldebaran.{states_from, import_text}
use Rattle.rules.specs.Refusal.{made}
use Rattle.arrays.specs.Tables.{states_of, graph_of, Fields}
use Rattle.text_lines.specs.Lines.{Room}
use Rattle.arrays.specs.declared.Counts.{Counts}

-- "Import marks only the initial state, as start", "with all teams zero" (E4)
pub record Marked (n initial : ℕ) (marks teams : List ℕ) : Type 0 where
  pub states : states_of n marks teams ≡ states_from n initial
  pub room : 512 ≤ length marks
  pub teams_room : 512 ≤ length teams

-- a text read into arrays: the answer and the plan in the arrays are the rule's, and the plan has room in them
pub record Imports (text marks teams : List ℕ) (f : Fields) (r : Result Counts Refusal) : Type 0 where
  pub rule : made r (λ k. graph_of k.states k.transitions marks teams f.from f.to f.low f.high) ≡ import_text text
  pub counts : IfOk r (λ k. (k.states ≤ 512) × (k.transitions ≤ 2048))
  pub room : (512 ≤ length marks) × (512 ≤ length teams) × Room f
