-- What taking the octets of a plan promises. Document 02, E1: "Import is handed the old plan and replaces it as read does". Assumes nothing.
use Rattle.std.specs.Prelude.{ℕ, ◌+◌, ◌≤◌, Bool, List, ◌≡◌, length, Result, IfOk}
use Rattle.graph.specs.Graph.{Graph}
use Rattle.rules.specs.declared.Refusal.{Refusal}
use Rattle.rules.specs.declared.Format.{Format}
use Rattle.rules.specs.Calls.{step, replacing}
use Rattle.rules.specs.Limits.{within}
use Rattle.rules.specs.Refusal.{made}
use Rattle.taken.specs.Taken.{bits_of}
use Rattle.arrays.specs.Tables.{graph_of, Fields}
use Rattle.arrays.specs.declared.Counts.{Counts}

-- octets taken into arrays, where the old plan is within the limits or not: the answer and the plan in the arrays are the rules', the plan has room in
-- them, its counts are a plan's, and the bits that were taken are added to the count
pub record Takes (format : Format) (limited : Bool) (octets : List ℕ) (taken taken' : ℕ) (marks teams : List ℕ) (f : Fields) (r : Result Counts Refusal) : Type 0 where
  pub rule : (old : Graph) → within old ≡ limited
      → made r (λ k. graph_of k.states k.transitions marks teams f.from f.to f.low f.high) ≡ step old (replacing format octets)
  pub counts : IfOk r (λ k. (k.states ≤ 512) × (k.transitions ≤ 2048))
  pub states : (512 ≤ length marks) × (512 ≤ length teams)
  pub transitions : (2048 ≤ length f.from) × (2048 ≤ length f.to) × (2048 ≤ length f.low) × (2048 ≤ length f.high)
  pub bits : (old : Graph) → within old ≡ limited → taken' ≡ taken + bits_of old (replacing format octets)
