-- What was drawn into arrays of zeros is the plan that the seed makes, laid over no plan (`made`); a refusal comes back with no plan (`none_made`). Assumes nothing.
use mathlib.Core.List.{List}
use mathlib.Core.Path.{◌≡◌, ap₂}
use Prim.Native.Nat.{ℕ, ◌≤◌}
use native.Mathlib.Omega.{arith}
use borrow.Author.Tests.{leb-true}
use lib.Dec.{leb}
use lib.ListN.{length, replicate, length-replicate, get_or-replicate}
use Rattle.graph.specs.Graph.{state_with, marked}
use Rattle.rules.specs.Answer.{Accepted, Answer}
use Rattle.std.proofs.Common.{Err}
use Rattle.rules.specs.declared.Refusal.{Refusal}
use Rattle.rules.specs.Limits.{state_count_ok, transition_count_ok}
use Rattle.rules.specs.Refusal.{said}
use Rattle.rules.specs.Rules.{fresh_rule}
use Rattle.rules.specs.Table.{first}
use Rattle.rules.proofs.Results.{not-false, and_true}
use Rattle.rules.proofs.Tabulated.{tabulate-same}
use Rattle.arrays.specs.Tables.{state_of, transition_of, fields}
use Rattle.arrays.proofs.Lists.{later_none}
use Rattle.plan.specs.declared.Edited.{Edited}
use Rattle.plan.specs.Promise.{Edit}
use Rattle.plan.specs.View.{plan_of, view, no_plan}
use Rattle.plan.proofs.Edits.{stays, becomes, none-holds}
use Rattle.generated.specs.Generated.{marks_drawn, transition_drawn, generated_graph, generate_rows, generate_rule}
use Rattle.drawing.specs.Drawing.{Marked}
use Rattle.generation.specs.Drawn.{Drawn}

module _ (s n m : ℕ) (a : Answer) (rows : said a ≡ first (generate_rows n m)) where
  -- beside a refusal stands what a refused fresh gives, which is no plan
  pub none_made : (r : Refusal) → a ≡ Err r → (e : Edited) → Edit no_plan (fresh_rule 0) 0 e → Edit no_plan (generate_rule s n m) 0 (record { answer = a; plan = e.plan; taken = 0 })
  unfolding generate_rule fresh_rule
  none_made r e x h = rw h.whole (stays no_plan (generate_rows n m) (generated_graph s n m) a r e rows)

  -- what is accepted is within the limits
  pub limits : a ≡ Accepted → (1 ≤ n) × (n ≤ 512) × (m ≤ 2048)
  limits e =
      let (states, (transitions, u)) = none-holds (generate_rows n m) a e rows in
      let (least, most) = and_true (leb 1 n) (leb n 512) (not-false (state_count_ok n) states) in
      (leb-true 1 n least, leb-true n 512 most, leb-true m 2048 (not-false (transition_count_ok m) transitions))

  module _ (marks from to low high : List ℕ) (h : n ≤ 512) (x : Marked n marks) (y : Drawn s n m (fields (replicate 2048 0) (replicate 2048 0) (replicate 2048 0) (replicate 2048 0)) (fields from to low high)) where
    view_made : view (plan_of n m marks (replicate 512 0) from to low high) ≡ generated_graph s n m
    unfolding view generated_graph
    view_made = λ i. record {
      state_list =
          tabulate-same n (state_of marks (replicate 512 0)) (λ j. marked (marks_drawn n j))
          (λ j l. ap₂ state_with (x.each j l) (get_or-replicate 512 j 0 0 (omega arith))) i;
      transitions = tabulate-same m (transition_of from to low high) (transition_drawn s n) y.each i;
    }

    pub made : a ≡ Accepted → Edit no_plan (generate_rule s n m) 0 (record { answer = a; plan = plan_of n m marks (replicate 512 0) from to low high; taken = 0 })
    unfolding generate_rule
    made e =
        let l : length {A = ℕ} (replicate 512 0) ≡ 512 = length-replicate {A = ℕ} 512 0 in
        becomes no_plan (plan_of n m marks (replicate 512 0) from to low high) (generate_rows n m) (generated_graph s n m) a e rows view_made
        (record {
          marks = x.later;
          teams = later_none n (replicate 512 0) (omega arith);
          from = y.later.from;
          to = y.later.to;
          low = y.later.low;
          high = y.later.high;
        })
