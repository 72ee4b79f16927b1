-- Reproducible test plans, document 02, E7: what generate makes. The request's words stand above the field that carries them; how the plan is made of its seed is `generated_graph`, over the
-- words of generator/specs, each with its words above it. That it is refused by exactly its two rows and in their order is `by_number`, `only_grounds` and `otherwise` of demand 1 too. Assumes nothing.
use Rattle.std.specs.Prelude.{true, false, List, ◌++◌, map, ◌≡◌, ℕ, ◌≤◌, length, take, drop}
use Rattle.generated.specs.Generated.{generated_graph}
use Rattle.graph.specs.declared.Asked.{Asked}
use Rattle.graph.specs.Class.{name_ok}
use Rattle.graph.specs.Graph.{states}
use Rattle.rules.specs.Answer.{Accepted, Answer, Quotation, Written}
use Rattle.std.specs.Prelude.{Ok, Err}
use Rattle.rules.specs.declared.Quote.{Quote}
use Rattle.rules.specs.declared.Refusal.TheVariants.{StateCount, TransitionCount}
use Rattle.rules.specs.Calls.{Call, read, run}
use Rattle.rules.specs.Image.{image, image_length}
use Rattle.rules.specs.Limits.{within, state_count_ok, transition_count_ok}
use Rattle.rules.specs.Quotations.{says_asked, Stated}
use Rattle.rules.specs.Refusal.{said}
use Rattle.plan.specs.declared.Edited.{Edited}
use Rattle.arrays.specs.declared.Plan.{Plan}
use Rattle.plan.specs.View.{view, laid, no_plan}
use Rattle.demands.specs.Calculator.{Calculator, Listed}

pub record Generates (c : Calculator) : Type 0 where
  -- the plan that the seed makes, from "From a 32-bit seed s" to "all teams zero.", and every place past its counts is zero
  pub generated_plan : {s n m : ℕ} {e : Edited} → c.generates s n m e → e.answer ≡ Accepted
      → (view e.plan ≡ generated_graph s n m) × (e.plan ≡ laid no_plan (generated_graph s n m))
  -- so it is a plan: within the limits
  pub generated_within : {s n m : ℕ} {e : Edited} → c.generates s n m e → e.answer ≡ Accepted → within (view e.plan) ≡ true
  -- "Every generated plan is one that write
  pub writes_whole : {s n m : ℕ} {e : Edited} {before after : List ℕ} {w : Written} → c.generates s n m e → e.answer ≡ Accepted
      → image_length n m ≤ length before → c.writes e.plan before after w
      → (w ≡ Ok (image_length n m)) × (after ≡ image (generated_graph s n m) ++ drop (image_length n m) before)
  -- and read carry through whole."
  pub reads_whole : {s n m : ℕ} {e back : Edited} {old : Plan} {before after : List ℕ} (k : ℕ) → c.generates s n m e → e.answer ≡ Accepted
      → c.writes e.plan before after (Ok k) → within (view old) ≡ true → c.edits old (read (take k after)) back
      → (back.answer ≡ Accepted) × (view back.plan ≡ generated_graph s n m)
  -- "A bad n returns 4," whatever the transition count is
  pub bad-states : {s n m : ℕ} {e : Edited} → state_count_ok n ≡ false → c.generates s n m e → (e.answer ≡ Err StateCount) × (e.plan ≡ no_plan)
  -- "then a transition count above 2,048 returns 5."
  pub bad-transitions : {s n m : ℕ} {e : Edited} → state_count_ok n ≡ true → transition_count_ok m ≡ false → c.generates s n m e
      → (e.answer ≡ Err TransitionCount) × (e.plan ≡ no_plan)
  -- and no seed is refused
  pub accepted_else : {s n m : ℕ} {e : Edited} → state_count_ok n ≡ true → transition_count_ok m ≡ true → c.generates s n m e → e.answer ≡ Accepted
  -- demand 3's claim of a list that begins with a generated plan: the answers and the plan after it are those that the rules give,
  pub listed : {s n m : ℕ} {e : Edited} {calls : List Call} {answers : List Answer} {last : Plan} → c.generates s n m e → e.answer ≡ Accepted
      → Listed c e.plan calls answers last
      → (map said answers ≡ (run (generated_graph s n m) calls).answers) × (view last ≡ (run (generated_graph s n m) calls).last)
  -- and quoted into n or more places, n its state count, that plan has its figure, shown
  pub quoted : {s n m : ℕ} {e : Edited} {calls : List Call} {answers : List Answer} {last : Plan} {asked : Asked} {before after : List ℕ} {q : Quotation}
      → c.generates s n m e → e.answer ≡ Accepted → Listed c e.plan calls answers last → name_ok asked ≡ true
      → states (run (generated_graph s n m) calls).last ≤ length before → c.quotes asked last before after q
      → (x : Quote) × (q ≡ Ok x) × Stated (says_asked asked (run (generated_graph s n m) calls).last) x before after

-- "We compare releases on made-up plans and need the same ones everywhere.": two calculators, or one called twice, given the same seed and counts, answer the same beside the same plan
-- value, to the last place, refused or not
abbrev pub SameEverywhere : Calculator → Calculator → Type 0
SameEverywhere c c' = (s n m : ℕ) (e e' : Edited) → c.generates s n m e → c'.generates s n m e' → e ≡ e'
