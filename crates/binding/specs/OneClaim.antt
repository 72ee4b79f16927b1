-- DEMAND 3 of the archive's single calls, as programs in other languages make them: a plan in lent slices, a fresh, a list of calls each on what the one before it left, and
-- quotations of the slices after it. It is `OneClaim` of demands/specs/Demands.antt, with the numbers that the calls answer in place of their cases. The customer's words
-- stand above the fields that carry them. `lent-demand_3` of proofs/Runs.antt proves it of every archive that keeps what is published. Assumes nothing.
use Rattle.std.specs.Prelude.{true, false, List, [], ◌∷◌, map, ◌≡◌, ℕ, ◌≤◌, length}
use Rattle.graph.specs.declared.Asked.{Asked}
use Rattle.graph.specs.Class.{name_ok}
use Rattle.graph.specs.Graph.{states}
use Rattle.rules.specs.Calls.{Call, run_fresh}
use Rattle.rules.specs.Limits.{state_count_ok}
use Rattle.rules.specs.Refusal.{code}
use Rattle.plan.specs.View.{view}
use Rattle.slices.specs.Lent.{Slices, has_room, plan_in}
use Rattle.edits.specs.Lent.{LentFresh, LentTurn}
use Rattle.lent.specs.Quoted.{LentQuote, Stands}

-- the archive as its callers see it: what stands in the lent slices before a call and after it, and the number that it answers. A quotation is lent places for its walk and
-- for its answer
pub record Archive : Type 1 where
  pub freshes : ℕ → Slices → Slices → ℕ → Type 0
  pub edits : Slices → Slices → Call → ℕ → Type 0
  pub quotes : Asked → Slices → List ℕ → List ℕ → List ℕ → List ℕ → ℕ → Type 0

-- it keeps what is published, each field the `ensures` of exported functions, none of which has a `requires`: callplan_lent_fresh; _mark, _team, _join, _unjoin, _read and
-- _import; and the six quotations, _least_delay to _greatest_count_for
pub record Kept (a : Archive) : Type 0 where
  pub freshes : {n : ℕ} {s t : Slices} {r : ℕ} → a.freshes n s t r → LentFresh n s t r
  pub edits : {s t : Slices} {call : Call} {r : ℕ} → a.edits s t call r → LentTurn s t call r
  pub quotes : {asked : Asked} {s : Slices} {walk walk' out out' : List ℕ} {r : ℕ} → a.quotes asked s walk walk' out out' r → LentQuote asked s walk walk' out out' r

-- a list of calls, the numbers that they answer and the slices after it: "Each call is handed the plan that the one before it left"
pub data LentListed (a : Archive) : Slices → List Call → List ℕ → Slices → Type 0 where
  none : {s : Slices} → LentListed a s [] [] s
  more : {s u : Slices} {call : Call} {calls : List Call} {answers : List ℕ} (t : Slices) (r : ℕ)
      → a.edits s t call r → LentListed a t calls answers u → LentListed a s (call ∷ calls) (r ∷ answers) u

-- a list of calls from a fresh plan, in slices that have the places of a plan: what was called, and what was heard
pub record LentSession (a : Archive) : Type 0 where
  pub n : ℕ
  pub n_ok : state_count_ok n ≡ true
  pub lent : Slices
  pub room : has_room lent ≡ true
  pub made : Slices
  pub made-answer : ℕ
  pub calls : List Call
  pub answers : List ℕ
  pub last : Slices
  pub freshly : a.freshes n lent made made-answer
  pub in_turn_lem : LentListed a made calls answers last

-- "For every list of mark, join, unjoin and read calls from a fresh plan, refused ones included,
pub record LentClaim (a : Archive) (s : LentSession a) : Type 0 where
  pub fresh-accepted : s.made-answer ≡ 256
  -- each call's answer
  pub answers : s.answers ≡ map code (run_fresh s.n s.calls).answers
  -- and the plan after the list are those that document 01's rules give."
  pub plan : view (plan_in s.last) ≡ (run_fresh s.n s.calls).last
  -- "That plan is then quoted into n or more places, n its state count." (02, E4) "The counts may be quoted for any one of these five classes, named by a team number in it".
  -- The four places of the answer are ours
  pub accepted_where : {asked : Asked} {walk walk' out out' : List ℕ} {r : ℕ} → a.quotes asked s.last walk walk' out out' r → name_ok asked ≡ true
      → states (run_fresh s.n s.calls).last ≤ length walk → 4 ≤ length out → r ≡ 256
  -- (02, E4) "A team above 31 returns 18 .. so that a count asked for it has no figure under demand 3": nothing is put into its places
  pub no-figure : {asked : Asked} {walk walk' out out' : List ℕ} {r : ℕ} → a.quotes asked s.last walk walk' out out' r → name_ok asked ≡ false
      → (r ≡ 18) × (walk' ≡ walk) × (out' ≡ out)
  -- and its remaining sentences, from "A figure that is a number equals the delay or count of the route shown." to "A least figure is neither.": what stands in the places of
  -- an accepted one is a figure of which `says_asked` holds, a field for each (rules/specs/Quotations.antt)
  pub right : {asked : Asked} {walk walk' out out' : List ℕ} {r : ℕ} → a.quotes asked s.last walk walk' out out' r → r ≡ 256
      → Stands asked (run_fresh s.n s.calls).last walk walk' out out'

abbrev pub LentDemand3 : Archive → Type 0
LentDemand3 a = (s : LentSession a) → LentClaim a s
