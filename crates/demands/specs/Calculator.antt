-- A calculator as its callers see it, and what is published of it.
--
-- What ties `Promises` to the code: each of its fields is, word for word, the `ensures` of public functions, all without a `requires`: of plan/src/lib.rt
-- `fresh`, `held`, `mark`, `team`, `join`, `unjoin`, `replace` (read and import), `write` and `export`, of generation/src/lib.rt `generate`, of quotation/src/lib.rt `record`, `quote` with
-- the six that hand on to it, `all` and `held`. What comes back of a call that reads an image has the bits that its reader took beside the answer (`taken`; document 02, E6).
-- That each function meets its `ensures` is what the check of its crate proves; here it is the hypothesis. Assumes nothing.
use Rattle.std.specs.Prelude.{List, [], ◌∷◌, ℕ}
use Rattle.generated.specs.Generated.{generate_rule}
use Rattle.graph.specs.declared.Asked.{Asked}
use Rattle.rules.specs.Answer.{Answer, Quotation, Quotations, Written}
use Rattle.rules.specs.declared.HeldQuotations.{HeldQuotations}
use Rattle.rules.specs.Aldebaran.{export_text, export_rule}
use Rattle.rules.specs.Calls.{Call}
use Rattle.rules.specs.Image.{image}
use Rattle.rules.specs.Quotations.{Quotes, QuotesAll, Write, record_octets, record_rule}
use Rattle.rules.specs.Rules.{fresh_rule, write_rule}
use Rattle.taken.specs.Taken.{QuotesImage}
use Rattle.plan.specs.declared.Edited.{Edited}
use Rattle.arrays.specs.declared.Plan.{Plan}
use Rattle.plan.specs.Promise.{Edit, Turn, Held}
use Rattle.plan.specs.View.{view, no_plan}
use Rattle.demands.specs.Arguments.{Number, Slice, Value, Passable, Nameable}

-- a calculator: what comes back of what it is given. Lent places are seen as they stand before the call and after it. Each call is a relation, so
-- that nothing is taken for granted: neither that something comes back, nor that it is always the same. `generates` is 02's E7: a seed, n and m. Three calls are
-- ours and not 01's: `helds` makes the plan that an image holds, from nothing; `quotes-all` quotes all four figures of a plan, and `quotes-image` those of the
-- plan that an image holds
pub record Calculator : Type 1 where
  pub freshes : ℕ → Edited → Type 0
  pub generates : ℕ → ℕ → ℕ → Edited → Type 0
  pub helds : List ℕ → Edited → Type 0
  pub edits : Plan → Call → Edited → Type 0
  pub writes : Plan → List ℕ → List ℕ → Written → Type 0
  pub exports : Plan → List ℕ → List ℕ → Written → Type 0
  pub records : Plan → List ℕ → List ℕ → Written → Type 0
  pub quotes : Asked → Plan → List ℕ → List ℕ → Quotation → Type 0
  pub quotes-all : Plan → List ℕ → List ℕ → Quotations → Type 0
  pub quotes-image : List ℕ → List ℕ → List ℕ → HeldQuotations → Type 0

-- it keeps what is published: the `ensures` of each public call of plan, generation and quotation, none of which has a `requires`
pub record Promises (c : Calculator) : Type 0 where
  pub freshes : {n : ℕ} {e : Edited} → c.freshes n e → Edit no_plan (fresh_rule n) 0 e
  pub generates : {s n m : ℕ} {e : Edited} → c.generates s n m e → Edit no_plan (generate_rule s n m) 0 e
  pub helds : {octets : List ℕ} {e : Edited} → c.helds octets e → Held octets e
  pub edits : {p : Plan} {call : Call} {e : Edited} → c.edits p call e → Turn p call e
  pub writes : {p : Plan} {before after : List ℕ} {w : Written} → c.writes p before after w
      → Write (image (view p)) (write_rule (view p) before) before after w
  pub exports : {p : Plan} {before after : List ℕ} {w : Written} → c.exports p before after w
      → Write (export_text (view p)) (export_rule (view p) before) before after w
  pub records : {p : Plan} {before after : List ℕ} {w : Written} → c.records p before after w
      → Write (record_octets (view p)) (record_rule (view p) before) before after w
  pub quotes : {asked : Asked} {p : Plan} {before after : List ℕ} {q : Quotation} → c.quotes asked p before after q
      → Quotes asked (view p) before after q
  pub quotes-all : {p : Plan} {before after : List ℕ} {q : Quotations} → c.quotes-all p before after q → QuotesAll (view p) before after q
  pub quotes-image : {octets before after : List ℕ} {q : HeldQuotations} → c.quotes-image octets before after q → QuotesImage octets before after q

-- it answers whatever its arguments can hold (Arguments.antt). Of the code the check of each function says so
pub record Answers (c : Calculator) : Type 0 where
  pub freshes : (n : ℕ) → Number 8 n → (e : Edited) × c.freshes n e
  pub generates : (s n m : ℕ) → Number 4 s → Number 8 n → Number 8 m → (e : Edited) × c.generates s n m e
  pub helds : (octets : List ℕ) → Slice 1 octets → (e : Edited) × c.helds octets e
  pub edits : (p : Plan) (call : Call) → Value p → Passable call → (e : Edited) × c.edits p call e
  pub writes : (p : Plan) (before : List ℕ) → Value p → Slice 1 before → (after : List ℕ) × (w : Written) × c.writes p before after w
  pub exports : (p : Plan) (before : List ℕ) → Value p → Slice 1 before → (after : List ℕ) × (w : Written) × c.exports p before after w
  pub records : (p : Plan) (before : List ℕ) → Value p → Slice 1 before → (after : List ℕ) × (w : Written) × c.records p before after w
  pub quotes : (asked : Asked) (p : Plan) (before : List ℕ) → Nameable asked → Value p → Slice 2 before
      → (after : List ℕ) × (q : Quotation) × c.quotes asked p before after q
  pub quotes-all : (p : Plan) (before : List ℕ) → Value p → Slice 2 before → (after : List ℕ) × (q : Quotations) × c.quotes-all p before after q
  pub quotes-image : (octets before : List ℕ) → Slice 1 octets → Slice 2 before
      → (after : List ℕ) × (q : HeldQuotations) × c.quotes-image octets before after q

-- a list of calls, their answers and the plan value after it: "Each call is handed the plan that the one before it left"
pub data Listed (c : Calculator) : Plan → List Call → List Answer → Plan → Type 0 where
  none : {p : Plan} → Listed c p [] [] p
  more : {p q : Plan} {call : Call} {calls : List Call} {answers : List Answer} (e : Edited)
      → c.edits p call e → Listed c e.plan calls answers q → Listed c p (call ∷ calls) (e.answer ∷ answers) q
