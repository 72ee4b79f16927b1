-- One pass over the image, document 02, E6: what a read costs in bits that its reader takes, and what it leaves where it is refused at the very last. The request's words stand above
-- the field that carries them. "Let the reader count the bits it takes over the whole call": the count is a result of each call that reads an image, beside its answer. What it comes to is
-- `bits_taken`, and `Ends` the ways in which a read can end (taken/specs). Where the old plan is refused by 0, which comes first, nothing is taken.
-- Assumes nothing.
use Rattle.std.specs.Prelude.{true, false, List, ◌≡◌, ℕ, ◌+◌, ◌*◌, ◌≤◌, length}
use Rattle.graph.specs.Graph.{Graph}
use Rattle.rules.specs.declared.HeldQuotations.{HeldQuotations}
use Rattle.rules.specs.declared.Refusal.{Refusal}
use Rattle.rules.specs.Calls.{read, import}
use Rattle.rules.specs.Image.{transition_count_of}
use Rattle.rules.specs.Limits.{within}
use Rattle.rules.specs.Quotations.{said_quotations}
use Rattle.rules.specs.Refusal.{Result, accepted, refused, answer_of, said}
use Rattle.taken.specs.Taken.{RefusedAtTransition, Ends}
use Rattle.plan.specs.declared.Edited.{Edited}
use Rattle.arrays.specs.declared.Plan.{Plan}
use Rattle.plan.specs.View.{view}
use Rattle.demands.specs.Calculator.{Calculator}

module _ (c : Calculator) where
  -- a call that reads an image: its octets, what it answered, and the bits that its reader took. Over an old plan, from nothing, or for the image's figures
  pub data Reads : List ℕ → Result (Unit {0}) → ℕ → Type 0 where
    over : {old : Plan} {octets : List ℕ} {e : Edited} → c.edits old (read octets) e → Reads octets (said e.answer) e.taken
    from_nothing : {octets : List ℕ} {e : Edited} → c.helds octets e → Reads octets (said e.answer) e.taken
    for_figures : {octets before after : List ℕ} {q : HeldQuotations} → c.quotes-image octets before after q → Reads octets (said_quotations q.quotations) q.taken

  pub record OnePass : Type 0 where
    -- "an accepted image costs exactly eight times its octets
    pub accepted-costs : {octets : List ℕ} {a : Result (Unit {0})} {bits : ℕ} → Reads octets a bits → a ≡ accepted tt → bits ≡ 8 * length octets
    -- and a refused one never more."
    pub refused-costs : {octets : List ℕ} {a : Result (Unit {0})} {bits : ℕ} (k : Refusal) → Reads octets a bits → a ≡ refused k → bits ≤ 8 * length octets
    -- by the ways in which a read can end, each with its answer: so the bits are known in every case
    pub ends : {old : Plan} {octets : List ℕ} {e : Edited} → within (view old) ≡ true → c.edits old (read octets) e
        → (o : Result Graph) × (said e.answer ≡ answer_of o) × Ends octets o e.taken
    -- nothing is taken where the old plan breaks a limit, nor by a call that is lent no image: a text has none
    pub limits-cost : {old : Plan} {octets : List ℕ} {e : Edited} → within (view old) ≡ false → c.edits old (read octets) e → e.taken ≡ 0
    pub text-costs : {old : Plan} {text : List ℕ} {e : Edited} → c.edits old (import text) e → e.taken ≡ 0
    -- "An image refused at its last transition must still leave the old plan.": its number is the transition's, every place of the plan value is as it was, though all of the image was
    -- taken
    pub last-leaves : {old : Plan} {octets : List ℕ} {e : Edited} (i : ℕ) (k : Refusal) → within (view old) ≡ true → RefusedAtTransition octets i k
        → i + 1 ≡ transition_count_of octets → c.edits old (read octets) e → (said e.answer ≡ refused k) × (e.plan ≡ old) × (e.taken ≡ 8 * length octets)
