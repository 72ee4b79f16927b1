-- What the calls promise. Document 01: "every public call has a promise for all inputs, refused ones too, that equates its result, the plan and
-- each lent place afterwards with a definition". Assumes nothing.
use Rattle.std.specs.Prelude.{List, [], ◌∷◌, ◌≡◌, ℕ}
use Rattle.graph.specs.Graph.{Graph}
use Rattle.rules.specs.Answer.{Accepted, Answer}
use Rattle.std.specs.Prelude.{Ok, Err, Result as Returned}
use Rattle.arrays.specs.declared.Counts.{Counts}
use Rattle.rules.specs.declared.Format.{Format}
use Rattle.rules.specs.declared.Refusal.{Refusal}
use Rattle.rules.specs.Calls.{Call, step, held_in}
use Rattle.rules.specs.Image.{read_image}
use Rattle.rules.specs.Refusal.{Result, accepted, refused, answer_of, said}
use Rattle.rules.specs.Rules.{next}
use Rattle.taken.specs.Taken.{bits_taken, bits_in, bits_of}
use Rattle.arrays.specs.declared.Plan.{Plan}
use Rattle.plan.specs.declared.Edited.{Edited}
use Rattle.plan.specs.View.{view, laid, no_plan}

-- what a call that takes no bits returns: a refusal with the plan as it was, or the plan that it made
abbrev pub refusing : Plan → Refusal → Edited
refusing p r = record { answer = Err r; plan = p; taken = 0 }

abbrev pub accepting : Plan → Edited
accepting p = record { answer = Accepted; plan = p; taken = 0 }

-- what a call is answered that takes octets
abbrev pub answered : Returned Counts Refusal → Answer
answered (Ok k) = Accepted
answered (Err r) = Err r

-- the plan value after a call: the new plan, with every place past its counts as it was; "Any refused event: the plan stays", to the last place
abbrev pub next_value : Plan → Result Graph → Plan
next_value p (accepted g) = laid p g
next_value p (refused k) = p

-- a call that was given the plan p and for which the rules give o: its answer and the plan afterwards are the rules', and so is every place of
-- the plan value; and it took so many bits: "Let the reader count the bits it takes over the whole call" (document 02, E6)
pub record Edit (p : Plan) (o : Result Graph) (bits : ℕ) (r : Edited) : Type 0 where
  pub answer : said r.answer ≡ answer_of o
  pub plan : view r.plan ≡ next (view p) o
  pub whole : r.plan ≡ next_value p o
  pub taken : r.taken ≡ bits

-- a call on a plan, by its arguments
abbrev pub Turn : Plan → Call → Edited → Type 0
Turn p call r = Edit p (step (view p) call) (bits_of (view p) call) r

-- the plan that an image holds, made from nothing, by the image's grounds alone. "A refused fresh, or later call that makes a plan from nothing, makes none:
-- any plan value beside the number has 0 states, all else zero, and every call refuses it by 0."
abbrev pub Held : List ℕ → Edited → Type 0
Held image r = Edit no_plan (read_image image) (bits_taken image) r

-- and so for an image or a text, by the grounds of its octets alone
abbrev pub HeldIn : Format → List ℕ → Edited → Type 0
HeldIn format octets r = Edit no_plan (held_in format octets) (bits_in format octets) r

-- a list of calls, each handed the plan value that the one before it returned: what the promises say of its answers and of the last plan value
pub data Obeyed : Plan → List Call → List Answer → Plan → Type 0 where
  none : {p : Plan} → Obeyed p [] [] p
  more : {p q : Plan} {call : Call} {calls : List Call} {answers : List Answer} (e : Edited)
      → Turn p call e → Obeyed e.plan calls answers q → Obeyed p (call ∷ calls) (e.answer ∷ answers) q
