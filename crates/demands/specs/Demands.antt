-- THE THREE DEMANDS: a record for each. The customer's words stand in quotation marks, whole and in their order (the paper of the demands), each sentence or
-- part of one above the fields that carry it; sentences of document 01 that belong to a demand are marked (01). proofs/Demands.antt proves them of every
-- calculator that keeps the published promises and answers (`demand_1`, `demand_2`, `demand_3`).
--
-- To be read before: Calculator.antt (what is published). What it rests on: the rules of the calls and their rows of the table, rules/specs; routes
-- and figures, graph/specs; the report's procedures, report/specs. Assumes nothing.
use Rattle.std.specs.Prelude.{true, false, List, [], ◌∷◌, ◌++◌, map, ◌⊎◌, ◌≡◌, ℕ, ◌≤◌, ◌<◌, length, take, drop}
use Rattle.field.specs.Field.{Octets}
use Rattle.generated.specs.Generated.{generate_rows}
use Rattle.graph.specs.declared.Asked.{Asked}
use Rattle.graph.specs.declared.Asked.TheVariants.{One}
use Rattle.graph.specs.declared.Which.{Which}
use Rattle.graph.specs.declared.Which.TheVariants.{LeastDelay, GreatestDelay, LeastCount, GreatestCount}
use Rattle.graph.specs.Class.{name_ok}
use Rattle.graph.specs.Figure.{Figure}
use Rattle.graph.specs.Graph.{Graph, states, counted, team_of}
use Rattle.report.specs.Bounds.{finite, lower, upper}
use Rattle.report.specs.Counts.{mincount, maxcount}
use Rattle.report.specs.Procedure.{Returns}
use Rattle.report.specs.Agreement.{least_figure, greatest_figure}
use Rattle.rules.specs.Answer.{Accepted, Answer, Quotation, Quotations, Written}
use Rattle.std.specs.Prelude.{Ok, Err}
use Rattle.rules.specs.declared.FourQuotes.{FourQuotes}
use Rattle.rules.specs.declared.HeldQuotations.{HeldQuotations}
use Rattle.rules.specs.declared.Quote.{Quote}
use Rattle.rules.specs.Aldebaran.{export_rows}
use Rattle.rules.specs.Calls.{Call, read, rows_of, run_fresh}
use Rattle.rules.specs.Image.{image_by, image, graph_in, image_rows, version_of}
use Rattle.rules.specs.Limits.{within, state_count_ok}
use Rattle.rules.specs.Quotations.{meant, said_quotation, said_quotations, says_asked, Stated, quote_of, AllStated, quote_rows, all_rows, held_rows, record_rows}
use Rattle.rules.specs.declared.Refusal.{Refusal}
use Rattle.rules.specs.declared.Refusal.TheVariants.{PlanLimits, TeamNumber}
use Rattle.rules.specs.Refusal.{Result, accepted, refused, answer_of, said, wrote, number, code}
use Rattle.rules.specs.Rules.{fresh_rows, write_rows}
use Rattle.rules.specs.Table.{Row, first, Holds, NoneHolds}
use Rattle.plan.specs.declared.Edited.{Edited}
use Rattle.arrays.specs.declared.Plan.{Plan}
use Rattle.plan.specs.View.{view, no_plan}
use Rattle.demands.specs.Calculator.{Calculator, Answers, Listed}
use Rattle.demands.specs.Report.{Premises, Gives, GivesNumber}

module _ (c : Calculator) where
  -- a call of the calculator: the table's rows for it, and what it answered. Every public call has its rows
  pub data Called : List Row → Result (Unit {0}) → Type 0 where
    fresh : {n : ℕ} {e : Edited} → c.freshes n e → Called (fresh_rows n) (said e.answer)
    generate : {s n m : ℕ} {e : Edited} → c.generates s n m e → Called (generate_rows n m) (said e.answer)
    held : {octets : List ℕ} {e : Edited} → c.helds octets e → Called (image_rows octets) (said e.answer)
    edit : {p : Plan} {call : Call} {e : Edited} → c.edits p call e → Called (rows_of (view p) call) (said e.answer)
    write : {p : Plan} {before after : List ℕ} {w : Written} → c.writes p before after w → Called (write_rows (view p) before) (answer_of (wrote w))
    export : {p : Plan} {before after : List ℕ} {w : Written} → c.exports p before after w → Called (export_rows (view p) before) (answer_of (wrote w))
    recording : {p : Plan} {before after : List ℕ} {w : Written} → c.records p before after w
        → Called (record_rows (view p) before) (answer_of (wrote w))
    quote : {asked : Asked} {p : Plan} {before after : List ℕ} {q : Quotation} → c.quotes asked p before after q
        → Called (quote_rows asked (view p) before) (said_quotation q)
    all-four : {p : Plan} {before after : List ℕ} {q : Quotations} → c.quotes-all p before after q
        → Called (all_rows (view p) before) (said_quotations q)
    all_of_image : {octets before after : List ℕ} {q : HeldQuotations} → c.quotes-image octets before after q
        → Called (held_rows octets before) (said_quotations q.quotations)

  -- one that was given a plan, and what it answered
  pub data Given : Plan → Result (Unit {0}) → Type 0 where
    edit : {p : Plan} {call : Call} {e : Edited} → c.edits p call e → Given p (said e.answer)
    write : {p : Plan} {before after : List ℕ} {w : Written} → c.writes p before after w → Given p (answer_of (wrote w))
    export : {p : Plan} {before after : List ℕ} {w : Written} → c.exports p before after w → Given p (answer_of (wrote w))
    recording : {p : Plan} {before after : List ℕ} {w : Written} → c.records p before after w → Given p (answer_of (wrote w))
    quote : {asked : Asked} {p : Plan} {before after : List ℕ} {q : Quotation} → c.quotes asked p before after q → Given p (said_quotation q)
    all-four : {p : Plan} {before after : List ℕ} {q : Quotations} → c.quotes-all p before after q → Given p (said_quotations q)

  -- one that was lent places: they before and after it, and what it answered
  pub data Lent : List ℕ → List ℕ → Result (Unit {0}) → Type 0 where
    write : {p : Plan} {before after : List ℕ} {w : Written} → c.writes p before after w → Lent before after (answer_of (wrote w))
    export : {p : Plan} {before after : List ℕ} {w : Written} → c.exports p before after w → Lent before after (answer_of (wrote w))
    recording : {p : Plan} {before after : List ℕ} {w : Written} → c.records p before after w → Lent before after (answer_of (wrote w))
    quote : {asked : Asked} {p : Plan} {before after : List ℕ} {q : Quotation} → c.quotes asked p before after q
        → Lent before after (said_quotation q)
    all-four : {p : Plan} {before after : List ℕ} {q : Quotations} → c.quotes-all p before after q → Lent before after (said_quotations q)
    all_of_image : {octets before after : List ℕ} {q : HeldQuotations} → c.quotes-image octets before after q
        → Lent before after (said_quotations q.quotations)

  -- one that makes a plan from nothing, and what came back
  pub data Made : Edited → Type 0 where
    fresh : {n : ℕ} {e : Edited} → c.freshes n e → Made e
    generate : {s n m : ℕ} {e : Edited} → c.generates s n m e → Made e
    held : {octets : List ℕ} {e : Edited} → c.helds octets e → Made e

  -- a figure that was told of a plan, by any of the three calls that quote one: by itself, with all four, or with those of an image
  pub data Told (which : Which) : Graph → Figure → Type 0 where
    quote : {p : Plan} {before after : List ℕ} {q : Quote} → c.quotes (One which) p before after (Ok q) → Told which (view p) (meant q.figure)
    all-four : {p : Plan} {before after : List ℕ} {q : FourQuotes} → c.quotes-all p before after (Ok q)
        → Told which (view p) (meant (quote_of q which).figure)
    all_of_image : {octets before after : List ℕ} {r : HeldQuotations} {q : FourQuotes} → c.quotes-image octets before after r → r.quotations ≡ Ok q
        → Told which (graph_in octets) (meant (quote_of q which).figure)

  -- DEMAND 1
  pub record Demand1 : Type 0 where
    -- "No plan image, edit or lent buffer stops the calculator, takes it outside memory or keeps it running for good."
    pub answers : Answers c
    -- "Bad input is refused by a number from the table in document 01,
    pub by_number : {rows : List Row} {a : Result (Unit {0})} → Called rows a → a ≡ first rows
    -- (01) "Where an answer is an enum, a definition sets out this paper's number and values for each of its cases. The promises use that definition.": the number of the answer is
    -- that of its row, and no two cases have the same
    pub its_number : {rows : List Row} {a : Result (Unit {0})} (k : Refusal) → Called rows a → first rows ≡ refused k → code a ≡ number k
    pub one_number : (j k : Refusal) → number j ≡ number k → j ≡ k
    -- and a refusal changes neither the plan
    pub plan-stays : {p : Plan} {call : Call} {e : Edited} (k : Refusal) → c.edits p call e → said e.answer ≡ refused k → e.plan ≡ p
    -- nor any lent buffer."
    pub lent_stay : {before after : List ℕ} {a : Result (Unit {0})} (k : Refusal) → Lent before after a → a ≡ refused k → after ≡ before
    -- (01) "A refused fresh, or later call that makes a plan from nothing, makes none: any plan value beside the number has 0 states, all else zero,
    pub none_made : {e : Edited} (k : Refusal) → Made e → said e.answer ≡ refused k → e.plan ≡ no_plan
    -- and every call refuses it by 0."
    pub none-refused : {a : Result (Unit {0})} → Given no_plan a → a ≡ refused PlanLimits
    -- (01) "These conditions are the only grounds.
    pub only_grounds : {rows : List Row} {a : Result (Unit {0})} (k : Refusal) → Called rows a → a ≡ refused k → Holds k rows
    pub otherwise : {rows : List Row} {a : Result (Unit {0})} → Called rows a → NoneHolds rows → a ≡ accepted tt
    -- 0 comes before the rest in every call."
    pub limits-first : {p : Plan} {a : Result (Unit {0})} → Given p a → within (view p) ≡ false → a ≡ refused PlanLimits

  -- DEMAND 2
  pub record Demand2 : Type 0 where
    -- "Images are read and written by document 01's layout:
    pub written-image : {p : Plan} {before after : List ℕ} (n : ℕ) → c.writes p before after (Ok n)
        → (length (image (view p)) ≡ n) × (after ≡ image (view p) ++ drop n before)
    pub read-image : {p : Plan} {octets : List ℕ} {e : Edited} → Octets octets → c.edits p (read octets) e → e.answer ≡ Accepted
        → image_by (version_of octets) (view e.plan) ≡ octets
    -- (02, E4) "Version 1 .. read with all teams zero .. other versions return 3"
    pub read-version : {p : Plan} {octets : List ℕ} {e : Edited} → c.edits p (read octets) e → e.answer ≡ Accepted
        → ((version_of octets ≡ 1) × ((s : ℕ) → s < states (view e.plan) → team_of (view e.plan) s ≡ 0)) ⊎ (version_of octets ≡ 2)
    -- every plan written reads back as that plan,
    pub reads-back : {p old : Plan} {before after : List ℕ} {e : Edited} (n : ℕ) → within (view old) ≡ true → c.writes p before after (Ok n)
        → c.edits old (read (take n after)) e → (e.answer ≡ Accepted) × (view e.plan ≡ view p)
    -- and every image read writes back as those octets." (02, E4) "Write always produces version 2, so only version 2 images come back octet for octet":
    pub writes-back : {old : Plan} {octets before after : List ℕ} {e : Edited} {w : Written} → Octets octets → version_of octets ≡ 2 → c.edits old (read octets) e
        → e.answer ≡ Accepted → length octets ≤ length before → c.writes e.plan before after w
        → (w ≡ Ok (length octets)) × (after ≡ octets ++ drop (length octets) before)
    -- one of version 1 writes back as the version 2 image of the same plan
    pub writes-version_2 : {old : Plan} {octets before after : List ℕ} {e : Edited} {w : Written} → Octets octets → c.edits old (read octets) e
        → e.answer ≡ Accepted → length octets ≤ length before → c.writes e.plan before after w
        → (w ≡ Ok (length octets)) × (after ≡ image (view e.plan) ++ drop (length octets) before)
    -- the same of the plan that an image holds, made from nothing
    pub held-image : {octets : List ℕ} {e : Edited} → Octets octets → c.helds octets e → e.answer ≡ Accepted → image_by (version_of octets) (view e.plan) ≡ octets
    pub holds-back : {p : Plan} {before after : List ℕ} {e : Edited} (n : ℕ) → c.writes p before after (Ok n) → c.helds (take n after) e
        → (e.answer ≡ Accepted) × (view e.plan ≡ view p)
    -- (02, E5) "The report's procedures are matched from then on for plans where no state is both start and final.":
    -- "Where all durations are 1, some state is marked start and every unfinished state has a transition out, the figures are those of the procedures
    -- lower, upper,
    pub lower-is : {g : Graph} {f : Figure} → Premises g → Told LeastDelay g f → Gives (lower g) least_figure f
    pub upper_is : {g : Graph} {f : Figure} → Premises g → Told GreatestDelay g f → Gives (upper g) greatest_figure f
    -- mincount and maxcount of report CMU-CS-94-147, the last two wherever upper is finite."
    pub mincount-is : {g : Graph} {f : Figure} → Premises g → Told LeastCount g f → (i : ℕ) → Returns (upper g) (finite i) → GivesNumber (mincount g (counted g)) f
    pub maxcount-is : {g : Graph} {f : Figure} → Premises g → Told GreatestCount g f → (i : ℕ) → Returns (upper g) (finite i)
        → GivesNumber (maxcount g (counted g)) f

  -- a list of calls from a fresh plan, and what came back: what was called, and what was heard
  pub record Session : Type 0 where
    pub n : ℕ
    pub n_ok : state_count_ok n ≡ true
    pub calls : List Call
    pub made : Edited
    pub answers : List Answer
    pub last : Plan
    pub freshly : c.freshes n made
    pub in_turn_lem : Listed c made.plan calls answers last

-- DEMAND 3, (01) "one claim about the whole list, and not one for each call":
-- (02, E1, of import) "demand 3's lists may hold it":
-- (02, E2, of a call that goes on forever) "For the greatest delay an open ring then counts as going on forever unanswered.":
-- (02, E4, of team) "The list of edits behind a quotation may include the new call.":
-- (02, E5, of a start that leads to an answer) "a route has at least one transition. Its first state may be final, and no state between its first and last may
-- be.": (of a call that goes on forever, and of one that ends unanswered) "An endless or stranded walk, or one that takes an open high, likewise may begin at a
-- final start, and a start without transitions is a dead end.":
-- "For every list of mark, join, unjoin and read calls from a fresh plan, refused ones included,
pub record OneClaim (c : Calculator) (s : Session c) : Type 0 where
  pub fresh-accepted : s.made.answer ≡ Accepted
  -- each call's answer
  pub answers : map said s.answers ≡ (run_fresh s.n s.calls).answers
  -- and the plan after the list are those that document 01's rules give."
  pub plan : view s.last ≡ (run_fresh s.n s.calls).last
  -- "That plan is then quoted into n or more places, n its state count." (02, E4) "The counts may be quoted for any one of these five classes, named by a team
  -- number in it"
  pub accepted_where : {asked : Asked} {before after : List ℕ} {r : Quotation} → c.quotes asked s.last before after r → name_ok asked ≡ true
      → states (run_fresh s.n s.calls).last ≤ length before → (q : Quote) × (r ≡ Ok q)
  -- (02, E4) "A team above 31 returns 18 .. so that a count asked for it has no figure under demand 3"
  pub no-figure : {asked : Asked} {before after : List ℕ} {r : Quotation} → c.quotes asked s.last before after r → name_ok asked ≡ false → r ≡ Err TeamNumber
  -- and its remaining sentences, from "A figure that is a number equals the delay or count of the route shown." to "A least figure is neither.": each stands
  -- above the field that carries it in rules/specs/Quotations.antt, `LeastQuoted` for a least figure and `GreatestQuoted` for a greatest one (`says_asked`)
  pub right : {asked : Asked} {before after : List ℕ} (q : Quote) → c.quotes asked s.last before after (Ok q)
      → Stated (says_asked asked (run_fresh s.n s.calls).last) q before after
  -- the same of all four at once, into 512 places each
  pub all-accepted : {before after : List ℕ} {r : Quotations} → c.quotes-all s.last before after r → 2048 ≤ length before → (q : FourQuotes) × (r ≡ Ok q)
  pub all_right : {before after : List ℕ} (q : FourQuotes) → c.quotes-all s.last before after (Ok q)
      → AllStated (run_fresh s.n s.calls).last q before after

-- the same of an image's plan, made from nothing: it is as if the image had been read over a fresh plan, whichever. So it is for the list whose first call is that read (n is the fresh
-- plan's number of states)
pub record ImageClaim (c : Calculator) (n : ℕ) (octets : List ℕ) : Type 0 where
  -- "each call's answer
  pub answer : {e : Edited} → c.helds octets e → said e.answer ∷ [] ≡ (run_fresh n (read octets ∷ [])).answers
  pub answers : {e : Edited} {calls : List Call} {answers : List Answer} {last : Plan} → c.helds octets e → e.answer ≡ Accepted
      → Listed c e.plan calls answers last → map said (e.answer ∷ answers) ≡ (run_fresh n (read octets ∷ calls)).answers
  -- and the plan after the list are those that document 01's rules give."
  pub plan : {e : Edited} {calls : List Call} {answers : List Answer} {last : Plan} → c.helds octets e → e.answer ≡ Accepted
      → Listed c e.plan calls answers last → view last ≡ (run_fresh n (read octets ∷ calls)).last
  -- what is quoted of it is right
  pub quoted-right : {e : Edited} {calls : List Call} {answers : List Answer} {last : Plan} {asked : Asked} {before after : List ℕ} (q : Quote) → c.helds octets e
      → e.answer ≡ Accepted → Listed c e.plan calls answers last → c.quotes asked last before after (Ok q)
      → Stated (says_asked asked (run_fresh n (read octets ∷ calls)).last) q before after
  -- and the four figures of the image at once, "into n or more places": 512 for each figure. Where the read is accepted and there are as many places, they are quoted,
  pub accepted_where : {before after : List ℕ} {r : HeldQuotations} → c.quotes-image octets before after r → (run_fresh n (read octets ∷ [])).answers ≡ accepted tt ∷ []
      → 2048 ≤ length before → (q : FourQuotes) × (r.quotations ≡ Ok q)
  -- and each sentence on figures and walks holds of each
  pub right : {before after : List ℕ} {r : HeldQuotations} (q : FourQuotes) → c.quotes-image octets before after r → r.quotations ≡ Ok q
      → AllStated (run_fresh n (read octets ∷ [])).last q before after

pub record Demand3 (c : Calculator) : Type 0 where
  pub lists : (s : Session c) → OneClaim c s
  pub images : (n : ℕ) → state_count_ok n ≡ true → (octets : List ℕ) → ImageClaim c n octets
