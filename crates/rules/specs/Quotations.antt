-- The quotations and the record: their rules, and what an accepted quotation says. Document 01, "Routes and figures", from "Least delay" on, "The
-- quotation record", and rows 0, 11 and 18 of the table. Assumes nothing.
use Rattle.std.specs.Prelude.{Bool, List, [], ◌∷◌, ◌++◌, ◌↔◌, ◌≡◌, ℕ, ◌*◌, ◌≤◌, length, take, drop}
use Rattle.graph.specs.Class.{figure_of, counting}
use Rattle.graph.specs.Graph.{Graph, states, counted}
use Rattle.graph.specs.Route.{Cost, Route, LeadsToAnswer, GoesOnForever, EndsUnanswered, total}
use Rattle.graph.specs.Figure.{Figure, number, NONE, STRANDED, ENDLESS, kind, value, NoStart, Shown, cost_over}
use Rattle.graph.specs.Compute.{least, greatest, figure_for}
use Rattle.graph.specs.Which.{place, four, in_turn}
use Rattle.graph.specs.declared.Asked.{Asked}
use Rattle.graph.specs.declared.Asked.TheVariants.{One, LeastCountFor, GreatestCountFor}
use Rattle.graph.specs.declared.Which.{Which}
use Rattle.graph.specs.declared.Which.TheVariants.{LeastDelay, GreatestDelay, LeastCount, GreatestCount}
use Rattle.field.specs.Field.{Field, pack}
use Rattle.rules.specs.declared.Figure.{Figure as Answered}
use Rattle.rules.specs.declared.Figure.TheVariants.{Number, None, Stranded, Endless}
use Rattle.rules.specs.declared.Quote.{Quote}
use Rattle.rules.specs.Answer.{Quotation, Quotations, Written}
use Rattle.std.specs.Prelude.{Ok, Err}
use Rattle.rules.specs.declared.FourQuotes.{FourQuotes}
use Rattle.rules.specs.Image.{field, graph_in, image_rows}
use Rattle.rules.specs.declared.Refusal.{Refusal}
use Rattle.rules.specs.Refusal.{Result, accepted, refused, wrote}
use Rattle.rules.specs.Table.{Row, by_table, first}
use Rattle.rules.specs.Rules.{limit_row, buffer_row, team_row, written}

-- ---- the answers

-- what a figure of the code is: "its number or kind"
abbrev pub meant : Answered → Figure
meant (Number k) = number k
meant None = NONE
meant Stranded = STRANDED
meant Endless = ENDLESS

-- what a quotation answers: that it was accepted, or the number of a refusal
abbrev pub said_quotation : Quotation → Result (Unit {0})
said_quotation (Ok q) = accepted tt
said_quotation (Err r) = refused r

abbrev pub said_quotations : Quotations → Result (Unit {0})
said_quotations (Ok q) = accepted tt
said_quotations (Err r) = refused r

-- ---- the rules

-- "A team above 31 returns 18, after 7 and before 11" (document 02, E4), of what is quoted for a team's class
abbrev pub name_rows : Asked → List Row
name_rows (One which) = []
name_rows (LeastCountFor team) = team_row team ∷ []
name_rows (GreatestCountFor team) = team_row team ∷ []

-- a quotation that was lent places for its walk: 0, 18 for one that names no team, then 11 for fewer than "n places"
abbrev pub quote_rows : Asked → Graph → List ℕ → List Row
quote_rows asked g places = limit_row g ∷ (name_rows asked ++ (buffer_row places (states g) ∷ []))

unfoldable pub quote_rule : Asked → Graph → List ℕ → Result (Unit {0})
quote_rule asked g places = first (quote_rows asked g places)

-- "a kind of 2 bits (0 number, 1 NONE, 2 STRANDED, 3 ENDLESS) and a figure of 20 bits, zero unless the kind is 0"
abbrev pub figure_fields : Figure → List Field
figure_fields f = field 2 (kind f) ∷ field 20 (value f) ∷ []

-- "for least delay, greatest delay, least count, greatest count in turn"
unfoldable pub record_fields : Graph → List Field
record_fields g = in_turn (λ which. figure_fields (figure_for which g))

-- the 11 octets of the record
unfoldable pub record_octets : Graph → List ℕ
record_octets g = pack (record_fields g)

-- "In record: 11, 13.", after 0, and 13 is out: "take it out of the table." (document 02, E8), since 20 bits hold every figure (`record_fits` of proofs/Record.antt)
abbrev pub record_rows : Graph → List ℕ → List Row
record_rows g buffer = limit_row g ∷ buffer_row buffer 11 ∷ []

unfoldable pub record_rule : Graph → List ℕ → Result ℕ
record_rule g buffer = by_table (record_rows g buffer) 11

-- ---- calls of our own, which 01 does not name

-- All four quotations at once, of a plan or of the plan that an image holds; and the forms of the quotations for other languages, which are lent places
-- for the answer's numbers beside those for the walk. How many places they need is ours to say: the walks stand 512 apart whatever the plan is, so
-- that a caller knows where each is before an image is read, and a figure has four numbers. Too few are 11, as too few for a walk are; an image's own
-- refusals stand in the place of 0 where there is no plan yet.

-- all four, of a plan: 0, then 11 for fewer than 2,048 places
abbrev pub all_rows : Graph → List ℕ → List Row
all_rows g walks = limit_row g ∷ buffer_row walks 2048 ∷ []

unfoldable pub all_rule : Graph → List ℕ → Result (Unit {0})
all_rule g walks = first (all_rows g walks)

-- all four, of an image: its own rows, then 11
abbrev pub held_rows : List ℕ → List ℕ → List Row
held_rows image walks = image_rows image ++ (buffer_row walks 2048 ∷ [])

unfoldable pub held_rule : List ℕ → List ℕ → Result (Unit {0})
held_rule image walks = first (held_rows image walks)

-- a quotation for other languages: its own rows, then 11 for fewer than 4 places of the answer
abbrev pub lent_quote_rows : Asked → Graph → List ℕ → List ℕ → List Row
lent_quote_rows asked g walk out = quote_rows asked g walk ++ (buffer_row out 4 ∷ [])

unfoldable pub lent_quote_rule : Asked → Graph → List ℕ → List ℕ → Result (Unit {0})
lent_quote_rule asked g walk out = first (lent_quote_rows asked g walk out)

-- all four for other languages: their own rows, then 11 for fewer than 16
abbrev pub lent_all_rows : Graph → List ℕ → List ℕ → List Row
lent_all_rows g walks out = all_rows g walks ++ (buffer_row out 16 ∷ [])

unfoldable pub lent_all_rule : Graph → List ℕ → List ℕ → Result (Unit {0})
lent_all_rule g walks out = first (lent_all_rows g walks out)

-- and all four of an image
abbrev pub lent_held_rows : List ℕ → List ℕ → List ℕ → List Row
lent_held_rows image walks out = held_rows image walks ++ (buffer_row out 16 ∷ [])

unfoldable pub lent_held_rule : List ℕ → List ℕ → List ℕ → Result (Unit {0})
lent_held_rule image walks out = first (lent_held_rows image walks out)

-- ---- what an accepted quotation says

-- the figure f, with a walk of k transitions at the front of the lent places, and j: a field for each sentence
module _ (g : Graph) (c : Cost) (f : Figure) (k j : ℕ) (before after : List ℕ) where
  -- "Each quotation also shows a walk, as transition numbers from the front of a lent buffer, with their number k; later places stay."
  pub record Shows : Type 0 where
    pub walk : Shown g c f (take k after) j
    pub number_of : length (take k after) ≡ k
    pub places : k ≤ states g
    -- "For NONE: k is 0." "Only ENDLESS has a j."
    pub none-empty : f ≡ NONE → k ≡ 0
    pub only_endless : (f ≡ ENDLESS → ⊥) → j ≡ 0
    pub later : drop k after ≡ drop k before
    pub as_long : length after ≡ length before

  -- the shown walk is a route that costs the number
  abbrev pub Costs : ℕ → Type 0
  Costs x = (s : ℕ) × Route g s (take k after) × (total g c s (take k after) ≡ x)

  -- "the smallest .. over all routes; NONE if there is no route". (3) marks sentences of the third demand
  pub record LeastQuoted : Type 0 where
    pub figure : f ≡ least g c
    -- (3) "A figure that is a number equals the delay or count of the route shown."
    pub costs : (x : ℕ) → f ≡ number x → Costs x
    -- (3) "Every other route of that plan has at least as much if the figure is a least one,
    pub smallest : (x : ℕ) → f ≡ number x → (s : ℕ) (ts : List ℕ) → Route g s ts → x ≤ total g c s ts
    -- (3) "A least figure is NONE exactly when no start leads to an answer,
    pub none : (f ≡ NONE) ↔ ((s : ℕ) → LeadsToAnswer g s → ⊥)
    -- (3) "A least figure is neither": neither ENDLESS nor STRANDED
    pub not_stranded : f ≡ STRANDED → ⊥
    pub not_endless : f ≡ ENDLESS → ⊥
    pub shows : Shows

  -- "first that applies: NONE if no state is marked start; ENDLESS if an endless walk of unfinished states exists; STRANDED if a walk of unfinished
  -- states ends in a dead end; else the largest .. over all routes". (02, E2) "Greatest delay is then ENDLESS also when an unfinished walk from a start can
  -- take a transition with an open high."
  pub record GreatestQuoted : Type 0 where
    pub figure : f ≡ greatest g c
    -- (3) a greatest one exactly when there is no start."
    pub none : (f ≡ NONE) ↔ NoStart g
    -- (3) "A greatest figure is ENDLESS exactly when a telephone call can go on forever unanswered,
    -- by an endless walk or by an open ring (02, E2: "For the greatest delay an open ring then counts as going on forever unanswered.")
    pub endless : (f ≡ ENDLESS) ↔ GoesOnForever g c
    -- (3) and STRANDED exactly when none can but one can end unanswered;
    pub stranded : (f ≡ STRANDED) ↔ ((GoesOnForever g c → ⊥) × EndsUnanswered g)
    -- (3) "A figure that is a number equals the delay or count of the route shown."
    pub costs : (x : ℕ) → f ≡ number x → Costs x
    -- (3) and at most as much if it is a greatest one."
    pub largest : (x : ℕ) → f ≡ number x → (s : ℕ) (ts : List ℕ) → Route g s ts → total g c s ts ≤ x
    -- (3) the walk shown is as document 01 asks for that kind."
    pub shows : Shows

-- ---- what each quotation promises

-- what holds of a figure with its k and j, the lent places before and the lent places after
abbrev pub Says : Type 1
Says = Figure → ℕ → ℕ → List ℕ → List ℕ → Type 0

-- it holds of a quote, and of the lent places before and after
abbrev pub Stated : Says → Quote → List ℕ → List ℕ → Type 0
Stated P q before after = P (meant q.figure) q.k q.j before after

-- of each figure, "once, over any yes-or-no on states" (document 02, E4): p says which states count
abbrev pub says_over : Which → (ℕ → Bool) → Graph → Says
says_over LeastDelay p g = LeastQuoted g (cost_over LeastDelay p g)
says_over GreatestDelay p g = GreatestQuoted g (cost_over GreatestDelay p g)
says_over LeastCount p g = LeastQuoted g (cost_over LeastCount p g)
says_over GreatestCount p g = GreatestQuoted g (cost_over GreatestCount p g)

-- of what is quoted; and of one of the four, by the counted mark
abbrev pub says_asked : Asked → Graph → Says
says_asked asked g = says_over (figure_of asked) (counting asked g) g

abbrev pub says : Which → Graph → Says
says which g = says_over which (counted g) g

-- a quotation of the plan g: its answer is the rule's, a refusal leaves every lent place, and an accepted one says what it should
pub record Quotes (asked : Asked) (g : Graph) (before after : List ℕ) (r : Quotation) : Type 0 where
  pub answer : said_quotation r ≡ quote_rule asked g before
  pub kept : (k : Refusal) → quote_rule asked g before ≡ refused k → after ≡ before
  pub quoted : (q : Quote) → r ≡ Ok q → Stated (says_asked asked g) q before after

-- ---- all four at once

-- the quote of a figure
abbrev pub quote_of : FourQuotes → Which → Quote
quote_of q = four q.least_delay q.greatest_delay q.least_count q.greatest_count

-- the places of a figure's walk: the 512 from 512 times its place in the order on
abbrev pub part : Which → List ℕ → List ℕ
part which places = take 512 (drop (512 * place which) places)

-- the fields of the record of four quotes
unfoldable pub quotes_fields : FourQuotes → List Field
quotes_fields q = in_turn (λ which. figure_fields (meant (quote_of q which).figure))

-- k and j of a quote are at most 512
abbrev pub SmallQuote : Quote → Type 0
SmallQuote q = (q.k ≤ 512) × (q.j ≤ 512)

-- the quotes of the four figures, each with its walk in its part of the lent places
pub record AllStated (g : Graph) (q : FourQuotes) (before after : List ℕ) : Type 0 where
  pub each : (which : Which) → Stated (says which g) (quote_of q which) (part which before) (part which after)
  pub later : drop 2048 after ≡ drop 2048 before

-- a quotation of all four figures of the plan g: its answer is the rule's, a refusal leaves every lent place, and of an accepted one the four hold
pub record QuotesAll (g : Graph) (before after : List ℕ) (r : Quotations) : Type 0 where
  pub answer : said_quotations r ≡ all_rule g before
  pub kept : (k : Refusal) → all_rule g before ≡ refused k → after ≡ before
  pub quoted : (q : FourQuotes) → r ≡ Ok q → AllStated g q before after

-- a quotation of all four figures of the plan that an image holds: the same, by the rule of images, of the plan that the octets hold
pub record QuotesHeld (image before after : List ℕ) (r : Quotations) : Type 0 where
  pub answer : said_quotations r ≡ held_rule image before
  pub kept : (k : Refusal) → held_rule image before ≡ refused k → after ≡ before
  pub quoted : (q : FourQuotes) → r ≡ Ok q → AllStated (graph_in image) q before after

-- ---- calls that fill a lent buffer

-- a call that puts octets at the front of a lent buffer and for which the rules give o: its answer and the buffer afterwards are the rules'
pub record Write (octets : List ℕ) (o : Result ℕ) (before after : List ℕ) (r : Written) : Type 0 where
  pub answer : wrote r ≡ o
  pub buffer : after ≡ written octets before o
