-- Lists of calls on a plan: what demand 3 feeds to the rules, "the calls' arguments alone". Document 01, "The plan and its edits". Assumes nothing.
use Rattle.std.specs.Prelude.{List, [], ◌∷◌, ℕ}
use Rattle.graph.specs.Graph.{Graph, Transition}
use Rattle.rules.specs.declared.Format.{Format}
use Rattle.rules.specs.declared.Format.TheVariants.{Image, Text}
use Rattle.rules.specs.Refusal.{Result, answer_of}
use Rattle.rules.specs.Table.{Row, by_table}
use Rattle.rules.specs.Image.{image_rows, graph_in, read_image}
use Rattle.rules.specs.Rules.{fresh_graph, with_mark, with_team, with_transition, without, mark_rows, team_rows, join_rows, unjoin_rows, read_rows, next}
use Rattle.rules.specs.Aldebaran.{text_rows, import_rows, graph_in_text, import_text}

-- a call with its arguments, "for read the octets lent to it"; document 02, E1, of import: "demand 3's lists may hold it"; E4, of team: "The list of edits behind a
-- quotation may include the new call"
pub data Call : Type 0 where
  mark : ℕ → ℕ → Call
  team : ℕ → ℕ → Call
  join : Transition → Call
  unjoin : ℕ → Call
  read : List ℕ → Call
  import : List ℕ → Call

-- the call that replaces the plan by the one that octets hold, by what they are
abbrev pub replacing : Format → List ℕ → Call
replacing Image octets = read octets
replacing Text octets = import octets

-- what octets hold by themselves, by what they are: their rows, the plan, and the plan or the refusal
abbrev pub rows_in : Format → List ℕ → List Row
rows_in Image octets = image_rows octets
rows_in Text octets = text_rows octets

abbrev pub plan_held : Format → List ℕ → Graph
plan_held Image octets = graph_in octets
plan_held Text octets = graph_in_text octets

abbrev pub held_in : Format → List ℕ → Result Graph
held_in Image octets = read_image octets
held_in Text octets = import_text octets

-- its rows of the table
abbrev pub rows_of : Graph → Call → List Row
rows_of g (mark state value) = mark_rows g state value
rows_of g (team state number) = team_rows g state number
rows_of g (join t) = join_rows g t
rows_of g (unjoin number) = unjoin_rows g number
rows_of g (read octets) = read_rows g octets
rows_of g (import text) = import_rows g text

-- what "the plan changes" to; for read "the one that the octets hold by the layout"
abbrev pub effect_of : Graph → Call → Graph
effect_of g (mark state value) = with_mark g state value
effect_of g (team state number) = with_team g state number
effect_of g (join t) = with_transition g t
effect_of g (unjoin number) = without g number
effect_of g (read octets) = graph_in octets
effect_of g (import text) = graph_in_text text

-- "the table below and the order under it decide from its arguments and the plan so far whether it is refused, and by which number. If so, the
-- answer is that number and the plan stays; if not, the answer is that it was accepted, and the plan changes as above"
abbrev pub step : Graph → Call → Result Graph
step g call = by_table (rows_of g call) (effect_of g call)

-- the answers of a list of calls, in turn, and the plan after it
pub record Run : Type 0 where
  pub answers : List (Result (Unit {0}))
  pub last : Graph

-- "Each call is handed the plan that the one before it left, after a refused call the same plan again"
unfoldable pub run : Graph → List Call → Run
run g [] = record { answers = []; last = g }
run g (call ∷ calls) =
    let rest = run (next g (step g call)) calls in
    record { answers = answer_of (step g call) ∷ rest.answers; last = rest.last }

-- "They start from the plan of a fresh with any n from 1 to 512"
abbrev pub run_fresh : ℕ → List Call → Run
run_fresh n calls = run (fresh_graph n) calls
