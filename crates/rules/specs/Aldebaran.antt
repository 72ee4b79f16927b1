-- Plans from other exchanges: import and export of a plan as text. Document 02, E1. Assumes nothing.
use Rattle.std.specs.Prelude.{Bool, true, false, not, cond, List, [], ◌∷◌, ◌++◌, map, ℕ, zero, suc, leb, eqb, length, get_or, set, replicate}
use Rattle.graph.specs.Graph.{Graph, State, marked, states, start, start_bit, marks_from}
use Rattle.aldebaran.specs.Form.{Reading, off, on}
use Rattle.aldebaran.specs.Text.{Holding, text_of, read_text}
use Rattle.rules.specs.declared.Refusal.TheVariants.{StateCount, TransitionCount, StateNumber, StartCount, TextForm}
use Rattle.rules.specs.Refusal.{Result}
use Rattle.rules.specs.Table.{Row, by_table, each}
use Rattle.rules.specs.Limits.{state_count_ok, transition_count_ok}
use Rattle.rules.specs.Image.{transition_rows}
use Rattle.rules.specs.Rules.{limit_row, buffer_row}

-- ---- import

-- "Import marks only the initial state, as start": n states so; "Aldebaran text read with all teams zero" (E4)
abbrev pub states_from : ℕ → ℕ → List State
states_from n initial = set (replicate n (marked 0)) initial (marked (marks_from 1 0 0))

-- the plan of what a text holds
unfoldable pub plan_of : Holding → Graph
plan_of h = record { state_list = states_from h.states h.initial; transitions = h.transitions }

-- "4, 5, 7 for the initial state", of a first line with these numbers
abbrev pub first_rows : ℕ → ℕ → ℕ → List Row
first_rows initial m n = (StateCount, not (state_count_ok n)) ∷ (TransitionCount, not (transition_count_ok m)) ∷ (StateNumber, leb n initial) ∷ []

-- those, "and then" the transitions' "line by line", 16, 17, 8
unfoldable pub holding_rows : Holding → List Row
holding_rows h =
    first_rows h.initial (length h.transitions) h.states ++ each (transition_rows h.states) h.transitions

-- "Text off this form, its count of lines included, is 15, tested over the whole text before" them
abbrev pub reading_rows : Reading Holding → List Row
reading_rows off = (TextForm, true) ∷ []
reading_rows (on h rest) = (TextForm, false) ∷ holding_rows h

unfoldable pub text_rows : List ℕ → List Row
text_rows text = reading_rows (read_text text)

-- the plan that a text holds; one off the form holds none
abbrev pub plan_read : Reading Holding → Graph
plan_read off = record { state_list = []; transitions = [] }
plan_read (on h rest) = plan_of h

unfoldable pub graph_in_text : List ℕ → Graph
graph_in_text text = plan_read (read_text text)

-- the plan that a text holds, or the refusal
unfoldable pub import_text : List ℕ → Result Graph
import_text text = by_table (text_rows text) (graph_in_text text)

-- "Import is handed the old plan and replaces it as read does": 0, then the text's own
abbrev pub import_rows : Graph → List ℕ → List Row
import_rows g text = limit_row g ∷ text_rows text

-- ---- export

-- the numbers below k of which a test holds, in their order
unfoldable pub passing : (ℕ → Bool) → ℕ → List ℕ
passing test zero = []
passing test (suc k) = passing test k ++ cond (test k) (k ∷ []) []

-- the states marked start, by number
abbrev pub starts : Graph → List ℕ
starts g = passing (start g) (states g)

-- what the text of a plan holds, its one start as the initial state
abbrev pub holding_of : Graph → Holding
holding_of g = record { initial = get_or (starts g) 0 0; states = states g; transitions = g.transitions }

unfoldable pub export_text : Graph → List ℕ
export_text g = text_of (holding_of g)

-- "refuses a plan without exactly one start by 14, then a buffer below the text's length by 11"
abbrev pub export_rows : Graph → List ℕ → List Row
export_rows g buffer = limit_row g ∷ (StartCount, not (eqb (length (starts g)) 1)) ∷ buffer_row buffer (length (export_text g)) ∷ []

-- "Export fills the lent buffer as write does": the text's length is returned
unfoldable pub export_rule : Graph → List ℕ → Result ℕ
export_rule g buffer = by_table (export_rows g buffer) (length (export_text g))

-- "the plan stripped of its final and counted marks", and "exported text comes back without its teams too" (E4)
abbrev pub stripped : Graph → Graph
stripped g =
    record {
      state_list = map (λ (s : State). marked (marks_from (start_bit s.marks) 0 0)) g.state_list;
      transitions = g.transitions;
    }
