-- The rules of each call on a plan: what it does, and its rows of the table. Document 01, "Each event on the plan", the table of refused calls and
-- the order under it. Assumes nothing.
use Rattle.std.specs.Prelude.{Bool, not, List, [], ◌∷◌, ◌++◌, ℕ, suc, leb, ltb, length, take, drop, set, replicate}
use Rattle.graph.specs.Class.{team_ok}
use Rattle.graph.specs.Graph.{Graph, Transition, state_with, marked, states, count, state}
use Rattle.rules.specs.declared.Refusal.TheVariants.{PlanLimits, StateCount, StateNumber, ListFull}
use Rattle.rules.specs.declared.Refusal.TheVariants.{TransitionNumber, BufferLength, MarksValue, TeamNumber}
use Rattle.rules.specs.Refusal.{Result, accepted, refused}
use Rattle.rules.specs.Table.{Row, by_table}
use Rattle.rules.specs.Limits.{within, state_count_ok, marks_ok}
use Rattle.rules.specs.Image.{image_rows, transition_rows, image_length}

-- ---- the events

-- "n states, all marks 0, no transitions", and a team that is "zero after fresh" (document 02, E4)
abbrev pub fresh_graph : ℕ → Graph
fresh_graph n = record { state_list = replicate n (marked 0); transitions = [] }

-- "that state's value becomes it"; "mark leaves" the team (E4)
abbrev pub with_mark : Graph → ℕ → ℕ → Graph
with_mark g s value = record { state_list = set g.state_list s (state_with value (state g s).team); transitions = g.transitions }

-- "a team number, 0 to 31, set by its own call" (E4); it leaves the marks
abbrev pub with_team : Graph → ℕ → ℕ → Graph
with_team g s team = record { state_list = set g.state_list s (state_with (state g s).marks team); transitions = g.transitions }

-- "the transition goes to the end of the list"
abbrev pub with_transition : Graph → Transition → Graph
with_transition g t = record { state_list = g.state_list; transitions = g.transitions ++ (t ∷ []) }

-- "that transition goes, and later ones move down by one"
abbrev pub without : Graph → ℕ → Graph
without g number = record { state_list = g.state_list; transitions = take number g.transitions ++ drop (suc number) g.transitions }

-- ---- the rows of each call

-- "any call given a plan": "the plan value breaks a limit of a plan", by whether it is within them. "0 comes before the rest in every call."
abbrev pub limits_row : Bool → Row
limits_row limited = (PlanLimits, not limited)

abbrev pub limit_row : Graph → Row
limit_row g = limits_row (within g)

-- "lent buffer below the image's length, 11 octets, n places"
abbrev pub buffer_row : List ℕ → ℕ → Row
buffer_row lent needed = (BufferLength, ltb (length lent) needed)

-- "fresh, given n": 4. It is given no plan
abbrev pub fresh_rows : ℕ → List Row
fresh_rows n = (StateCount, not (state_count_ok n)) ∷ []

unfoldable pub fresh_rule : ℕ → Result Graph
fresh_rule n = by_table (fresh_rows n) (fresh_graph n)

-- "In mark: 7, 12", of n states; "number 7 remains for mark and for an import's initial state" (document 02, E3)
abbrev pub mark_grounds : ℕ → ℕ → ℕ → List Row
mark_grounds n state value = (StateNumber, leb n state) ∷ (MarksValue, not (marks_ok value)) ∷ []

abbrev pub mark_rows : Graph → ℕ → ℕ → List Row
mark_rows g state value = limit_row g ∷ mark_grounds (states g) state value

-- "A team above 31 returns 18, after 7 and before 11" (document 02, E4)
abbrev pub team_row : ℕ → Row
team_row team = (TeamNumber, not (team_ok team))

-- team: 7, 18, of n states
abbrev pub team_grounds : ℕ → ℕ → ℕ → List Row
team_grounds n state team = (StateNumber, leb n state) ∷ team_row team ∷ []

abbrev pub team_rows : Graph → ℕ → ℕ → List Row
team_rows g state team = limit_row g ∷ team_grounds (states g) state team

-- "In join": the transition's, 16, 17, 8, and then 9, of n states and m transitions
abbrev pub join_grounds : ℕ → ℕ → Transition → List Row
join_grounds n m t = transition_rows n t ++ ((ListFull, leb 2048 m) ∷ [])

abbrev pub join_rows : Graph → Transition → List Row
join_rows g t = limit_row g ∷ join_grounds (states g) (count g) t

-- "unjoin, given a number": 10, of m transitions
abbrev pub unjoin_grounds : ℕ → ℕ → List Row
unjoin_grounds m number = (TransitionNumber, leb m number) ∷ []

abbrev pub unjoin_rows : Graph → ℕ → List Row
unjoin_rows g number = limit_row g ∷ unjoin_grounds (count g) number

-- "read, given octets": 0 ("the old one"), then the image's own
abbrev pub read_rows : Graph → List ℕ → List Row
read_rows g octets = limit_row g ∷ image_rows octets

-- "Write puts the image at the front of the lent buffer and returns its length": 11
abbrev pub write_rows : Graph → List ℕ → List Row
write_rows g buffer = limit_row g ∷ buffer_row buffer (image_length (states g) (count g)) ∷ []

unfoldable pub write_rule : Graph → List ℕ → Result ℕ
write_rule g buffer = by_table (write_rows g buffer) (image_length (states g) (count g))

-- ---- what comes after

-- the plan after a call: "Any refused event: the plan stays"
abbrev pub next : Graph → Result Graph → Graph
next g (accepted g') = g'
next g (refused r) = g

-- the lent buffer after a call that puts octets "at the front of the lent buffer and returns" their number: "later octets stay", and a
-- refusal leaves all
abbrev pub written : List ℕ → List ℕ → Result ℕ → List ℕ
written octets buffer (accepted n) = octets ++ drop n buffer
written octets buffer (refused r) = buffer
