-- The state graph of a call plan, as the lists that a plan value stands for: its states by number, its transitions by
-- number. Document 01, "The plan and its edits" and the first paragraph of "Routes and figures". Assumes
-- nothing.
use Rattle.std.specs.Prelude.{ℕ, ◌/◌, ◌%◌, ◌<◌, ◌+◌, ◌*◌, ◌≡◌, Bool, true, false, List, eqb, length, get_or}

-- "A transition has a from state, a to state, a low and a high duration in seconds"
pub record Transition : Type 0 where
  pub from : ℕ
  pub to : ℕ
  pub low : ℕ
  pub high : ℕ

-- "A marks value is 0 to 7: 4 for start, 2 for final (a person has answered), 1 for counted, added together."
abbrev pub start_bit : ℕ → ℕ
start_bit v = v / 4 % 2

abbrev pub final_bit : ℕ → ℕ
final_bit v = v / 2 % 2

abbrev pub counted_bit : ℕ → ℕ
counted_bit v = v % 2

abbrev pub marks_from : ℕ → ℕ → ℕ → ℕ
marks_from start final counted = 4 * start + 2 * final + counted

abbrev pub start_mark : ℕ → Bool
start_mark v = eqb (start_bit v) 1

abbrev pub final_mark : ℕ → Bool
final_mark v = eqb (final_bit v) 1

abbrev pub counted_mark : ℕ → Bool
counted_mark v = eqb (counted_bit v) 1

-- "a marks value for each state", and "a team number, 0 to 31" (document 02, E4): what a plan keeps of a state
pub record State : Type 0 where
  pub marks : ℕ
  pub team : ℕ

-- the state with this marks value and this team
abbrev pub state_with : ℕ → ℕ → State
state_with value team = record { marks = value; team = team }

-- the state with this marks value, of team 0
abbrev pub marked : ℕ → State
marked value = state_with value 0

-- a plan: a state for each number below n, "and a list of 0 to 2,048 transitions". Both are numbered from 0 by place
pub record Graph : Type 0 where
  pub state_list : List State
  pub transitions : List Transition

-- n, "a number of states"
abbrev pub states : Graph → ℕ
states g = length g.state_list

-- m, "the transition count"
abbrev pub count : Graph → ℕ
count g = length g.transitions

-- the state numbered s; one without marks, of team 0, for a number that is no state's
abbrev pub state : Graph → ℕ → State
state g s = get_or g.state_list s (marked 0)

-- its marks value, and its team
unfoldable pub marks_of : Graph → ℕ → ℕ
marks_of g s = (state g s).marks

unfoldable pub team_of : Graph → ℕ → ℕ
team_of g s = (state g s).team

-- "4 for start"
unfoldable pub start : Graph → ℕ → Bool
unfolding marks_of
start g s = start_mark (marks_of g s)

-- "2 for final (a person has answered)"
unfoldable pub final : Graph → ℕ → Bool
unfolding marks_of
final g s = final_mark (marks_of g s)

-- "1 for counted": which states count, where no class is named (Class.antt has the others)
unfoldable pub counted : Graph → ℕ → Bool
unfolding marks_of
counted g s = counted_mark (marks_of g s)

-- the transition numbered t: "Transitions are numbered from 0 by place in the list"
unfoldable pub transition : Graph → ℕ → Transition
transition g t = get_or g.transitions t (record { from = 0; to = 0; low = 0; high = 0 })

unfoldable pub from : Graph → ℕ → ℕ
unfolding transition
from g t = (transition g t).from

unfoldable pub to : Graph → ℕ → ℕ
unfolding transition
to g t = (transition g t).to

unfoldable pub low : Graph → ℕ → ℕ
unfolding transition
low g t = (transition g t).low

unfoldable pub high : Graph → ℕ → ℕ
unfolding transition
high g t = (transition g t).high

-- t is one of the "transitions of the plan", and it departs from s
pub record Departs (g : Graph) (s t : ℕ) : Type 0 where
  pub listed : t < count g
  pub source : from g t ≡ s

-- a final state
abbrev pub Final : Graph → ℕ → Type 0
Final g s = final g s ≡ true

-- "A state is unfinished when it isn't final."
abbrev pub Unfinished : Graph → ℕ → Type 0
Unfinished g s = final g s ≡ false

-- no transition leaves s
abbrev pub NoneDeparts : Graph → ℕ → Type 0
NoneDeparts g s = (t : ℕ) → Departs g s t → ⊥

-- "A dead end is an unfinished state that no transition leaves."
pub record DeadEnd (g : Graph) (s : ℕ) : Type 0 where
  pub unfinished : Unfinished g s
  pub none-departs : NoneDeparts g s

-- what the theorems ask of a plan, and its limits give: every transition leads to a state of the plan ("a state number
-- not below n" is refused)
abbrev pub Closed : Graph → Type 0
Closed g = (t : ℕ) → t < count g → to g t < states g
