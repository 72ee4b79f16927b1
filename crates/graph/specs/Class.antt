-- Teams by class, and what is quoted. Document 02, E4: "Team 0 is none, 1 to 9 wards, 10 to 19 clinics, 20 to 29 switchboards, 30 and 31 outside lines. The
-- counts may be quoted for any one of these five classes, named by a team number in it, instead of the counted mark." Assumes nothing.
use Rattle.std.specs.Prelude.{ℕ, Bool, true, cond, leb, eqb}
use Rattle.graph.specs.Graph.{Graph, team_of, counted}
use Rattle.graph.specs.declared.Asked.{Asked}
use Rattle.graph.specs.declared.Asked.TheVariants.{One, LeastCountFor, GreatestCountFor}
use Rattle.graph.specs.declared.Class.{Class}
use Rattle.graph.specs.declared.Class.TheVariants.{None, Wards, Clinics, Switchboards, OutsideLines}
use Rattle.graph.specs.declared.Which.{Which}
use Rattle.graph.specs.declared.Which.TheVariants.{LeastCount, GreatestCount}

-- the table: the place of a class in it, and the first and the last team of the class
abbrev pub class_place : Class → ℕ
class_place None = 0
class_place Wards = 1
class_place Clinics = 2
class_place Switchboards = 3
class_place OutsideLines = 4

abbrev pub first_team : Class → ℕ
first_team None = 0
first_team Wards = 1
first_team Clinics = 10
first_team Switchboards = 20
first_team OutsideLines = 30

abbrev pub last_team : Class → ℕ
last_team None = 0
last_team Wards = 9
last_team Clinics = 19
last_team Switchboards = 29
last_team OutsideLines = 31

-- "a team number, 0 to 31"
abbrev pub team_ok : ℕ → Bool
team_ok team = leb team 31

-- the class of a team: the first whose last team is not below it (`class_in` of proofs/Classes.antt: it is the one that the team is in)
abbrev pub class_of : ℕ → Class
class_of team =
    cond (leb team (last_team None)) None
    (cond (leb team (last_team Wards)) Wards (cond (leb team (last_team Clinics)) Clinics (cond (leb team (last_team Switchboards)) Switchboards OutsideLines)))

-- two teams are of one class
abbrev pub same_class : ℕ → ℕ → Bool
same_class team named = eqb (class_place (class_of team)) (class_place (class_of named))

-- a state counts for the class of the team named: its own team is of that class
unfoldable pub in_class_of : Graph → ℕ → ℕ → Bool
unfolding team_of
in_class_of g named s = same_class (team_of g s) named

-- ---- what is quoted

-- which of the four figures it is
abbrev pub figure_of : Asked → Which
figure_of (One which) = which
figure_of (LeastCountFor team) = LeastCount
figure_of (GreatestCountFor team) = GreatestCount

-- which states count: those with the counted mark, or those of the class
abbrev pub counting : Asked → Graph → ℕ → Bool
counting (One which) g = counted g
counting (LeastCountFor team) g = in_class_of g team
counting (GreatestCountFor team) g = in_class_of g team

-- the team that it names, if it names one, is a team
abbrev pub name_ok : Asked → Bool
name_ok (One which) = true
name_ok (LeastCountFor team) = team_ok team
name_ok (GreatestCountFor team) = team_ok team
