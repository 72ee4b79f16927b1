-- The classes of teams: every team up to 31 is in its class's range of the table, and in no other's. Facts at the ends of each range come first, so that a wrong
-- table is refused there. Then the counts for a class: each number of it names the same figures, and those of a small plan by computation. Assumes nothing.
use Prim.Native.Nat.{ℕ, ◌≤◌}
use mathlib.Core.Bool.{Bool, true, false}
use mathlib.Core.List.{[], ◌∷◌}
use mathlib.Core.Path.{◌≡◌, refl, ap}
use native.Mathlib.Omega.{arith}
use borrow.Author.Tests.{leb-true, leb-false, le-leb, lt-leb}
use lib.Dec.{leb, eqb}
use Rattle.graph.specs.declared.Class.{Class}
use Rattle.graph.specs.declared.Class.TheVariants.{None, Wards, Clinics, Switchboards, OutsideLines}
use Rattle.graph.specs.Class.{class_place, first_team, last_team, team_ok, class_of, same_class, in_class_of}
use Rattle.graph.specs.Compute.{any, least, greatest}
use Rattle.graph.specs.Figure.{Figure, number}
use Rattle.graph.specs.Graph.{Graph, state_with, marks_of, team_of, start, final, transition, from, to}
use Rattle.graph.specs.Known.{join}
use Rattle.graph.specs.Route.{counts}

-- "Team 0 is none, 1 to 9 wards, 10 to 19 clinics, 20 to 29 switchboards, 30 and 31 outside lines."
pub class_ends : (class_of 0 ≡ None) × (class_of 1 ≡ Wards) × (class_of 9 ≡ Wards) × (class_of 10 ≡ Clinics) × (class_of 19 ≡ Clinics) × (class_of 20 ≡ Switchboards)
    × (class_of 29 ≡ Switchboards) × (class_of 30 ≡ OutsideLines) × (class_of 31 ≡ OutsideLines)
class_ends = (refl, refl, refl, refl, refl, refl, refl, refl, refl)

pub team-ends : (team_ok 31 ≡ true) × (team_ok 32 ≡ false) × (team_ok 259 ≡ false)
team-ends = (refl, refl, refl)

pub class_apart : (same_class 9 10 ≡ false) × (same_class 1 9 ≡ true) × (same_class 0 1 ≡ false) × (same_class 30 31 ≡ true) × (same_class 29 30 ≡ false)
class_apart = (refl, refl, refl, refl, refl)

-- past the other ranges there are outside lines
pub outside : (team : ℕ) → first_team OutsideLines ≤ team → class_of team ≡ OutsideLines
outside team a = rw (lt-leb team 0 (omega arith), lt-leb team 9 (omega arith), lt-leb team 19 (omega arith), lt-leb team 29 (omega arith)) refl

-- a team of the table's range is of that class
pub of_class : (c : Class) (team : ℕ) → first_team c ≤ team → team ≤ last_team c → class_of team ≡ c
of_class None team a b = rw (le-leb team 0 b) refl
of_class Wards team a b = rw (lt-leb team 0 (omega arith), le-leb team 9 b) refl
of_class Clinics team a b = rw (lt-leb team 0 (omega arith), lt-leb team 9 (omega arith), le-leb team 19 b) refl
of_class Switchboards team a b = rw (lt-leb team 0 (omega arith), lt-leb team 9 (omega arith), lt-leb team 19 (omega arith), le-leb team 29 b) refl
of_class OutsideLines team a b = outside team a

-- and every team is in its class's range
pub class_in : (team : ℕ) → team_ok team ≡ true → (first_team (class_of team) ≤ team) × (team ≤ last_team (class_of team))
class_in team h = go (leb team 0) refl (leb team 9) refl (leb team 19) refl (leb team 29) refl
  where
    go : (a : Bool) → leb team 0 ≡ a → (b : Bool) → leb team 9 ≡ b → (c : Bool) → leb team 19 ≡ c → (d : Bool) → leb team 29 ≡ d
        → (first_team (class_of team) ≤ team) × (team ≤ last_team (class_of team))
    go true ea b eb c ec d ed = rw ea (omega arith, leb-true team 0 ea)
    go false ea true eb c ec d ed = rw (ea, eb) (leb-false team 0 ea, leb-true team 9 eb)
    go false ea false eb true ec d ed = rw (ea, eb, ec) (leb-false team 9 eb, leb-true team 19 ec)
    go false ea false eb false ec true ed = rw (ea, eb, ec, ed) (leb-false team 19 ec, leb-true team 29 ed)
    go false ea false eb false ec false ed = rw (ea, eb, ec, ed) (leb-false team 29 ed, leb-true team 31 h)

-- ---- counts for a class

-- each number of a class names the same states, and so the same figures
pub one_class : (g : Graph) (a b : ℕ) → class_of a ≡ class_of b → in_class_of g a ≡ in_class_of g b
unfolding in_class_of
one_class g a b e = λ i s. eqb (class_place (class_of (team_of g s))) (class_place (e i))

pub one-figure : (g : Graph) (a b : ℕ) → class_of a ≡ class_of b
    → (least g (counts g (in_class_of g a)) ≡ least g (counts g (in_class_of g b))) × (greatest g (counts g (in_class_of g a)) ≡ greatest g (counts g (in_class_of g b)))
one-figure g a b e =
    let same = one_class g a b e in
    (ap (λ (p : ℕ → Bool). least g (counts g p)) same, ap (λ (p : ℕ → Bool). greatest g (counts g p)) same)

-- a start of team 9 and an answer of team 3, straight or by a state of team 10: two wards by either way, a clinic by one, and no state without a team
abbrev handed : Graph
handed = record {
  state_list = state_with 4 9 ∷ state_with 1 10 ∷ state_with 2 3 ∷ [];
  transitions = join 0 1 1 1 ∷ join 1 2 1 1 ∷ join 0 2 5 5 ∷ [];
}

abbrev least_for : ℕ → Figure
least_for named = least handed (counts handed (in_class_of handed named))

abbrev greatest_for : ℕ → Figure
greatest_for named = greatest handed (counts handed (in_class_of handed named))

pub class_counts : (least_for 5 ≡ number 2) × (greatest_for 5 ≡ number 2) × (least_for 19 ≡ number 0) × (greatest_for 19 ≡ number 1) × (greatest_for 0 ≡ number 0)
unfolding least greatest any in_class_of team_of marks_of start final transition from to
class_counts = (refl, refl, refl, refl, refl)
