-- Teams in the state record, document 02, E4: what the calls make of teams. The request's words stand above the field that carries them. "Bands are to be sold by team."
-- says why, and "Show their extremes and walks once, over any yes-or-no on states." how it is proved (`says_over`, rules/specs/Quotations.antt). Assumes nothing.
use Rattle.std.specs.Prelude.{Bool, true, false, ◌&&◌, List, ◌≢◌, ◌≡◌, ℕ, ◌≤◌, ◌<◌, leb, length, take}
use Rattle.field.specs.Field.{Octets}
use Rattle.graph.specs.declared.Asked.{Asked}
use Rattle.graph.specs.declared.Asked.TheVariants.{LeastCountFor, GreatestCountFor}
use Rattle.graph.specs.declared.Class.{Class}
use Rattle.graph.specs.Class.{first_team, last_team, name_ok}
use Rattle.graph.specs.Figure.{number}
use Rattle.graph.specs.Graph.{Graph, states, marks_of, team_of}
use Rattle.graph.specs.Route.{Route, number-on}
use Rattle.rules.specs.Answer.{Accepted, Quotation, Written}
use Rattle.std.specs.Prelude.{Ok, Err}
use Rattle.rules.specs.declared.Quote.{Quote}
use Rattle.rules.specs.declared.Refusal.TheVariants.{Version, StateNumber, TeamNumber}
use Rattle.rules.specs.Calls.{mark, team, read, import}
use Rattle.rules.specs.Image.{header_rows, transition_rows, state_item, fourth_of, state_place, version_of, state_count_of, transition_count_of, transition_at, transition_place}
use Rattle.rules.specs.Limits.{within}
use Rattle.rules.specs.Quotations.{meant, says_asked, Stated}
use Rattle.rules.specs.Rules.{with_team}
use Rattle.rules.specs.Table.{NoneHolds}
use Rattle.plan.specs.declared.Edited.{Edited}
use Rattle.arrays.specs.declared.Plan.{Plan}
use Rattle.plan.specs.View.{view}
use Rattle.demands.specs.Calculator.{Calculator}

-- a team number is one of the class, by the first and the last team of it
abbrev pub Named : Class → ℕ → Type 0
Named class named = (first_team class ≤ named) × (named ≤ last_team class)

-- a state whose team is one of the class
abbrev pub has_team_of : Class → Graph → ℕ → Bool
has_team_of class g s = leb (first_team class) (team_of g s) && leb (team_of g s) (last_team class)

-- a route of g, as shown, with x states of the class on it
abbrev pub ShownFor : Class → Graph → ℕ → List ℕ → Type 0
ShownFor class g x ts = (s : ℕ) × Route g s ts × (number-on g (has_team_of class g) s ts ≡ x)

pub record Teams (c : Calculator) : Type 0 where
  -- "The five spare bits become a team number, 0 to 31,": what is written of a state ends with them
  pub five-bits : {p : Plan} {before after : List ℕ} (n s : ℕ) → c.writes p before after (Ok n) → s < states (view p)
      → (fourth_of state_item (take n after) (state_place s) ≡ team_of (view p) s) × (team_of (view p) s ≤ 31)
  -- "set by its own call"
  pub set_by_its_call : {p : Plan} {e : Edited} (s k : ℕ) → within (view p) ≡ true → s < states (view p) → k ≤ 31 → c.edits p (team s k) e
      → (e.answer ≡ Accepted) × (view e.plan ≡ with_team (view p) s k)
  -- which sets it, and leaves the marks and the other teams
  pub sets_it : {p : Plan} {e : Edited} (s k : ℕ) → c.edits p (team s k) e → e.answer ≡ Accepted → team_of (view e.plan) s ≡ k
  pub leaves_the_rest : {p : Plan} {e : Edited} (s k x : ℕ) → c.edits p (team s k) e
      → (marks_of (view e.plan) x ≡ marks_of (view p) x) × (x ≢ s → team_of (view e.plan) x ≡ team_of (view p) x)
  -- "and zero after fresh;"
  pub fresh-zero : {n : ℕ} {e : Edited} → c.freshes n e → e.answer ≡ Accepted → (s : ℕ) → team_of (view e.plan) s ≡ 0
  -- "mark leaves it."
  pub mark-leaves : {p : Plan} {e : Edited} (s value x : ℕ) → c.edits p (mark s value) e → team_of (view e.plan) x ≡ team_of (view p) x
  -- "The image version becomes 2." "Write always produces version 2,"
  pub version_2 : {p : Plan} {before after : List ℕ} (n : ℕ) → c.writes p before after (Ok n) → version_of (take n after) ≡ 2
  -- "Version 1
  pub version_1_read : {p : Plan} {octets : List ℕ} {e : Edited} → c.edits p (read octets) e → e.answer ≡ Accepted → version_of octets ≡ 1
      → (s : ℕ) → s < states (view e.plan) → team_of (view e.plan) s ≡ 0
  -- and Aldebaran text read with all teams zero,
  pub text-read : {p : Plan} {text : List ℕ} {e : Edited} → c.edits p (import text) e → e.answer ≡ Accepted → (s : ℕ) → team_of (view e.plan) s ≡ 0
  -- so exported text comes back without its teams too;
  pub text-back : {p old : Plan} {before after : List ℕ} {e : Edited} (n : ℕ) → within (view old) ≡ true → c.exports p before after (Ok n)
      → c.edits old (import (take n after)) e → (e.answer ≡ Accepted) × ((s : ℕ) → team_of (view e.plan) s ≡ 0)
  -- other versions return 3.", of 4 octets or more: with fewer there is no version
  pub other_versions : {p : Plan} {octets : List ℕ} {e : Edited} → within (view p) ≡ true → 4 ≤ length octets → version_of octets ≢ 1 → version_of octets ≢ 2
      → c.edits p (read octets) e → e.answer ≡ Err Version
  -- "so only version 2 images come back octet for octet.": those that do are of version 2, and all of these do
  pub only_2_back : {old : Plan} {octets before after : List ℕ} {e : Edited} {w : Written} → Octets octets → c.edits old (read octets) e → e.answer ≡ Accepted
      → length octets ≤ length before → c.writes e.plan before after w → take (length octets) after ≡ octets → version_of octets ≡ 2
  pub every_2_back : {old : Plan} {octets before after : List ℕ} {e : Edited} {w : Written} → Octets octets → c.edits old (read octets) e → e.answer ≡ Accepted
      → length octets ≤ length before → c.writes e.plan before after w → version_of octets ≡ 2 → take (length octets) after ≡ octets
  -- "Team 0 is none, 1 to 9 wards, 10 to 19 clinics, 20 to 29 switchboards, 30 and 31 outside lines. The counts may be quoted for any one of these five classes, named by a
  -- team number in it,
  pub least-quoted : {p : Plan} {before after : List ℕ} {r : Quotation} (class : Class) (named : ℕ) → Named class named → within (view p) ≡ true
      → states (view p) ≤ length before → c.quotes (LeastCountFor named) p before after r → (q : Quote) × (r ≡ Ok q)
  pub greatest-quoted : {p : Plan} {before after : List ℕ} {r : Quotation} (class : Class) (named : ℕ) → Named class named → within (view p) ≡ true
      → states (view p) ≤ length before → c.quotes (GreatestCountFor named) p before after r → (q : Quote) × (r ≡ Ok q)
  -- instead of the counted mark.": the states of that class are counted, on the route shown and on every other
  pub least_for_lem : {p : Plan} {before after : List ℕ} (class : Class) (named : ℕ) (q : Quote) (x : ℕ) → Named class named
      → c.quotes (LeastCountFor named) p before after (Ok q) → meant q.figure ≡ number x
      → ShownFor class (view p) x (take q.k after) × ((s : ℕ) (ts : List ℕ) → Route (view p) s ts → x ≤ number-on (view p) (has_team_of class (view p)) s ts)
  pub greatest_for_lem : {p : Plan} {before after : List ℕ} (class : Class) (named : ℕ) (q : Quote) (x : ℕ) → Named class named
      → c.quotes (GreatestCountFor named) p before after (Ok q) → meant q.figure ≡ number x
      → ShownFor class (view p) x (take q.k after) × ((s : ℕ) (ts : List ℕ) → Route (view p) s ts → number-on (view p) (has_team_of class (view p)) s ts ≤ x)
  -- "The list of edits behind a quotation may include the new call.": what is quoted behind it is the plan with that team
  pub behind_it : {p : Plan} {asked : Asked} {before after : List ℕ} {e : Edited} (s k : ℕ) (q : Quote) → c.edits p (team s k) e → e.answer ≡ Accepted
      → c.quotes asked e.plan before after (Ok q) → Stated (says_asked asked (with_team (view p) s k)) q before after
  -- "A team above 31 returns 18, after 7
  pub set_7 : {p : Plan} {e : Edited} (s k : ℕ) → within (view p) ≡ true → states (view p) ≤ s → c.edits p (team s k) e → e.answer ≡ Err StateNumber
  pub set_18 : {p : Plan} {e : Edited} (s k : ℕ) → within (view p) ≡ true → s < states (view p) → 31 < k → c.edits p (team s k) e → e.answer ≡ Err TeamNumber
  -- and before 11, so that a count asked for it has no figure under demand 3;": whatever places it is lent
  pub count_18 : {asked : Asked} {p : Plan} {before after : List ℕ} {r : Quotation} → within (view p) ≡ true → name_ok asked ≡ false → c.quotes asked p before after r
      → r ≡ Err TeamNumber
  -- "in version 2 the spare-bit ground of 6 lapses.": an image of version 2 whose header and transitions are right is accepted, whatever its states hold
  pub six_lapses : {p : Plan} {octets : List ℕ} {e : Edited} → within (view p) ≡ true → version_of octets ≡ 2 → NoneHolds (header_rows octets)
      → ((i : ℕ) → i < transition_count_of octets → NoneHolds (transition_rows (state_count_of octets) (transition_at octets (transition_place (state_count_of octets) i))))
      → c.edits p (read octets) e → e.answer ≡ Accepted
