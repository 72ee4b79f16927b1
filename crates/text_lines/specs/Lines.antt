-- What reading lines promises. Document 02, E1: the grounds "line by line", which E3 numbers 16, 17, 8. Assumes nothing.
use Rattle.std.specs.Prelude.{ℕ, ◌≤◌, List, ◌≡◌, length, drop, set}
use Rattle.graph.specs.Graph.{Transition}
use Rattle.aldebaran.specs.Form.{Reading, on}
use Rattle.rules.specs.Answer.{Accepted, Answer}
use Rattle.rules.specs.Image.{transition_rows}
use Rattle.rules.specs.Refusal.{Result, accepted, refused, said}
use Rattle.rules.specs.Table.{Row, first, each}
use Rattle.arrays.specs.Tables.{transition, transitions_of, Fields, fields}
use Rattle.text_reading.specs.declared.Line.{Line}
use Rattle.text_lines.specs.declared.Listed.{Listed}

-- the transition of a line, its numbers cut off
abbrev pub meant : Line → Transition
meant l = transition l.from l.to l.low l.high

-- four arrays with the places of a plan
abbrev pub Room : Fields → Type 0
Room f = (2048 ≤ length f.from) × (2048 ≤ length f.to) × (2048 ≤ length f.low) × (2048 ≤ length f.high)

-- a transition stored at place i of them
abbrev pub stored : ℕ → Transition → Fields → Fields
stored i t f = fields (set f.from i t.from) (set f.to i t.to) (set f.low i t.low) (set f.high i t.high)

-- rows after others that are answered so
abbrev pub onward : Result (Unit {0}) → List Row → Result (Unit {0})
onward (accepted u) rows = first rows
onward (refused r) rows = refused r

-- one line more, after those that are answered so
pub record Added (n i : ℕ) (t : Transition) (answer : Answer) (before after : Fields) (r : Answer) : Type 0 where
  pub rows : said r ≡ onward (said answer) (transition_rows n t)
  pub put : r ≡ Accepted → after ≡ stored i t before
  pub room : Room after

-- lines that were read, after a first line that is answered so: the place after them, which lies in the text, the answer of all, and the transitions where none was refused
pub record Lists (text : List ℕ) (read : Reading (List Transition)) (n m : ℕ) (answer : Answer) (f : Fields) (r : Listed) : Type 0 where
  pub inside : r.next ≤ length text
  pub transitions : List Transition
  pub all : read ≡ on transitions (drop r.next text)
  pub answered : said r.answer ≡ onward (said answer) (each (transition_rows n) transitions)
  pub held : r.answer ≡ Accepted → transitions_of m f.from f.to f.low f.high ≡ transitions
