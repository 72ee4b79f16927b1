-- The text of a plan: document 02, E1. Assumes nothing.
use Rattle.std.specs.Prelude.{ℕ, zero, suc, List, [], ◌∷◌, ◌++◌, length, get_or}
use Rattle.graph.specs.Graph.{Transition}
use Rattle.text.specs.Text.{octets}
use Rattle.aldebaran.specs.Form.{Piece, word, number, written, Reading, off, on, and_then, read_form}

-- what a text holds, numbers of any size: a transition for each later line, so the transition count is their number
pub record Holding : Type 0 where
  pub initial : ℕ
  pub states : ℕ
  pub transitions : List Transition

-- "The first line is `des (` then the initial state, the transition count and the state count, separated by a comma and a space, and `)`"
unfoldable pub first_form : List Piece
first_form = word (octets "des (") ∷ number ∷ word (octets ", ") ∷ number ∷ word (octets ", ") ∷ number ∷ word (octets ")\n") ∷ []

-- "Each later line is `(from, "label", to)`, ended by a line feed like the first. The label is low, two full stops, high, such as `5..20`"
unfoldable pub line_form : List Piece
line_form =
    word (octets "(") ∷ number ∷ word (octets ", \"") ∷ number ∷ word (octets "..") ∷ number ∷ word (octets "\", ") ∷ number ∷ word (octets ")\n") ∷ []

-- the numbers of a line in their order, and the transition of four numbers
abbrev pub numbers_of : Transition → List ℕ
numbers_of t = t.from ∷ t.low ∷ t.high ∷ t.to ∷ []

abbrev pub transition_of : List ℕ → Transition
transition_of ns = record { from = get_or ns 0 0; low = get_or ns 1 0; high = get_or ns 2 0; to = get_or ns 3 0 }

-- ---- writing

unfoldable pub line_text : Transition → List ℕ
line_text t = written line_form (numbers_of t)

unfoldable pub lines_text : List Transition → List ℕ
lines_text [] = []
lines_text (t ∷ ts) = line_text t ++ lines_text ts

-- the text of what it holds
unfoldable pub text_of : Holding → List ℕ
text_of h = written first_form (h.initial ∷ length h.transitions ∷ h.states ∷ []) ++ lines_text h.transitions

-- ---- reading

-- so many lines
unfoldable pub read_lines : ℕ → List ℕ → Reading (List Transition)
read_lines zero xs = on [] xs
read_lines (suc n) xs = and_then (read_form line_form xs) (λ ns rest. and_then (read_lines n rest) (λ ts rest'. on (transition_of ns ∷ ts) rest'))

-- nothing may follow the last line: "Text off this form, its count of lines included, is 15"
unfoldable pub whole : {A : Type 0} → A → List ℕ → Reading A
whole a [] = on a []
whole a (x ∷ xs) = off

-- what a text holds: the first line, as many lines as it says, and nothing after them
unfoldable pub read_text : List ℕ → Reading Holding
read_text xs =
    and_then (read_form first_form xs)
    (λ ns rest. and_then (read_lines (get_or ns 1 0) rest)
    (λ ts rest'. whole (record { initial = get_or ns 0 0; states = get_or ns 2 0; transitions = ts }) rest'))
