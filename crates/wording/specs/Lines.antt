-- The lines that `quote` prints: document 01, "Plans with known figures". Assumes nothing.
use Rattle.std.specs.Prelude.{ℕ, List, [], ◌++◌, take}
use Rattle.graph.specs.declared.Which.{Which}
use Rattle.graph.specs.declared.Which.TheVariants.{LeastDelay, GreatestDelay, LeastCount, GreatestCount}
use Rattle.graph.specs.Figure.{Figure, number, NONE, STRANDED, ENDLESS}
use Rattle.graph.specs.Which.{in_turn}
use Rattle.rules.specs.declared.FourQuotes.{FourQuotes}
use Rattle.rules.specs.declared.Quote.{Quote}
use Rattle.rules.specs.Quotations.{meant, quote_of, part}
use Rattle.text.specs.Text.{octets, digits, listed}

-- "the figure's name"
unfoldable pub name_text : Which → List ℕ
name_text LeastDelay = octets "least delay"
name_text GreatestDelay = octets "greatest delay"
name_text LeastCount = octets "least count"
name_text GreatestCount = octets "greatest count"

-- "its number or kind"
unfoldable pub figure_text : Figure → List ℕ
figure_text (number k) = digits k
figure_text NONE = octets "NONE"
figure_text STRANDED = octets "STRANDED"
figure_text ENDLESS = octets "ENDLESS"

-- "ENDLESS adds ` @` and j."
unfoldable pub added_text : Figure → ℕ → List ℕ
added_text (number k) j = []
added_text NONE j = []
added_text STRANDED j = []
added_text ENDLESS j = octets " @" ++ digits j

-- "Each line: the figure's name, its number or kind, a colon,"
unfoldable pub heading : Which → Figure → List ℕ
heading which f = name_text which ++ octets " " ++ figure_text f ++ octets ":"

-- "the transitions each after a space."
unfoldable pub line : Which → Figure → List ℕ → ℕ → List ℕ
line which f walk j = heading which f ++ listed walk ++ added_text f j ++ octets "\n"

-- the line of a quote, with its walk at the front of the places
abbrev pub line_of : Which → Quote → List ℕ → List ℕ
line_of which q places = line which (meant q.figure) (take q.k places) q.j

-- the four lines, "figures in record order", with their walks in the parts of the places
unfoldable pub lines_of : FourQuotes → List ℕ → List ℕ
lines_of q places = in_turn (λ which. line_of which (quote_of q which) (part which places))

-- "A refusal prints only `refused`, a space and the number."
unfoldable pub refused_line : ℕ → List ℕ
refused_line n = octets "refused " ++ digits n ++ octets "\n"
