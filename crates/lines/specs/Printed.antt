-- What is printed for an image. Document 01, "Plans with known figures": "`quote` reads an image on standard input .. it prints exactly" the four lines;
-- "A refusal prints only `refused`, a space and the number." Assumes nothing.
use Rattle.std.specs.Prelude.{List, [], ◌∷◌, ◌≡◌, ℕ}
use Rattle.graph.specs.Graph.{Graph}
use Rattle.rules.specs.declared.FourQuotes.{FourQuotes}
use Rattle.rules.specs.declared.Refusal.{Refusal}
use Rattle.rules.specs.Answer.{Written}
use Rattle.std.specs.Prelude.{Ok}
use Rattle.rules.specs.Image.{read_image}
use Rattle.rules.specs.Quotations.{AllStated}
use Rattle.rules.specs.Refusal.{Result, accepted, refused, number, answer_of, wrote}
use Rattle.rules.specs.Rules.{buffer_row}
use Rattle.rules.specs.Table.{Row, first}
use Rattle.wording.specs.Lines.{lines_of, refused_line}
use Rattle.text.specs.Put.{Put}
use Rattle.four_lines.specs.Room.{room}

-- the octets are the four lines of quotes of the figures of the plan g, lent some places for their walks: "Which of several such walks is shown is left
-- free."
pub record FourLines (g : Graph) (octets : List ℕ) : Type 0 where
  pub quotes : FourQuotes
  pub lent : List ℕ
  pub places : List ℕ
  pub stated : AllStated g quotes lent places
  pub lines : octets ≡ lines_of quotes places

-- the octets are what is printed for an image that holds a plan, or is refused
abbrev pub Lines : Result Graph → List ℕ → Type 0
Lines (accepted g) octets = FourLines g octets
Lines (refused k) octets = octets ≡ refused_line (number k)

-- the rows of the call, one of ours that 01 does not name: 11 alone, for a buffer that four lines could be too long for. A refused image is printed
abbrev pub answer_rows : List ℕ → List Row
answer_rows buffer = buffer_row buffer room ∷ []

-- what is printed for an image stands at the front of a lent buffer, n octets; later octets stay
pub record Prints (image before after : List ℕ) (n : ℕ) : Type 0 where
  pub octets : List ℕ
  pub lines : Lines (read_image image) octets
  pub put : Put before 0 octets after n

-- the call: its answer is its row's, a refusal leaves every octet, and an accepted one puts what is printed
pub record Printed (image before after : List ℕ) (r : Written) : Type 0 where
  pub answer : answer_of (wrote r) ≡ first (answer_rows before)
  pub kept : (k : Refusal) → first (answer_rows before) ≡ refused k → after ≡ before
  pub printed : (n : ℕ) → r ≡ Ok n → Prints image before after n
