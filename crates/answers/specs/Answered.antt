-- The numbers of a figure in the places of an answer. Document 01, "The quotation record", for the kind and the figure. Assumes nothing.
use Rattle.std.specs.Prelude.{List, [], ◌∷◌, ◌≡◌, ℕ, ◌≤◌, length}
use Rattle.graph.specs.declared.Which.{Which}
use Rattle.graph.specs.Figure.{Figure, kind, value}
use Rattle.graph.specs.Which.{in_turn}
use Rattle.rules.specs.declared.Quote.{Quote}
use Rattle.rules.specs.declared.FourQuotes.{FourQuotes}
use Rattle.rules.specs.Answer.{Quotation, Quotations}
use Rattle.std.specs.Prelude.{Ok, Err}
use Rattle.rules.specs.Quotations.{SmallQuote, quote_of, meant}
use Rattle.rules.specs.Refusal.{Result, accepted, refused, number}
use Rattle.arrays.specs.Tables.{over}

-- a figure's answer as four numbers: "a kind .. (0 number, 1 NONE, 2 STRANDED, 3 ENDLESS) and a figure .., zero unless the kind is 0", k and j
abbrev pub numbers : Figure → ℕ → ℕ → List ℕ
numbers f k j = kind f ∷ value f ∷ k ∷ j ∷ []

-- the same, of what the code quotes
abbrev pub numbers_of : Quote → List ℕ
numbers_of q = numbers (meant q.figure) q.k q.j

-- the numbers of four quotes, "least delay, greatest delay, least count, greatest count in turn"
abbrev pub four_numbers : FourQuotes → List ℕ
four_numbers q = in_turn (λ which. numbers_of (quote_of q which))

-- ---- what an answer asks for

-- k and j of a quotation that is not refused are small enough for the places of an answer, and there are places for its numbers
abbrev pub Small : Quotation → Type 0
Small r = (q : Quote) → r ≡ Ok q → SmallQuote q

abbrev pub Fits : Quotation → List ℕ → Type 0
Fits r out = (q : Quote) → r ≡ Ok q → 4 ≤ length out

-- the same of four
abbrev pub FourSmall : FourQuotes → Type 0
FourSmall q = (which : Which) → SmallQuote (quote_of q which)

abbrev pub AllSmall : Quotations → Type 0
AllSmall r = (q : FourQuotes) → r ≡ Ok q → FourSmall q

abbrev pub AllFit : Quotations → List ℕ → Type 0
AllFit r out = (q : FourQuotes) → r ≡ Ok q → 16 ≤ length out

-- ---- what it leaves

-- the numbers of a quotation, or of four, that is not refused
abbrev pub numbers_in : Quotation → Result (List ℕ)
numbers_in (Ok q) = accepted (numbers_of q)
numbers_in (Err k) = refused k

abbrev pub all_numbers_in : Quotations → Result (List ℕ)
all_numbers_in (Ok q) = accepted (four_numbers q)
all_numbers_in (Err k) = refused k

-- the numbers at the front of the places, or after a refusal every place as it was
abbrev pub Answered : Result (List ℕ) → List ℕ → List ℕ → ℕ → Type 0
Answered (accepted xs) before after r = (r ≡ 256) × (after ≡ over xs before)
Answered (refused k) before after r = (r ≡ number k) × (after ≡ before)
