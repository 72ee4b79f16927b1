-- What the calls of the code return: what an accepted call has, or the row by which it is refused. Assumes nothing.
use Rattle.std.specs.Prelude.{ℕ, Result, Ok}
use Rattle.rules.specs.declared.FourQuotes.{FourQuotes}
use Rattle.rules.specs.declared.Quote.{Quote}
use Rattle.rules.specs.declared.Refusal.{Refusal}

-- the answer of a call that makes or changes a plan
abbrev pub Answer : Type 0
Answer = Result (Unit {0}) Refusal

abbrev pub Accepted : Answer
Accepted = Ok tt

-- of a call that fills the front of a lent buffer: how many octets it put there
abbrev pub Written : Type 0
Written = Result ℕ Refusal

-- of a quotation of one figure
abbrev pub Quotation : Type 0
Quotation = Result Quote Refusal

-- of a quotation of all four figures
abbrev pub Quotations : Type 0
Quotations = Result FourQuotes Refusal
