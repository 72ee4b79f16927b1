-- Refusals: the number of each row of document 01's table of refused calls, and what a call comes to, accepted or refused by a row.
-- Assumes nothing.
use Rattle.std.specs.Prelude.{ℕ, Result as Returned}
use Rattle.rules.specs.Answer.{Answer, Written}
use Rattle.std.specs.Prelude.{Ok, Err}
use Rattle.rules.specs.declared.Refusal.{Refusal}
use Rattle.rules.specs.declared.Refusal.TheVariants.{PlanLimits, ImageShort, ImageLong, Version, StateCount, TransitionCount}
use Rattle.rules.specs.declared.Refusal.TheVariants.{SpareBits, StateNumber, Duration, ListFull, TransitionNumber, BufferLength}
use Rattle.rules.specs.declared.Refusal.TheVariants.{MarksValue, StartCount, TextForm, FromState, ToState, TeamNumber}

-- the column "returned" of the table; 14 and 15 by document 02, E1, 16 and 17 by E3, 18 by E4. "Thirteen can go .. take it out of the table." (E8): it stays
-- unused
abbrev pub number : Refusal → ℕ
number PlanLimits = 0
number ImageShort = 1
number ImageLong = 2
number Version = 3
number StateCount = 4
number TransitionCount = 5
number SpareBits = 6
number StateNumber = 7
number Duration = 8
number ListFull = 9
number TransitionNumber = 10
number BufferLength = 11
number MarksValue = 12
number StartCount = 14
number TextForm = 15
number FromState = 16
number ToState = 17
number TeamNumber = 18

-- "whether it is refused, and by which number": accepted with a result, or refused by a row of the table and "no other result"
pub data Result (A : Type 0) : Type 0 where
  accepted : A → Result A
  refused : Refusal → Result A

-- the answer of a call: "that number", or "that it was accepted"
abbrev pub answer_of : {A : Type 0} → Result A → Result (Unit {0})
answer_of (accepted a) = accepted tt
answer_of (refused r) = refused r

-- what an answer of the code says
abbrev pub said : Answer → Result (Unit {0})
said (Ok _) = accepted tt
said (Err r) = refused r

-- and of what the call made, told by what it returns
abbrev pub made : {A B : Type 0} → Returned A Refusal → (A → B) → Result B
made (Ok a) f = accepted (f a)
made (Err r) f = refused r

-- the same, of an answer with a number of octets
abbrev pub wrote : Written → Result ℕ
wrote (Ok n) = accepted n
wrote (Err r) = refused r

-- an answer as one number: 256 for accepted, and otherwise the refusal's
abbrev pub code : {A : Type 0} → Result A → ℕ
code (accepted a) = 256
code (refused r) = number r
