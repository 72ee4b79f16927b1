-- What it is for a procedure of the report to run and to return.
--
-- Each of figures 3 to 6 sets its variables, goes through one loop, and returns a value. A run is a finite derivation:
-- the loop's own test ends it, and nothing else does. So a procedure that would go round for ever has no run, and no
-- bound on turns cuts one short. Assumes nothing.
use Rattle.std.specs.Prelude.{◌≡◌, Bool, true, false, not}

-- A loop over variables of type S: a turn does `first`, then the loop ends if `stop` says yes, and otherwise the turn
-- does `rest`. `Loop .. s e`: begun with the variables s, the loop ends, and e are the variables then.
pub data Loop {S : Type 0} (first : S → S) (stop : S → Bool) (rest : S → S) : S → S → Type 0 where
  ends : {s : S} → stop (first s) ≡ true → Loop first stop rest s (first s)
  turns : {s e : S} → stop (first s) ≡ false → Loop first stop rest (rest (first s)) e → Loop first stop rest s e

-- a procedure: the variables before its loop, the parts of a turn, and what is returned after the loop
pub record Procedure (S A : Type 0) : Type 0 where
  pub begin : S
  pub first : S → S
  pub stop : S → Bool
  pub rest : S → S
  pub answer : S → A

-- run, the procedure returns a
abbrev pub Returns : {S A : Type 0} → Procedure S A → A → Type 0
Returns {S} q a = (e : S) × Loop q.first q.stop q.rest q.begin e × (q.answer e ≡ a)

-- "while (test) do body": a turn does nothing before the test, and the loop ends where the test says no
abbrev pub while : {S A : Type 0} → S → (S → Bool) → (S → S) → (S → A) → Procedure S A
while begin test body answer = record { begin = begin; first = λ s. s; stop = λ s. not (test s); rest = body; answer = answer }
