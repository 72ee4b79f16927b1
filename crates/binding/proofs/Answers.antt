-- No exported call answers 13 (document 02, E8), from the promises alone. Where slices are too short for a plan the answer is 255, where they are no list of calls 254; an accepted call answers
-- 256, or 256 and a length, and a refused one its number in the table, where no row is numbered 13. Assumes nothing.
use mathlib.Core.Bool.{Bool, true, false}
use mathlib.Core.List.{List, [], ◌∷◌, map}
use mathlib.Core.Path.{◌≡◌, refl, sym, ◌∙◌}
use Prim.Native.Nat.{ℕ, zero, suc}
use native.Mathlib.Omega.{arith}
use lib.ListN.{get_or}
use Rattle.graph.specs.declared.Asked.{Asked}
use Rattle.graph.specs.Graph.{Graph}
use Rattle.rules.specs.Quotations.{lent_quote_rule, lent_held_rule}
use Rattle.rules.specs.Refusal.{Result, accepted, refused, code}
use Rattle.rules.proofs.Basic.{numbered, not_13}
use Rattle.arrays.specs.declared.Plan.{Plan}
use Rattle.plan.specs.View.{view}
use Rattle.slices.specs.Lent.{Slices, has_room, plan_in}
use Rattle.edits.specs.Lent.{LentEdit}
use Rattle.lent.specs.Quoted.{LentQuote, LentQuotes}
use Rattle.lent.specs.Written.{LentWrite, length_code}
use Rattle.calls.specs.Slices.{are_calls}
use Rattle.replay.specs.Replayed.{Places, LentReplay, replaying}

-- a test, with another number where it says no
by_test : (test : Bool) (r other : ℕ) → (other ≡ 13 → ⊥) → (test ≡ false → r ≡ other) → (test ≡ true → r ≡ 13 → ⊥) → r ≡ 13 → ⊥
by_test false r other apart short answer e = apart (sym (short refl) ∙ e)
by_test true r other apart short answer e = answer refl e

not_255 : ◌≡◌ {A = ℕ} 255 13 → ⊥
not_255 e = omega arith

not_254 : ◌≡◌ {A = ℕ} 254 13 → ⊥
not_254 e = omega arith

length_not_13 : (o : Result ℕ) → length_code o ≡ 13 → ⊥
length_not_13 (accepted n) e = omega arith
length_not_13 (refused k) e = (numbered k).1 e

-- a call that makes a plan from nothing, and an edit
pub edit_not_13 : {p : Plan} {s t : Slices} {o : Result Graph} {r : ℕ} → LentEdit p s t o r → r ≡ 13 → ⊥
edit_not_13 {p} {s} {t} {o} {r} x = by_test (has_room s) r 255 not_255 (λ h. (x.short h).0) (λ h e. not_13 o (sym (x.answer h) ∙ e))

-- write, export and record
pub fill_not_13 : {s : Slices} {octets : List ℕ} {o : Result ℕ} {before after : List ℕ} {r : ℕ} → LentWrite s octets o before after r → r ≡ 13 → ⊥
fill_not_13 {s} {octets} {o} {before} {after} {r} x = by_test (has_room s) r 255 not_255 (λ h. (x.short h).0) (λ h e. length_not_13 o (sym (x.answer h) ∙ e))

-- a quotation of a plan, and of an image
pub quote_not_13 : {asked : Asked} {s : Slices} {walk walk' out out' : List ℕ} {r : ℕ} → LentQuote asked s walk walk' out out' r → r ≡ 13 → ⊥
quote_not_13 {asked} {s} {walk} {walk'} {out} {out'} {r} x =
    by_test (has_room s) r 255 not_255 (λ h. (x.short h).0) (λ h e. not_13 (lent_quote_rule asked (view (plan_in s)) walk out) (sym (x.answer h) ∙ e))

pub quotes_not_13 : {image walks walks' out out' : List ℕ} {r : ℕ} → LentQuotes image walks walks' out out' r → r ≡ 13 → ⊥
quotes_not_13 {image} {walks} {walks'} {out} x e = not_13 (lent_held_rule image walks out) (sym x.answer ∙ e)

-- the numbers that a list of calls leaves, one for each call
pub listed_not_13 : (answers : List (Result (Unit {0}))) (i : ℕ) → get_or (map code answers) i 256 ≡ 13 → ⊥
listed_not_13 [] i e = omega arith
listed_not_13 (a ∷ answers) zero e = not_13 a e
listed_not_13 (a ∷ answers) (suc i) e = listed_not_13 answers i e

-- and its own answer
pub replay_not_13 : {n : ℕ} {kinds arguments octets : List ℕ} {before after : Places} {r : ℕ} → LentReplay n kinds arguments octets before after r → r ≡ 13 → ⊥
replay_not_13 {n} {kinds} {arguments} {octets} {before} {after} {r} x =
    by_test (has_room before.plan) r 255 not_255 (λ h. (x.short h).0)
    (λ h. by_test (are_calls kinds arguments octets) r 254 not_254 (λ k. (x.no-calls h k).0) (λ k e. not_13 (replaying n kinds before) (sym (x.answer h k) ∙ e)))
