-- Runs of a procedure, whatever its variables are.
--
-- What holds before each turn holds before the last one, so what is returned can be read off it (`returns_holds`): that
-- is the report's "loop invariant". If before each turn a number says how many turns may follow at most, and falls with
-- each turn, then there is a run: by recursion on that number (`returns_some`). A test says yes or no and not both, so
-- there is one run, and a procedure returns one value (`returns_once`). Last, what the test of a `while` says that has
-- two parts. Assumes nothing.
use Prim.Native.Nat.{ℕ, zero, suc}
use mathlib.Core.Path.{◌≡◌, refl, sym, ◌∙◌, ap}
use mathlib.Core.Bool.{Bool, true, false, not, ◌&&◌, true≢false, false≢true}
use mathlib.Core.Logic.{◌⊎◌, inl, inr}
use Rattle.report.specs.Procedure.{Loop, ends, turns, Procedure, Returns}

module _ {S A : Type 0} (q : Procedure S A) where
  abbrev From : S → S → Type 0
  From = Loop q.first q.stop q.rest

  module _ (Before : S → Type 0) (After : A → Type 0)
      (keep : (s : S) → Before s → q.stop (q.first s) ≡ false → Before (q.rest (q.first s)))
      (end : (s : S) → Before s → q.stop (q.first s) ≡ true → After (q.answer (q.first s))) where
    holds : {s e : S} → From s e → Before s → After (q.answer e)
    holds (ends {s} h) b = end s b h
    holds (turns {s} h r) b = holds r (keep s b h)

    pub returns_holds : Before q.begin → (a : A) → Returns q a → After a
    returns_holds b a (e, r, h) = rw h at (holds r b)

  module _ (Left : ℕ → S → Type 0)
      (fall : (k : ℕ) (s : S) → Left (suc k) s → q.stop (q.first s) ≡ false → Left k (q.rest (q.first s)))
      (last : (s : S) → Left zero s → q.stop (q.first s) ≡ false → ⊥) where
    turn : (k : ℕ) (s : S) → (q.stop (q.first s) ≡ false → (e : S) × From (q.rest (q.first s)) e)
        → (e : S) × From s e
    turn k s on = go (q.stop (q.first s)) refl
      where
        go : (b : Bool) → q.stop (q.first s) ≡ b → (e : S) × From s e
        go true h = (q.first s, ends h)
        go false h = let (e, r) = on h in (e, turns h r)

    some : (k : ℕ) (s : S) → Left k s → (e : S) × From s e
    some zero s l = turn zero s (λ h. absurd (last s l h))
    some (suc k) s l = turn (suc k) s (λ h. some k (q.rest (q.first s)) (fall k s l h))

    pub returns_some : (k : ℕ) → Left k q.begin → (a : A) × Returns q a
    returns_some k l = let (e, r) = some k q.begin l in (q.answer e, (e, r, refl))

  once : {s e e' : S} → From s e → From s e' → e ≡ e'
  once (ends h) (ends h') = refl
  once (ends h) (turns h' r') = absurd (true≢false (sym h ∙ h'))
  once (turns h r) (ends h') = absurd (true≢false (sym h' ∙ h))
  once (turns h r) (turns h' r') = once r r'

  pub returns_once : {a b : A} → Returns q a → Returns q b → a ≡ b
  returns_once (e, r, h) (e', r', h') = sym h ∙ ap q.answer (once r r') ∙ h'

-- the loop goes on where both parts say yes, and has ended where one says no
pub goes_on : (a b : Bool) → not (a && b) ≡ false → (a ≡ true) × (b ≡ true)
goes_on true true h = (refl, refl)
goes_on true false h = absurd (true≢false h)
goes_on false b h = absurd (true≢false h)

pub ended : (a b : Bool) → not (a && b) ≡ true → (a ≡ false) ⊎ (b ≡ false)
ended true true h = absurd (false≢true h)
ended true false h = inr refl
ended false b h = inl refl
