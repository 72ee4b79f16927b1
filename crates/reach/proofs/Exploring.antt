-- The search from the starts, one after another. When the stack is empty, all that was entered was left, and has passed all its transitions (`ranked`). So it is
-- after the search from each start in turn (`exploring_more`), and at the end of all (`explored_ends`), unless a loop ended it before (`explored_early`).
-- Assumes nothing.
use mathlib.Core.Bool.{Bool, true, false, true≢false, false≢true}
use mathlib.Core.Logic.{◌⊎◌, inl, inr, ◌≢◌}
use mathlib.Core.Path.{◌≡◌, refl, sym, ◌∙◌}
use Prim.Native.Nat.{ℕ, suc, ◌+◌, ◌≤◌, ◌<◌}
use native.Mathlib.Omega.{arith}
use Rattle.search.specs.Arrays.{Arrays, at, StartIn, FinalIn, Leaves, Bounded}
use Rattle.search.specs.Chain.{none}
use Rattle.reach.specs.declared.Reach.{Reach}
use Rattle.reach.specs.declared.Reach.TheVariants.{NoStart, Looped, DeadEnd, Ends}
use Rattle.turns.specs.declared.Table.{Table}
use Rattle.turns.specs.Search.{Sized, Grown, Placed, Searching}
use Rattle.reach.specs.Explored.{Ranked, Explored, Descended}
use Rattle.arrays.proofs.Lists.{same_or_not}
use Rattle.turns.proofs.Stack.{Behind}

module _ (A : Arrays) where
  pub searching_none : (a : Table) → ((s : ℕ) → at a.rank s ≡ 0) → Searching A a 0 0
  searching_none a f = record {
    depth = omega arith;
    count = omega arith;
    placed = λ s h. inl (f s);
    stacked = λ i h. absurd (omega arith);
    root = λ h. absurd (omega arith);
    path = λ i h. absurd (omega arith);
    behind = λ i h. absurd (omega arith);
    next = λ s h r. absurd (omega (arith, f s));
    passed = λ s h r. absurd (omega (arith, f s));
    ended = λ s h r. absurd (omega (arith, f s));
    origin = λ s h r. absurd (omega (arith, f s));
  }

  module _ (bounded : Bounded A) (a : Table) (done : ℕ) (q : Searching A a 0 done) where
    ranked_placed : (s : ℕ) → s < A.n → 0 < at a.rank s → (i : ℕ) × (i < done) × (at a.rank s ≡ suc i) × (at a.order i ≡ s)
    ranked_placed s h r = go (q.placed s h)
      where
        go : Placed a 0 done s → (i : ℕ) × (i < done) × (at a.rank s ≡ suc i) × (at a.order i ≡ s)
        go (inl e) = absurd (omega arith)
        go (inr (inl e)) = e
        go (inr (inr e)) = absurd (omega (arith, e.1))

    ranked_onward : (s : ℕ) → s < A.n → 0 < at a.rank s → (t : ℕ) → Leaves A s t
        → FinalIn A.marks (at A.to t) ⊎ ((0 < at a.rank (at A.to t)) × (at a.rank (at A.to t) < at a.rank s))
    ranked_onward s h r t l = go (q.passed s h r t l (omega (arith, over, l.listed, bounded.count)))
      where
        place : (i : ℕ) × (i < done) × (at a.rank s ≡ suc i) × (at a.order i ≡ s)
        place = ranked_placed s h r

        over : at a.cursor s ≡ none
        over = q.ended s h r (omega (arith, place.1, place.2))

        go : Behind A a.rank s t → FinalIn A.marks (at A.to t) ⊎ ((0 < at a.rank (at A.to t)) × (at a.rank (at A.to t) < at a.rank s))
        go (inl f) = inl f
        go (inr f) = inr (f.0, f.2)

    pub ranked : ((s : ℕ) → s < A.n → StartIn A.marks s → 0 < at a.rank s) → Ranked A a done
    ranked starts = record {
      count = q.count;
      starts = starts;
      onward = ranked_onward;
      listed = q.behind;
      placed = ranked_placed;
      origin = q.origin;
    }

-- the search from the starts below i; `any` says whether there was one
pub record Exploring (A : Arrays) (a : Table) (any : Bool) (left i : ℕ) : Type 0 where
  pub sized : Sized a
  pub search : Searching A a 0 left
  pub below : i ≤ A.n
  pub starts : (s : ℕ) → s < i → StartIn A.marks s → 0 < at a.rank s
  pub some : any ≡ true → (s : ℕ) × (s < A.n) × StartIn A.marks s
  pub no_start : any ≡ false → (s : ℕ) → s < i → StartIn A.marks s → ⊥

module _ {A : Arrays} where
  pub exploring_none : (a : Table) → Sized a → ((s : ℕ) → at a.rank s ≡ 0) → Exploring A a false 0 0
  exploring_none a z f = record {
    sized = z;
    search = searching_none A a f;
    below = omega arith;
    starts = λ s h. absurd (omega arith);
    some = λ h. absurd (false≢true h);
    no_start = λ h s l. absurd (omega arith);
  }

  -- one state more: a start that is there from now on, or no start
  pub exploring_more : {a a' : Table} {any any' : Bool} {left left' i : ℕ} → Exploring A a any left i → i < A.n
      → Searching A a' 0 left' → Sized a' → Grown a a'
      → (StartIn A.marks i → 0 < at a'.rank i)
      → ((any' ≡ true) × StartIn A.marks i) ⊎ ((any' ≡ any) × (StartIn A.marks i → ⊥))
      → Exploring A a' any' left' (i + 1)
  exploring_more {a} {a'} {any} {any'} {left} {left'} {i} x l q z g new which = record {
    sized = z;
    search = q;
    below = omega arith;
    starts = λ s h. starts s h (same_or_not s i);
    some = some which;
    no_start = λ e s h. no_start which e s h (same_or_not s i);
  }
    where
      starts : (s : ℕ) → s < i + 1 → (s ≡ i) ⊎ (s ≢ i) → StartIn A.marks s → 0 < at a'.rank s
      starts s h (inl e) b = rw e (new (rw e at b))
      starts s h (inr e) b = g s (x.starts s (omega (arith, e)) b)

      some : ((any' ≡ true) × StartIn A.marks i) ⊎ ((any' ≡ any) × (StartIn A.marks i → ⊥)) → any' ≡ true → (s : ℕ) × (s < A.n) × StartIn A.marks s
      some (inl w) e = (i, l, w.1)
      some (inr w) e = x.some (sym w.0 ∙ e)

      no_start : ((any' ≡ true) × StartIn A.marks i) ⊎ ((any' ≡ any) × (StartIn A.marks i → ⊥)) → any' ≡ false → (s : ℕ) → s < i + 1 → (s ≡ i) ⊎ (s ≢ i)
          → StartIn A.marks s → ⊥
      no_start (inl w) e s h k b = true≢false (sym w.0 ∙ e)
      no_start (inr w) e s h (inl k) b = w.1 (rw k at b)
      no_start (inr w) e s h (inr k) b = x.no_start (sym w.0 ∙ e) s (omega (arith, k)) b

  pub explored_ends : {a : Table} {any : Bool} {left i : ℕ} → Bounded A → Exploring A a any left i → A.n ≤ i → any ≡ true
      → Explored A a (Ends left)
  explored_ends {a} {any} {left} {i} bounded x l h = (ranked A bounded a left x.search (λ s k. x.starts s (omega arith)), x.some h)

-- a search that did not leave all that it entered has found a loop
pub explored_early : (A : Arrays) (a a' : Table) (s : ℕ) (r : Reach) → ((k : ℕ) → r ≡ Ends k → ⊥)
    → Descended A a s r a' → Explored A a' r
explored_early A a a' s NoStart h q = absurd q
explored_early A a a' s (Looped d j) h q = q
explored_early A a a' s (DeadEnd x) h q = absurd q
explored_early A a a' s (Ends k) h q = absurd (h k refl)
