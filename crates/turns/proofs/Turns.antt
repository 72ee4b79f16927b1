-- The turns of the search: the top of the stack is left, passes a transition, or goes on to the state that it leads to (`turn-leave`, `turn-pass`, `turn_enter`); and a
-- start, final or not, is entered on the empty stack (`enter_start`). Each turn has less to do: the work at one state falls, and is as it was at every other. Assumes nothing.
use mathlib.Core.List.{List}
use mathlib.Core.Logic.{inl, inr, ◌≢◌}
use mathlib.Core.Path.{◌≡◌, refl}
use Prim.Native.Nat.{ℕ, suc, ◌+◌, ◌<◌}
use native.Mathlib.Omega.{arith}
use Rattle.search.specs.Arrays.{Arrays, at, StartIn, UnfinishedIn, Leaves}
use Rattle.search.specs.Chain.{none}
use Rattle.turns.specs.declared.Course.TheVariants.{On}
use Rattle.turns.specs.declared.Table.{Table}
use Rattle.turns.specs.Search.{Searching, Underway, Turned}
use Rattle.turns.proofs.Stack.{Passable, on_stack, off_stack, cursor_at, AtTop, AtStep}
use Rattle.turns.proofs.Entering.{enter_depth, enter_grown, entered, enter_sized, enter_work}
use Rattle.turns.proofs.Leaving.{top_below, top-rank, leave, leave_sized, leave_grown, leave_work}
use Rattle.turns.proofs.Passing.{top-leaves, pass, pass_sized, pass_work}

module _ {A : Arrays} {head link : List ℕ} {a : Table} {d done high s : ℕ} (o : AtTop A head link a d done high s) where
  pub turn-leave : at a.cursor s ≡ none → Turned A a d (On high (done + 1)) (off_stack a done s)
  turn-leave over = (leave o over, leave_sized o, leave_grown o, leave_work o over)

  pub at-step : {t : ℕ} → at a.cursor s ≡ t → t ≢ none → AtStep A head link a d done high s t
  at-step {t} c ne =
      let r = top-rank o in
      let x = o.under.search.next s (top_below o) (omega arith) in
      record { on = o; cursor = c; more = omega (arith, x.0, ne) }

module _ {A : Arrays} {head link : List ℕ} {a : Table} {d done high s t : ℕ} (g : AtStep A head link a d done high s t) where
  pub turn-pass : Passable A a.rank t → Turned A a d (On d done) (cursor_at a s (at link t))
  turn-pass may = (pass g may, pass_sized g, λ x h. h, pass_work g)

  pub step-below : at A.to t < A.n
  step-below = g.on.under.linked.bounded.arrives t (top-leaves g).listed

  pub turn-depth : at a.rank (at A.to t) ≡ 0 → d < A.n
  turn-depth new = enter_depth g.on.under (at A.to t) t step-below new

  pub turn_enter : at a.rank (at A.to t) ≡ 0 → UnfinishedIn A.marks (at A.to t)
      → Turned A a d (On (d + 1) done) (on_stack a head d (at A.to t) t)
  turn_enter new u = (
    entered w v t b new (λ e. absurd (omega arith)) step (inr (l.listed, refl, from_top, u)),
    enter_sized w v t b new,
    enter_grown w v t b new,
    enter_work w v t b new,
  )
    where
      w : Underway A head link a d done
      w = g.on.under

      v : ℕ
      v = at A.to t

      b : v < A.n
      b = step-below

      l : Leaves A s t
      l = top-leaves g

      step : (i : ℕ) → suc i ≡ d → Leaves A (at a.stack i) (at a.cursor (at a.stack i)) × (at A.to (at a.cursor (at a.stack i)) ≡ v)
          × UnfinishedIn A.marks v
      step i h = let e : i ≡ high = omega arith in rw (e, g.on.top, g.cursor) (l, refl, u)

      from_top : 0 < at a.rank (at A.from t)
      from_top = rw l.source (omega (arith, top-rank g.on))

-- the search from a start, on an empty stack
pub enter_start : {A : Arrays} {head link : List ℕ} {a : Table} {done : ℕ} → Underway A head link a 0 done
    → (s : ℕ) → s < A.n → at a.rank s ≡ 0 → StartIn A.marks s → Searching A (on_stack a head 0 s none) 1 done
enter_start w s b new start = entered w s none b new (λ e. start) (λ i h. absurd (omega arith)) (inl (refl, start))
