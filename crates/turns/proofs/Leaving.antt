-- The top of the stack is left when its cursor is at the end (`leave`). All its transitions are passed, so they lead to final states and to states left
-- before it, whose ranks are lower than the one that it gets. Assumes nothing.
use mathlib.Core.List.{List}
use mathlib.Core.Logic.{◌⊎◌, inl, inr, ◌≢◌}
use mathlib.Core.Path.{◌≡◌, sym, ◌∙◌}
use Prim.Native.Nat.{ℕ, suc, ◌+◌, ◌≤◌, ◌<◌}
use native.Mathlib.Numerals.{add-one}
use native.Mathlib.Omega.{arith}
use lib.ListN.{set, length-set}
use lib.Seq.{get_or-set_same, get_or-set_other}
use Rattle.graph.proofs.Repeat.{Apart}
use Rattle.search.specs.Arrays.{Arrays, at, Leaves}
use Rattle.search.specs.Chain.{none}
use Rattle.turns.specs.declared.Table.{Table}
use Rattle.turns.specs.Search.{Sized, Grown, Placed, Origin, Searching, to_do, work_in}
use Rattle.search.proofs.Places.{at_set, sum-falls}
use Rattle.arrays.proofs.Lists.{same_or_not}
use Rattle.turns.proofs.Stack.{Behind, Stored, to_do_left, to_do_open, off_stack, AtTop, left-rank, stack-below, stack-rank, room, apart}

module _ {A : Arrays} {head link : List ℕ} {a : Table} {d done high s : ℕ} (o : AtTop A head link a d done high s) where
  pub top_below : s < A.n
  top_below = rw o.top at (stack-below o.under high (omega arith))

  pub top-rank : at a.rank s ≡ 513 + high
  top-rank = rw o.top at (stack-rank o.under high (omega arith))

  abbrev left : Table
  left = off_stack a done s

  leave-rank : (x : ℕ) → Stored a.rank s (done + 1) x
  leave-rank x = at_set a.rank s (done + 1) x (omega (arith, top_below))

  -- a state of another rank keeps it
  leave-kept : (x : ℕ) → (at a.rank x ≡ 513 + high → ⊥) → at left.rank x ≡ at a.rank x
  leave-kept x ne = get_or-set_other a.rank s x (done + 1) 0 (λ p. ne (rw p top-rank))

  pub leave_grown : Grown a left
  leave_grown x h = go (leave-rank x)
    where
      go : Stored a.rank s (done + 1) x → 0 < at left.rank x
      go (inl e) = omega (arith, e.1)
      go (inr e) = omega (arith, e.1)

  leave_entered : (x : ℕ) → 0 < at left.rank x → 0 < at a.rank x
  leave_entered x h = go (leave-rank x)
    where
      go : Stored a.rank s (done + 1) x → 0 < at a.rank x
      go (inl e) = rw e.0 (omega (arith, top-rank))
      go (inr e) = omega (arith, e.1)

  behind_apart : Apart (at a.order) done
  behind_apart = apart a.rank a.order done 1 (λ i h. (o.under.search.behind i h).1 ∙ omega arith)

  pub leave-count : done < A.n
  leave-count = room A.n a.order done s (omega arith) top_below (λ i h. (o.under.search.behind i h).0) behind_apart new
    where
      new : (i : ℕ) → i < done → at a.order i ≡ s → ⊥
      new i h e = let r : at a.rank s ≡ suc i = rw e at (o.under.search.behind i h).1 in omega (arith, top-rank)

  leave-placed : (x : ℕ) → x < A.n → Placed left high (done + 1) x
  leave-placed x h = go (leave-rank x) (o.under.search.placed x h)
    where
      at-end : x ≡ s → at (set a.order done s) done ≡ x
      at-end e = get_or-set_same a.order done s 0 (omega (arith, leave-count)) ∙ sym e

      go : Stored a.rank s (done + 1) x → Placed a d done x → Placed left high (done + 1) x
      go (inl e) p = inr (inl (done, omega arith, e.1 ∙ add-one done, at-end e.0))
      go (inr k) (inl p) = inl (k.1 ∙ p)
      go (inr k) (inr (inl p)) =
          inr (inl (p.0, omega (arith, p.1), k.1 ∙ p.2, get_or-set_other a.order done p.0 s 0 (λ w. omega (arith, p.1)) ∙ p.3))
      go (inr k) (inr (inr p)) = inr (inr (p.0, lower (same_or_not p.0 high), k.1 ∙ p.2, p.3))
        where
          lower : (p.0 ≡ high) ⊎ (p.0 ≢ high) → p.0 < high
          lower (inl w) = absurd (k.0 (sym p.3 ∙ (rw w o.top)))
          lower (inr w) = omega (arith, p.1, w)

  leave-stacked : (i : ℕ) → i < high → (at a.stack i < A.n) × (at left.rank (at a.stack i) ≡ 513 + i)
  leave-stacked i h =
      let r = stack-rank o.under i (omega arith) in
      (stack-below o.under i (omega arith), leave-kept (at a.stack i) (λ w. omega arith) ∙ r)

  leave_behind : (i : ℕ) → i < done + 1 → (at left.order i < A.n) × (at left.rank (at left.order i) ≡ suc i)
  leave_behind i h = go (at_set a.order done s i (omega (arith, leave-count)))
    where
      go : Stored a.order done s i → (at left.order i < A.n) × (at left.rank (at left.order i) ≡ suc i)
      go (inl e) = rw e.1 (top_below, get_or-set_same a.rank s (done + 1) 0 (omega (arith, top_below)) ∙ omega (arith, e.0))
      go (inr e) =
          let b = o.under.search.behind i (omega (arith, e.0)) in
          rw e.1 (b.0, leave-kept (at a.order i) (λ w. omega (arith, b.1, e.0)) ∙ b.1)

  leave_passed : at a.cursor s ≡ none → (x : ℕ) → x < A.n → 0 < at left.rank x → (t : ℕ) → Leaves A x t → t < at a.cursor x
      → Behind A left.rank x t
  leave_passed over x h r t l c = go (leave-rank x) (o.under.search.passed x h (leave_entered x r) t l c)
    where
      go : Stored a.rank s (done + 1) x → Behind A a.rank x t → Behind A left.rank x t
      go k (inl f) = inl f
      go (inl k) (inr f) =
          let w = leave-kept (at A.to t) (λ w. omega (arith, f.1)) in
          let b = left-rank o.under (at A.to t) (o.under.linked.bounded.arrives t l.listed) f.1 in
          inr (omega (arith, f.0), omega (arith, f.1), omega (arith, k.1))
      go (inr k) (inr f) =
          let w = leave-kept (at A.to t) (λ w. omega (arith, f.1)) in
          inr (omega (arith, f.0), omega (arith, f.1), omega (arith, k.1, f.2))

  leave-ended : at a.cursor s ≡ none → (x : ℕ) → x < A.n → 0 < at left.rank x → at left.rank x < 513 → at a.cursor x ≡ none
  leave-ended over x h r l = go (leave-rank x)
    where
      go : Stored a.rank s (done + 1) x → at a.cursor x ≡ none
      go (inl e) = rw e.0 over
      go (inr e) = o.under.search.ended x h (leave_entered x r) (omega (arith, e.1))

  leave-origin : (x : ℕ) → x < A.n → 0 < at left.rank x → Origin A left x
  leave-origin x h r = go (o.under.search.origin x h (leave_entered x r))
    where
      go : Origin A a x → Origin A left x
      go (inl o) = inl o
      go (inr o) = inr (o.0, o.1, leave_grown _ o.2, o.3)

  pub leave : at a.cursor s ≡ none → Searching A left high (done + 1)
  leave over = record {
    depth = omega arith;
    count = omega (arith, leave-count);
    placed = leave-placed;
    stacked = leave-stacked;
    root = λ h. o.under.search.root (omega arith);
    path = λ i h. o.under.search.path i (omega arith);
    behind = leave_behind;
    next = λ x h r. o.under.search.next x h (leave_entered x r);
    passed = leave_passed over;
    ended = leave-ended over;
    origin = leave-origin;
  }

  pub leave_sized : Sized left
  leave_sized = record {
    rank = omega (arith, length-set a.rank s (done + 1));
    cursor = o.under.sized.cursor;
    stack = o.under.sized.stack;
    order = omega (arith, length-set a.order done s);
    via = o.under.sized.via;
  }

  pub leave_work : at a.cursor s ≡ none → work_in left < work_in a
  leave_work over = sum-falls 512 (λ x. to_do (at a.rank x) (at a.cursor x)) (λ x. to_do (at left.rank x) (at a.cursor x)) s (omega (arith, top_below, o.under.linked.bounded.states)) falls stays
    where
      falls : to_do (at left.rank s) (at a.cursor s) < to_do (at a.rank s) (at a.cursor s)
      falls =
          let r = get_or-set_same a.rank s (done + 1) 0 (omega (arith, top_below)) in
          let u = to_do_left (at left.rank s) (at a.cursor s) (omega arith) (omega (arith, leave-count)) in
          let v = to_do_open (at a.rank s) (at a.cursor s) (omega (arith, top-rank)) in
          omega arith

      stays : (x : ℕ) → x < 512 → x ≢ s → to_do (at left.rank x) (at a.cursor x) ≤ to_do (at a.rank x) (at a.cursor x)
      stays x h ne = rw (get_or-set_other a.rank s x (done + 1) 0 ne) (omega arith)
