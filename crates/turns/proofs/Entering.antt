-- A state of rank 0 is entered (`entered`): a start, final or not, on the empty stack, or an unfinished state that the top of the stack leads to. Its cursor is its
-- first transition, so it has passed none; the states that others have passed are not it, since their ranks are not 0. Assumes nothing.
use mathlib.Core.List.{List}
use mathlib.Core.Logic.{◌⊎◌, inl, inr, ◌≢◌}
use mathlib.Core.Path.{◌≡◌, sym, ◌∙◌}
use Prim.Native.Nat.{ℕ, suc, ◌+◌, ◌≤◌, ◌<◌}
use native.Mathlib.Omega.{arith}
use lib.ListN.{length-set}
use lib.Seq.{get_or-set_same, get_or-set_other}
use Rattle.search.specs.Arrays.{Arrays, at, StartIn, UnfinishedIn, Leaves}
use Rattle.search.specs.Chain.{none, First}
use Rattle.turns.specs.declared.Table.{Table}
use Rattle.turns.specs.Search.{Sized, Grown, Placed, Origin, Searching, Underway, to_do, work_in}
use Rattle.search.proofs.Places.{at_set, sum-falls}
use Rattle.search.proofs.Chained.{passed_none}
use Rattle.turns.proofs.Stack.{Behind, Next, next_of, Stored, to_do_new, to_do_open, on_stack, stack-below, stack-rank, room, apart}

module _ {A : Arrays} {head link : List ℕ} {a : Table} {d done : ℕ} (w : Underway A head link a d done) where
  -- v was not entered; it goes on the stack at place d, by the transition `by`
  module _ (v by : ℕ) (vb : v < A.n) (new : at a.rank v ≡ 0) where
    abbrev entering : Table
    entering = on_stack a head d v by

    stack-new : (i : ℕ) → i < d → at a.stack i ≡ v → ⊥
    stack-new i h e = let r : at a.rank v ≡ 513 + i = rw e at (stack-rank w i h) in omega arith

    pub enter_depth : d < A.n
    enter_depth = room A.n a.stack d v (omega arith) vb (stack-below w) (apart a.rank a.stack d 513 (stack-rank w)) stack-new

    enter_rank : (x : ℕ) → Stored a.rank v (513 + d) x
    enter_rank x = at_set a.rank v (513 + d) x (omega arith)

    enter_stack : (i : ℕ) → Stored a.stack d v i
    enter_stack i = at_set a.stack d v i (omega (arith, enter_depth))

    -- a state that was entered before keeps its rank and its cursor
    other : (x : ℕ) → 0 < at a.rank x → x ≢ v
    other x h e = let r : at a.rank x ≡ 0 = rw e new in omega arith

    enter_kept : (x : ℕ) → 0 < at a.rank x → at entering.rank x ≡ at a.rank x
    enter_kept x h = get_or-set_other a.rank v x (513 + d) 0 (other x h)

    cursor-kept : (x : ℕ) → 0 < at a.rank x → at entering.cursor x ≡ at a.cursor x
    cursor-kept x h = get_or-set_other a.cursor v x (at head v) 0 (other x h)

    pub enter_grown : Grown a entering
    enter_grown x h = rw (enter_kept x h) h

    -- what was entered is v, or was entered before
    enter_cases : (x : ℕ) → 0 < at entering.rank x → (x ≡ v) ⊎ (0 < at a.rank x)
    enter_cases x h = go (enter_rank x)
      where
        go : Stored a.rank v (513 + d) x → (x ≡ v) ⊎ (0 < at a.rank x)
        go (inl e) = inl e.0
        go (inr e) = inr (rw e.1 at h)

    v_rank : at entering.rank v ≡ 513 + d
    v_rank = get_or-set_same a.rank v (513 + d) 0 (omega arith)

    pub enter_now : 0 < at entering.rank v
    enter_now = omega (arith, v_rank)

    v_cursor : at entering.cursor v ≡ at head v
    v_cursor = get_or-set_same a.cursor v (at head v) 0 (omega arith)

    v_via : at entering.via v ≡ by
    v_via = get_or-set_same a.via v by 0 (omega arith)

    v_first : First A.from A.m 0 v (at head v)
    v_first = w.linked.chains.heads v (omega arith)

    below-kept : (i : ℕ) → i < d → at entering.stack i ≡ at a.stack i
    below-kept i h = get_or-set_other a.stack d i v 0 (λ w. omega arith)

    v_stack : at entering.stack d ≡ v
    v_stack = get_or-set_same a.stack d v 0 (omega (arith, enter_depth))

    enter_placed : (x : ℕ) → x < A.n → Placed entering (d + 1) done x
    enter_placed x h = go (enter_rank x) (w.search.placed x h)
      where
        go : Stored a.rank v (513 + d) x → Placed a d done x → Placed entering (d + 1) done x
        go (inl e) p = inr (inr (d, omega arith, e.1, v_stack ∙ sym e.0))
        go (inr k) (inl p) = inl (k.1 ∙ p)
        go (inr k) (inr (inl p)) = inr (inl (p.0, p.1, k.1 ∙ p.2, p.3))
        go (inr k) (inr (inr p)) = inr (inr (p.0, omega (arith, p.1), k.1 ∙ p.2, below-kept p.0 p.1 ∙ p.3))

    enter_stacked : (i : ℕ) → i < d + 1 → (at entering.stack i < A.n) × (at entering.rank (at entering.stack i) ≡ 513 + i)
    enter_stacked i h = go (enter_stack i)
      where
        go : Stored a.stack d v i → (at entering.stack i < A.n) × (at entering.rank (at entering.stack i) ≡ 513 + i)
        go (inl e) = rw (e.1, e.0) (vb, v_rank)
        go (inr e) =
            let l : i < d = omega (arith, e.0) in
            let r = stack-rank w i l in
            rw e.1 (stack-below w i l, enter_kept (at a.stack i) (omega arith) ∙ r)

    enter_root : (d ≡ 0 → StartIn A.marks v) → StartIn A.marks (at entering.stack 0)
    enter_root f = go (enter_stack 0)
      where
        go : Stored a.stack d v 0 → StartIn A.marks (at entering.stack 0)
        go (inl e) = rw e.1 (f (sym e.0))
        go (inr e) = rw e.1 (w.search.root (omega (arith, e.0)))

    -- the step from the top of the stack to v, which is unfinished
    abbrev StepTo : Type 0
    StepTo = (i : ℕ) → suc i ≡ d → Leaves A (at a.stack i) (at a.cursor (at a.stack i)) × (at A.to (at a.cursor (at a.stack i)) ≡ v)
        × UnfinishedIn A.marks v

    enter_path : StepTo → (i : ℕ) → suc i < d + 1 → Leaves A (at entering.stack i) (at entering.cursor (at entering.stack i))
        × (at A.to (at entering.cursor (at entering.stack i)) ≡ at entering.stack (suc i)) × UnfinishedIn A.marks (at entering.stack (suc i))
    enter_path step i h = rw (below-kept i l, cursor-kept (at a.stack i) (omega (arith, stack-rank w i l))) (go (enter_stack (suc i)))
      where
        l : i < d
        l = omega arith

        go : Stored a.stack d v (suc i) → Leaves A (at a.stack i) (at a.cursor (at a.stack i))
            × (at A.to (at a.cursor (at a.stack i)) ≡ at entering.stack (suc i)) × UnfinishedIn A.marks (at entering.stack (suc i))
        go (inl e) = rw e.1 (step i e.0)
        go (inr e) = rw e.1 (w.search.path i (omega (arith, e.0)))

    enter_behind : (i : ℕ) → i < done → (at a.order i < A.n) × (at entering.rank (at a.order i) ≡ suc i)
    enter_behind i h = let b = w.search.behind i h in (b.0, enter_kept (at a.order i) (omega (arith, b.1)) ∙ b.1)

    enter_next : (x : ℕ) → x < A.n → 0 < at entering.rank x → Next A x (at entering.cursor x)
    enter_next x h r = go (enter_cases x r)
      where
        go : (x ≡ v) ⊎ (0 < at a.rank x) → Next A x (at entering.cursor x)
        go (inl e) = rw (e, v_cursor) (next_of A v_first)
        go (inr e) = rw (cursor-kept x e) (w.search.next x h e)

    enter_passed : (x : ℕ) → x < A.n → 0 < at entering.rank x → (t : ℕ) → Leaves A x t → t < at entering.cursor x
        → Behind A entering.rank x t
    enter_passed x h r t l c = go (enter_cases x r)
      where
        kept : 0 < at a.rank x → Behind A a.rank x t → Behind A entering.rank x t
        kept e (inl f) = inl f
        kept e (inr f) =
            let u = enter_kept (at A.to t) f.0 in
            let w = enter_kept x e in
            inr (omega (arith, f.0), omega (arith, f.1), omega (arith, f.2))

        go : (x ≡ v) ⊎ (0 < at a.rank x) → Behind A entering.rank x t
        go (inl e) = passed_none (λ k. Behind A entering.rank x k) v_first t (rw (e, v_cursor) at c) l.listed (l.source ∙ e)
        go (inr e) = kept e (w.search.passed x h e t l (rw (cursor-kept x e) at c))

    enter_ended : (x : ℕ) → x < A.n → 0 < at entering.rank x → at entering.rank x < 513 → at entering.cursor x ≡ none
    enter_ended x h r l = go (enter_cases x r)
      where
        go : (x ≡ v) ⊎ (0 < at a.rank x) → at entering.cursor x ≡ none
        go (inl e) = let w : at entering.rank x ≡ 513 + d = rw e v_rank in absurd (omega arith)
        go (inr e) = cursor-kept x e ∙ w.search.ended x h e (rw (enter_kept x e) at l)

    -- how v is entered: as a start, or, unfinished, by a transition
    abbrev From : Type 0
    From = ((by ≡ none) × StartIn A.marks v) ⊎ ((by < A.m) × (at A.to by ≡ v) × (0 < at a.rank (at A.from by)) × UnfinishedIn A.marks v)

    enter_origin : From → (x : ℕ) → x < A.n → 0 < at entering.rank x → Origin A entering x
    enter_origin f x h r = go (enter_cases x r)
      where
        this : From → Origin A entering v
        this (inl o) = inl (v_via ∙ o.0, o.1)
        this (inr o) = inr (rw v_via o.0, rw v_via o.1, rw v_via (enter_grown _ o.2), o.3)

        kept : x ≢ v → Origin A a x → Origin A entering x
        kept ne (inl o) = inl (get_or-set_other a.via v x by 0 ne ∙ o.0, o.1)
        kept ne (inr o) = rw (get_or-set_other a.via v x by 0 ne) (inr (o.0, o.1, enter_grown _ o.2, o.3))

        go : (x ≡ v) ⊎ (0 < at a.rank x) → Origin A entering x
        go (inl e) = rw e (this f)
        go (inr e) = kept (other x e) (w.search.origin x h e)

    pub entered : (d ≡ 0 → StartIn A.marks v) → StepTo → From → Searching A entering (d + 1) done
    entered start step f = record {
      depth = omega (arith, enter_depth);
      count = w.search.count;
      placed = enter_placed;
      stacked = enter_stacked;
      root = λ h. enter_root start;
      path = enter_path step;
      behind = enter_behind;
      next = enter_next;
      passed = enter_passed;
      ended = enter_ended;
      origin = enter_origin f;
    }

    pub enter_sized : Sized entering
    enter_sized = record {
      rank = omega (arith, length-set a.rank v (513 + d));
      cursor = omega (arith, length-set a.cursor v (at head v));
      stack = omega (arith, length-set a.stack d v);
      order = w.sized.order;
      via = omega (arith, length-set a.via v by);
    }

    pub enter_work : work_in entering < work_in a
    enter_work = sum-falls 512 (λ x. to_do (at a.rank x) (at a.cursor x)) (λ x. to_do (at entering.rank x) (at entering.cursor x)) v (omega (arith, w.linked.bounded.states)) falls stays
      where
        falls : to_do (at entering.rank v) (at entering.cursor v) < to_do (at a.rank v) (at a.cursor v)
        falls =
            let u = to_do_open (at entering.rank v) (at entering.cursor v) (omega (arith, v_rank)) in
            let w = to_do_new (at a.rank v) (at a.cursor v) new in
            omega arith

        stays : (x : ℕ) → x < 512 → x ≢ v
            → to_do (at entering.rank x) (at entering.cursor x) ≤ to_do (at a.rank x) (at a.cursor x)
        stays x h ne = rw (get_or-set_other a.rank v x (513 + d) 0 ne, get_or-set_other a.cursor v x (at head v) 0 ne) (omega arith)
