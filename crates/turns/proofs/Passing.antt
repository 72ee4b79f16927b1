-- A transition of the top is passed when it leads to a final state or to one that was left (`pass`): whatever leaves the state below the next cursor was below
-- the old one, or is this transition. One that leads to an unfinished state on the stack closes a loop (`loop`): that state's rank is 513 and its place. Assumes nothing.
use mathlib.Core.List.{List}
use mathlib.Core.Logic.{◌⊎◌, inl, inr, ◌≢◌}
use mathlib.Core.Path.{◌≡◌, sym, ◌∙◌}
use Prim.Native.Nat.{ℕ, suc, ◌+◌, ◌≤◌, ◌<◌}
use native.Mathlib.Omega.{arith}
use lib.ListN.{length-set}
use lib.Seq.{get_or-set_same, get_or-set_other}
use Rattle.search.specs.Arrays.{Arrays, at, UnfinishedIn, Leaves}
use Rattle.search.specs.Chain.{First}
use Rattle.turns.specs.declared.Table.{Table}
use Rattle.turns.specs.Search.{Sized, Placed, Searching, Loop, to_do, work_in}
use Rattle.search.proofs.Places.{at_set, sum-falls}
use Rattle.arrays.proofs.Lists.{same_or_not}
use Rattle.search.proofs.Chained.{first_passed, chain-rises}
use Rattle.turns.proofs.Stack.{Passable, Behind, Next, next_of, Stored, to_do_open, cursor_at, AtStep, stack-rank}
use Rattle.turns.proofs.Leaving.{top_below, top-rank}

module _ {A : Arrays} {head link : List ℕ} {a : Table} {d done high s t : ℕ} (g : AtStep A head link a d done high s t) where
  pub top-leaves : Leaves A s t
  top-leaves =
      let l = g.on.under.search.next s (top_below g.on) (omega (arith, top-rank g.on)) in
      rw g.cursor at (l.1 (omega arith))

  top-next : First A.from A.m (suc t) s (at link t)
  top-next = rw top-leaves.source at (g.on.under.linked.chains.links t top-leaves.listed)

  abbrev passing : Table
  passing = cursor_at a s (at link t)

  pass-cursor : (x : ℕ) → Stored a.cursor s (at link t) x
  pass-cursor x = at_set a.cursor s (at link t) x (omega (arith, top_below g.on))

  -- a state of another rank keeps its cursor
  pass_kept : (x : ℕ) → (at a.rank x ≡ 513 + high → ⊥) → at passing.cursor x ≡ at a.cursor x
  pass_kept x ne = get_or-set_other a.cursor s x (at link t) 0 (λ p. ne (rw p (top-rank g.on)))

  pass-path : (i : ℕ) → suc i < d → Leaves A (at a.stack i) (at passing.cursor (at a.stack i))
      × (at A.to (at passing.cursor (at a.stack i)) ≡ at a.stack (suc i)) × UnfinishedIn A.marks (at a.stack (suc i))
  pass-path i h = let r = stack-rank g.on.under i (omega arith) in rw (pass_kept (at a.stack i) (λ w. omega arith)) (g.on.under.search.path i h)

  pass-next : (x : ℕ) → x < A.n → 0 < at a.rank x → Next A x (at passing.cursor x)
  pass-next x h r = go (pass-cursor x)
    where
      go : Stored a.cursor s (at link t) x → Next A x (at passing.cursor x)
      go (inl e) = rw (e.1, e.0) (next_of A top-next)
      go (inr e) = rw e.1 (g.on.under.search.next x h r)

  pass_passed : Passable A a.rank t → (x : ℕ) → x < A.n → 0 < at a.rank x → (k : ℕ) → Leaves A x k → k < at passing.cursor x
      → Behind A a.rank x k
  pass_passed may x h r k l c = go (pass-cursor x)
    where
      this : Passable A a.rank t → Behind A a.rank s t
      this (inl f) = inl f
      this (inr f) = inr (f.0, f.1, omega (arith, top-rank g.on, f.1))

      before : (j : ℕ) → j < t → j < A.m → at A.from j ≡ s → Behind A a.rank s j
      before j u b e = g.on.under.search.passed s (top_below g.on) (omega (arith, top-rank g.on)) j (record { listed = b; source = e }) (rw g.cursor u)

      go : Stored a.cursor s (at link t) x → Behind A a.rank x k
      go (inl e) =
          let f = first_passed (Behind A a.rank s) top-next before (this may) k (rw e.1 at c) l.listed (l.source ∙ e.0) in
          rw e.0 f
      go (inr e) = g.on.under.search.passed x h r k l (rw e.1 at c)

  pub pass : Passable A a.rank t → Searching A passing d done
  pass may = record {
    depth = g.on.under.search.depth;
    count = g.on.under.search.count;
    placed = g.on.under.search.placed;
    stacked = g.on.under.search.stacked;
    root = g.on.under.search.root;
    path = pass-path;
    behind = g.on.under.search.behind;
    next = pass-next;
    passed = pass_passed may;
    ended = λ x h r l. pass_kept x (λ w. omega arith) ∙ g.on.under.search.ended x h r l;
    origin = g.on.under.search.origin;
  }

  pub pass_sized : Sized passing
  pass_sized = record {
    rank = g.on.under.sized.rank;
    cursor = omega (arith, length-set a.cursor s (at link t));
    stack = g.on.under.sized.stack;
    order = g.on.under.sized.order;
    via = g.on.under.sized.via;
  }

  pub pass_work : work_in passing < work_in a
  pass_work = sum-falls 512 (λ x. to_do (at a.rank x) (at a.cursor x)) (λ x. to_do (at a.rank x) (at passing.cursor x)) s (omega (arith, top_below g.on, g.on.under.linked.bounded.states)) falls stays
    where
      falls : to_do (at a.rank s) (at passing.cursor s) < to_do (at a.rank s) (at a.cursor s)
      falls =
          let r = get_or-set_same a.cursor s (at link t) 0 (omega (arith, top_below g.on)) in
          let u = to_do_open (at a.rank s) (at passing.cursor s) (omega (arith, top-rank g.on)) in
          let v = to_do_open (at a.rank s) (at a.cursor s) (omega (arith, top-rank g.on)) in
          let w = chain-rises top-next g.more in
          omega (arith, top-next.most)

      stays : (x : ℕ) → x < 512 → x ≢ s → to_do (at a.rank x) (at passing.cursor x) ≤ to_do (at a.rank x) (at a.cursor x)
      stays x h ne = rw (get_or-set_other a.cursor s x (at link t) 0 ne) (omega arith)

  pub loop : (j : ℕ) → at a.rank (at A.to t) ≡ 513 + j → UnfinishedIn A.marks (at A.to t) → Loop A a d j
  loop j r u = go (g.on.under.search.placed (at A.to t) (g.on.under.linked.bounded.arrives t top-leaves.listed))
    where
      make : j < d → at a.stack j ≡ at A.to t → Loop A a d j
      make l v = record {
        below = l;
        depth = g.on.under.search.depth;
        root = g.on.under.search.root (omega arith);
        stacked = g.on.under.search.stacked;
        unfinished = λ i h. (g.on.under.search.path i h).2;
        leaves = λ i h. leaves i h (same_or_not i high);
        path = λ i h. (g.on.under.search.path i h).1;
        back = λ i h. back i h;
        back-unfinished = rw v u;
      }
        where
          leaves : (i : ℕ) → i < d → (i ≡ high) ⊎ (i ≢ high) → Leaves A (at a.stack i) (at a.cursor (at a.stack i))
          leaves i h (inl e) = rw (e, g.on.top, g.cursor) top-leaves
          leaves i h (inr e) = (g.on.under.search.path i (omega (arith, e))).0

          back : (i : ℕ) → suc i ≡ d → at A.to (at a.cursor (at a.stack i)) ≡ at a.stack j
          back i h = let e : i ≡ high = omega arith in rw (e, g.on.top, g.cursor) (sym v)

      go : Placed a d done (at A.to t) → Loop A a d j
      go (inl e) = absurd (omega arith)
      go (inr (inl e)) = absurd (omega (arith, e.1, e.2))
      go (inr (inr e)) = let k : e.0 ≡ j = omega (arith, e.2) in make (omega (arith, e.1)) (rw k at e.3)
