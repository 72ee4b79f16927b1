-- `reach::explore::descend` meets its contract. The loop's invariant: in whatever graph the search was underway before the loop it still is, and what was entered
-- before the loop stays so. The measure is the work that is left. Assumes nothing.
use Prim.Native.Nat.{ℕ, ◌<◌}
use mathlib.Core.List.{List}
use mathlib.Core.Path.{◌≡◌}
use native.Mathlib.Omega.{arith}
use Rattle.search.specs.Arrays.{arrays}
use Rattle.search.specs.Chain.{none}
use Rattle.turns.specs.declared.Table.{Table}
use Rattle.turns.specs.Search.{Underway}
use Rattle.turns.proofs.Stack.{on_stack, same_table}
use Rattle.turns.proofs.Entering.{enter_sized, enter_grown, enter_now}
use Rattle.turns.proofs.Turns.{enter_start}
use Rattle.reach.proofs.explore.descend.Goals as goal

pub turn-requires : goal.turn-requires
turn-requires c =
    let Going : ℕ → ℕ → List ℕ → Table → ℕ → Type 0 =
    λ n m from a d. Underway (arrays n m c.args.marks.now from c.args.to.now) c.args.out.now.head c.args.out.now.link a d c.args.done in
    let after : Table =
    on_stack c.args.table.now c.args.out.now.head 0 c.args.s none in
    let begun : (n m : ℕ) (from : List ℕ) → c.args.s < n → Going n m from c.args.table.now 0 → Going n m from after 1 =
    λ n m from l u. let p = c.requires.start_in in
    record { linked = u.linked; sized = enter_sized u _ none l p.1; search = enter_start u _ l p.1 p.0 } in
    let entered : (n m : ℕ) (from : List ℕ) → c.args.s < n → Going n m from c.args.table.now 0 → Going n m from c.enter.new.self 1 =
    λ n m from l u. let e = c.enter.ensures in
    rw (same_table _ _ e.0 e.1 e.2 e.4 e.3) (begun n m from l u) in
    let p = c.requires.by_index in
    (p.0, p.1, p.2, c.loop-d-test.true, (c.loop-d.invariant p.0 p.1 p.2 (entered p.0 p.1 p.2 p.3 p.4)).0)

pub loop-d-smaller : goal.loop-d-smaller
loop-d-smaller c =
    let Going : ℕ → ℕ → List ℕ → Table → ℕ → Type 0 =
    λ n m from a d. Underway (arrays n m c.args.marks.now from c.args.to.now) c.args.out.now.head c.args.out.now.link a d c.args.done in
    let after : Table =
    on_stack c.args.table.now c.args.out.now.head 0 c.args.s none in
    let begun : (n m : ℕ) (from : List ℕ) → c.args.s < n → Going n m from c.args.table.now 0 → Going n m from after 1 =
    λ n m from l u. let p = c.requires.start_in in
    record { linked = u.linked; sized = enter_sized u _ none l p.1; search = enter_start u _ l p.1 p.0 } in
    let entered : (n m : ℕ) (from : List ℕ) → c.args.s < n → Going n m from c.args.table.now 0 → Going n m from c.enter.new.self 1 =
    λ n m from l u. let e = c.enter.ensures in
    rw (same_table _ _ e.0 e.1 e.2 e.4 e.3) (begun n m from l u) in
    let p = c.requires.by_index in
    let i = c.loop-d.invariant p.0 p.1 p.2 (entered p.0 p.1 p.2 p.3 p.4) in
    let q = rw c.in-On.is at (c.turn.ensures p.0 p.1 p.2 i.0) in
    q.3

pub loop-d-preserved : goal.loop-d-preserved
loop-d-preserved c = λ n m from u.
    let i = c.loop-d.invariant n m from u in
    let q = rw c.in-On.is at (c.turn.ensures n m from i.0) in
    (record { linked = u.linked; sized = q.1; search = q.0 }, λ x h. q.2 x (i.1 x h))

pub returns-in-Back : goal.returns-in-Back
returns-in-Back c =
    let Going : ℕ → ℕ → List ℕ → Table → ℕ → Type 0 =
    λ n m from a d. Underway (arrays n m c.args.marks.now from c.args.to.now) c.args.out.now.head c.args.out.now.link a d c.args.done in
    let after : Table =
    on_stack c.args.table.now c.args.out.now.head 0 c.args.s none in
    let begun : (n m : ℕ) (from : List ℕ) → c.args.s < n → Going n m from c.args.table.now 0 → Going n m from after 1 =
    λ n m from l u. let p = c.requires.start_in in
    record { linked = u.linked; sized = enter_sized u _ none l p.1; search = enter_start u _ l p.1 p.0 } in
    let entered : (n m : ℕ) (from : List ℕ) → c.args.s < n → Going n m from c.args.table.now 0 → Going n m from c.enter.new.self 1 =
    λ n m from l u. let e = c.enter.ensures in
    rw (same_table _ _ e.0 e.1 e.2 e.4 e.3) (begun n m from l u) in
    λ n m from b u.
    let i = c.loop-d.invariant n m from (entered n m from b u) in
    rw c.in-Back.is at (c.turn.ensures n m from i.0)

pub returns : goal.returns
returns c =
    let Going : ℕ → ℕ → List ℕ → Table → ℕ → Type 0 =
    λ n m from a d. Underway (arrays n m c.args.marks.now from c.args.to.now) c.args.out.now.head c.args.out.now.link a d c.args.done in
    let after : Table =
    on_stack c.args.table.now c.args.out.now.head 0 c.args.s none in
    let begun : (n m : ℕ) (from : List ℕ) → c.args.s < n → Going n m from c.args.table.now 0 → Going n m from after 1 =
    λ n m from l u. let p = c.requires.start_in in
    record { linked = u.linked; sized = enter_sized u _ none l p.1; search = enter_start u _ l p.1 p.0 } in
    let entered : (n m : ℕ) (from : List ℕ) → c.args.s < n → Going n m from c.args.table.now 0 → Going n m from c.enter.new.self 1 =
    λ n m from l u. let e = c.enter.ensures in
    rw (same_table _ _ e.0 e.1 e.2 e.4 e.3) (begun n m from l u) in
    let e = c.enter.ensures.0 in
    let z : c.loop-d.d ≡ 0 = omega arith in
    λ n m from b u.
    let i = c.loop-d.invariant n m from (entered n m from b u) in
    (rw z at i.0.search, i.0.sized, (λ x h. i.1 x (rw e (enter_grown u _ none b c.requires.start_in.1 x h))), i.1 _ (rw e (enter_now u _ none b c.requires.start_in.1)))
