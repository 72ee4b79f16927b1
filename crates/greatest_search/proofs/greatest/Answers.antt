-- `greatest_search::greatest` meets its contract, kind by kind: what each of the searches' answers gives (GreatestFigure). Assumes nothing.
use mathlib.Core.Path.{refl}
use Rattle.turns.specs.declared.Table.{Table}
use Rattle.greatest_search.proofs.GreatestFigure.{none-quoted, loop-quoted, climbable, dead_end-quoted}
use Rattle.greatest_search.proofs.greatest.Goals as goal

pub climb-k-requires : goal.climb-k-requires
climb-k-requires c =
    let p = c.requires.by_index in
    let q = rw c.in-DeadEnd.is at p.2 in
    (c.args.n, p.0, c.args.searched.now.table.rank, c.requires.n_in_bounds.0, climbable {a = c.args.searched.now.table} p.1.bounded q.0.1 q.1.0 q.1.1)

pub returns-in-NoStart : goal.returns-in-NoStart
returns-in-NoStart c = λ m w reached g held. none-quoted held _ _ (rw c.in-NoStart.is at reached)

pub returns-in-Looped : goal.returns-in-Looped
returns-in-Looped c =
    let k = c.along_stack in
    λ m w reached g held.
    let l = rw c.in-Looped.is at reached in
    loop-quoted w.bounded {a = c.args.searched.now.table} held _ c.along_stack.auto.walk c.requires.n_in_bounds.0 l k.ensures.0 k.ensures.1

pub returns-in-DeadEnd : goal.returns-in-DeadEnd
returns-in-DeadEnd c =
    let k = c.climb-k in
    λ m w reached g held.
    let q = rw c.in-DeadEnd.is at reached in
    dead_end-quoted w.bounded {a = c.args.searched.now.table} held _ c.climb-k.auto.walk c.requires.n_in_bounds.0 (λ t. refl) q.0.1 q.1
    (k.ensures.0 c.args.n m c.args.searched.now.table.rank (climbable {a = c.args.searched.now.table} w.bounded q.0.1 q.1.0 q.1.1)) k.ensures.1

pub best-requires-clause-by_index : goal.best-requires-clause-by_index
best-requires-clause-by_index c =
    let a : Table = c.args.searched.now.table in
    let (m, w, reached) = c.requires.by_index in
    let q = rw c.in-Ends.is at reached in
    (m, c.args.from.now, a.rank, a.cursor, a.stack, a.via, record { linked = w; ranked = q.0; started = q.1; no_dead_end = q.2 })

pub returns-in-Ends : goal.returns-in-Ends
returns-in-Ends c =
    let a : Table = c.args.searched.now.table in
    λ m w reached g held.
    let q = rw c.in-Ends.is at reached in
    c.best.ensures m c.args.from.now a.rank a.cursor a.stack a.via (record { linked = w; ranked = q.0; started = q.1; no_dead_end = q.2 }) g held
