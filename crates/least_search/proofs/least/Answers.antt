-- `least_search::least` meets its contract: where the search came to its end, by the values in the order of leaving (values' `best`), and otherwise by keys. Assumes nothing.
use Rattle.turns.specs.declared.Table.{Table}
use Rattle.least_search.proofs.least.Goals as goal

pub best-requires-clause-by_index : goal.best-requires-clause-by_index
best-requires-clause-by_index c =
    let a : Table = c.args.searched.now.table in
    let q = rw c.in-Ends.is at c.requires.reached in
    (c.args.m, c.args.from.now, a.rank, a.cursor, a.stack, a.via, record { linked = c.requires.linked.0; ranked = q.0; started = q.1; no_dead_end = q.2 })

pub returns-in-Ends : goal.returns-in-Ends
returns-in-Ends c =
    let a : Table = c.args.searched.now.table in
    let q = rw c.in-Ends.is at c.requires.reached in
    c.best.ensures c.args.m c.args.from.now a.rank a.cursor a.stack a.via (record { linked = c.requires.linked.0; ranked = q.0; started = q.1; no_dead_end = q.2 })
