-- `generation::generate`: what was drawn is the plan that the seed makes, and a refusal comes back with no plan (proofs/Made.antt). Assumes nothing.
use Rattle.generation.proofs.Made.{limits, none_made, made}
use Rattle.generation.proofs.generate.Goals as goal

pub returns-in-Err : goal.returns-in-Err
returns-in-Err c =
    let a = c.args in
    none_made a.seed a.n a.m c.grounds-answer.result c.grounds-answer.ensures _ c.in-Err.is c.fresh-none.result c.fresh-none.ensures

pub returns : goal.returns
returns c =
    let a = c.args in
    let e = c.in_default.is in
    let l = limits a.seed a.n a.m c.grounds-answer.result c.grounds-answer.ensures e in
    made a.seed a.n a.m c.grounds-answer.result c.grounds-answer.ensures _ _ _ _ _ l.1 c.marks-marks.ensures c.transitions.ensures e
