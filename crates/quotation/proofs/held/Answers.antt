-- `quotation::held`: the image decides, then the places; what was read is quoted (proofs/Kept.antt). Assumes nothing.
use Rattle.plan.specs.Laws.{held-within}
use Rattle.quotation.proofs.Kept.{held-refused, held-short, held-quoted}
use Rattle.quotation.proofs.held.Goals as goal

pub returns-in-Err : goal.returns-in-Err
returns-in-Err c = let held = c.plan_held-edited in
    let args = c.args in
    (held-refused args.octets.now args.walks.now held.result held.ensures c.in-Err.r c.in-Err.is, held.ensures.taken)

pub returns-then-walks-lt2048 : goal.returns-then-walks-lt2048
returns-then-walks-lt2048 c = let held = c.plan_held-edited in
    let args = c.args in
    (held-short args.octets.now args.walks.now held.result held.ensures c.in_default.is c.if-walks-lt2048.true, held.ensures.taken)

pub show_all-quotes-requires : goal.show_all-quotes-requires
show_all-quotes-requires c = let held = c.plan_held-edited in
    (held-within c.args.octets.now held.result held.ensures c.in_default.is, c.if-walks-lt2048.false)

pub returns : goal.returns
returns c = let held = c.plan_held-edited in
    let args = c.args in
    (held-quoted args.octets.now args.walks.now held.result held.ensures c.in_default.is _ _ c.if-walks-lt2048.false c.show_all-quotes.ensures, held.ensures.taken)
