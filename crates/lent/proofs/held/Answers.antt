-- `lent::held`: the quotation of the image was handed its places or none, so what it says is the promise on lent slices
-- (proofs/AllFour.antt). Assumes nothing.
use Rattle.lent.proofs.AllFour.{all_small, sixteen_places, quotes_done}
use Rattle.lent.proofs.held.Goals as goal

pub four-requires : goal.four-requires
four-requires c =
    let held = c.held-held in
    let handed-here = c.handed-end in
    let a = c.args in
    let x = held.ensures.0 in
    (all_small a.octets.now _ _ held.result.quotations x, sixteen_places a.octets.now a.walks.now a.out.now handed-here.result handed-here.ensures _ held.result.quotations x)

pub returns : goal.returns
returns c =
    let held = c.held-held in
    let handed-here = c.handed-end in
    let a = c.args in
    quotes_done a.octets.now a.walks.now a.out.now handed-here.result handed-here.ensures _ _ held.result.quotations c.four.result held.ensures.0 c.four.ensures
