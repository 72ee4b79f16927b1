-- `slices::load` meets its contract: each part is copied out of its slice.
-- Assumes nothing.
use lib.ListN.{get_or}
use Rattle.slices.proofs.load.Goals as goal

pub returns : goal.returns
returns c =
    let a = c.args in
    λ i. record {
      states = get_or a.counts.now 0 0;
      transitions = get_or a.counts.now 1 0;
      marks = c.states_of.ensures i;
      teams = c.states_of-2.ensures i;
      from = c.field_of.ensures i;
      to = c.field_of-2.ensures i;
      low = c.field_of-3.ensures i;
      high = c.field_of-4.ensures i;
    }
