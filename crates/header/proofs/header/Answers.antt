-- `header::header` meets its contract: fewer than four octets are the rule's first ground, and the others are those of `grounds`, over the
-- four fields that stand from bit position 0 on.
-- Assumes nothing.
use mathlib.Core.Path.{◌≡◌}
use native.Mathlib.Omega.{arith}
use borrow.Author.Tests.{lt-ltb}
use mathlib.Core.Bool.{true}
use lib.Dec.{ltb}
use lib.ListN.{length}
use Rattle.rules.specs.Image.{header_rows}
use Rattle.header.proofs.header.Goals as goal

pub returns-then-octets-lt4 : goal.returns-then-octets-lt4
unfolding header_rows
returns-then-octets-lt4 c =
    let e : ltb (length c.args.octets.now) 4 ≡ true = lt-ltb (length c.args.octets.now) 4 c.if-octets-lt4.true in
    record {
      answer = rw e;
      version = tt;
      states = tt;
      transitions = tt;
      all = tt;
      bits = rw e (omega arith);
    }
