-- What is known of an item that is a call and is none of the first three kinds: the part of a read or an import, 3 or 4, lies within the octets, and a kind past
-- them is 5, a team's. Assumes nothing.
use mathlib.Core.Bool.{true, ◌&&◌}
use mathlib.Core.Path.{◌≡◌}
use Prim.Native.Nat.{ℕ, ◌≤◌, ◌<◌}
use native.Mathlib.Omega.{arith}
use borrow.Author.Tests.{leb-true, eqb-true, lt-ltb, le-ltb}
use lib.Dec.{leb, eqb}
use Rattle.rules.proofs.Results.{and_true}
use Rattle.calls.specs.Slices.{is_one}

pub record Part (a b long : ℕ) : Type 0 where
  pub start : a ≤ b
  pub end : b ≤ long

pub a_part : (kind a b long : ℕ) → is_one long kind a b ≡ true → 3 ≤ kind → kind < 5 → Part a b long
a_part kind a b long e h k =
    let p : leb a b && leb b long ≡ true = rw (le-ltb kind 3 h, lt-ltb kind 5 k) at e in
    let (s, t) = and_true (leb a b) (leb b long) p in
    record { start = leb-true a b s; end = leb-true b long t }

pub a_team : (kind a b long : ℕ) → is_one long kind a b ≡ true → 5 ≤ kind → kind ≡ 5
a_team kind a b long e h =
    let p : eqb kind 5 ≡ true = rw (le-ltb kind 3 (omega arith), le-ltb kind 5 h) at e in
    eqb-true kind 5 p
