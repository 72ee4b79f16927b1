-- `four_lines::four`: four lines in a row (proofs/InRow.antt). Assumes nothing.
use Prim.Native.Nat.{◌+◌}
use native.Mathlib.Omega.{arith}
use Rattle.graph.specs.declared.Which.TheVariants.{LeastDelay, GreatestDelay, LeastCount, GreatestCount}
use Rattle.four_lines.proofs.InRow.{part-long, long, lines-sum, lines_room, still_room, four-put}
use Rattle.four_lines.proofs.four.Goals as goal

pub line-one-requires : goal.line-one-requires
line-one-requires c =
    let q = c.args.quotes in
    let w = c.args.walks.now in
    let z = lines_room q w c.requires.in_bounds.0 (λ i. omega (arith, c.shared_slice_known-1.given i)) c.requires.which_bound.0 c.requires.which_bound.1 in
    let s = lines-sum q w in
    (c.requires.which_bound.0 LeastDelay, omega (arith, (c.requires.which_bound.0 LeastDelay).0, part-long LeastDelay w c.requires.in_bounds.0), omega (arith, s, c.requires.in_bounds.1, z))

pub line-two-requires : goal.line-two-requires
line-two-requires c =
    let q = c.args.quotes in
    let w = c.args.walks.now in
    let z = lines_room q w c.requires.in_bounds.0 (λ i. omega (arith, c.shared_slice_known-1.given i)) c.requires.which_bound.0 c.requires.which_bound.1 in
    let s = lines-sum q w in
    let r1 = still_room c.line-one.ensures (long q w GreatestDelay + long q w LeastCount + long q w GreatestCount) (omega (arith, s, c.requires.in_bounds.1, z)) in
    (c.requires.which_bound.0 GreatestDelay, omega (arith, (c.requires.which_bound.0 GreatestDelay).0, part-long GreatestDelay w c.requires.in_bounds.0), omega (arith, s, r1))

pub line-three-requires : goal.line-three-requires
line-three-requires c =
    let q = c.args.quotes in
    let w = c.args.walks.now in
    let z = lines_room q w c.requires.in_bounds.0 (λ i. omega (arith, c.shared_slice_known-1.given i)) c.requires.which_bound.0 c.requires.which_bound.1 in
    let s = lines-sum q w in
    let r1 = still_room c.line-one.ensures (long q w GreatestDelay + long q w LeastCount + long q w GreatestCount) (omega (arith, s, c.requires.in_bounds.1, z)) in
    let r2 = still_room c.line-two.ensures (long q w LeastCount + long q w GreatestCount) (omega (arith, s, r1)) in
    (c.requires.which_bound.0 LeastCount, omega (arith, (c.requires.which_bound.0 LeastCount).0, part-long LeastCount w c.requires.in_bounds.0), omega (arith, s, r2))

pub line-requires : goal.line-requires
line-requires c =
    let q = c.args.quotes in
    let w = c.args.walks.now in
    let z = lines_room q w c.requires.in_bounds.0 (λ i. omega (arith, c.shared_slice_known-1.given i)) c.requires.which_bound.0 c.requires.which_bound.1 in
    let s = lines-sum q w in
    let r1 = still_room c.line-one.ensures (long q w GreatestDelay + long q w LeastCount + long q w GreatestCount) (omega (arith, s, c.requires.in_bounds.1, z)) in
    let r2 = still_room c.line-two.ensures (long q w LeastCount + long q w GreatestCount) (omega (arith, s, r1)) in
    let r3 = still_room c.line-three.ensures (long q w GreatestCount) (omega (arith, s, r2)) in
    (c.requires.which_bound.0 GreatestCount, omega (arith, (c.requires.which_bound.0 GreatestCount).0, part-long GreatestCount w c.requires.in_bounds.0), omega (arith, s, r3))

pub returns : goal.returns
returns c = four-put c.args.quotes c.args.walks.now c.line-one.ensures c.line-two.ensures c.line-three.ensures c.line.ensures
