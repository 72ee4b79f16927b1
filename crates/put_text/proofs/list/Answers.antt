-- `put_text::list` meets its contract. The loop's invariant: the numbers passed are put. Assumes nothing.
use Prim.Native.Nat.{ℕ, suc}
use mathlib.Core.List.{List, ◌++◌}
use mathlib.Core.Path.{◌≡◌, ap}
use native.Mathlib.Omega.{arith}
use native.Mathlib.Numerals.{add-one}
use lib.ListN.{length, get_or, take}
use lib.Seq.{take-length}
use Rattle.text.proofs.Puts.{put-none, put_room, put_then}
use Rattle.text.proofs.Listed.{listed_more, listed_front}
use Rattle.text.specs.Text.{spaced, listed}
use Rattle.put_text.proofs.list.Goals as goal

pub loop-x-init : goal.loop-x-init
unfolding listed
loop-x-init c = put-none c.args.buffer.now c.args.at

pub spaced-place-requires : goal.spaced-place-requires
spaced-place-requires c =
    let xs = take c.args.k c.args.numbers.now in
    let i = c.loop-x.x-index in
    let more : listed (take (suc i) xs) ≡ listed (take i xs) ++ spaced (get_or xs i 0) = listed_more xs i (omega arith) in
    let whole : length (listed (take (length xs) xs)) ≡ length (listed xs) = ap (λ (l : List ℕ). length (listed l)) (take-length xs) in
    rw c.from.ensures
    (put_room c.loop-x.invariant (spaced (get_or xs i 0))
    (omega (arith, ap length more, whole, listed_front xs (suc i) (length xs) (omega arith))))

pub loop-x-preserved : goal.loop-x-preserved
loop-x-preserved c =
    let xs = take c.args.k c.args.numbers.now in
    let i = c.loop-x.x-index in
    rw (add-one, listed_more xs i (omega arith))
    (put_then c.loop-x.invariant (omega arith) (rw c.from.ensures at c.spaced-place.ensures))

pub returns : goal.returns
returns c =
    let xs = take c.args.k c.args.numbers.now in
    let e : c.loop-x.x-index ≡ length xs = omega arith in
    rw (e, take-length xs) at c.loop-x.invariant
