-- `runs::in_turn`. The invariant: slices and answers are those after the calls passed (`LentAfter`), none at first (`lent_none`); a turn is one call more, by
-- the promise of `obey` (`lent-more`). Assumes nothing.
use Prim.Native.Nat.{◌≤◌}
use mathlib.Core.Path.{◌≡◌}
use lib.ListN.{length}
use Rattle.calls.specs.Slices.{call_in, item_at}
use Rattle.slices.specs.Lent.{slices}
use Rattle.runs.proofs.Turns.{LentAfter}
use Rattle.runs.proofs.in_turn.Given as goal

abbrev pub invariant-loop-turn : goal.invariant-loop-turn
invariant-loop-turn l =
    (l.turn ≤ length l.kinds) × (length l.answers ≡ length l.initial.answers) × (length l.counts ≡ length l.initial.counts) × (length l.states ≡ length l.initial.states) × (length l.fields ≡ length l.initial.fields)
    × LentAfter (λ k. call_in l.octets (item_at l.kinds l.arguments k)) l.initial.answers (slices l.initial.counts l.initial.states l.initial.fields) l.turn l.answers (slices l.counts l.states l.fields)
