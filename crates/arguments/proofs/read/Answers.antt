-- `read`: each argument is read where the one before ended; then the end is looked at, and the seed. Assumes nothing.
use mathlib.Core.List.{List}
use Prim.Native.Nat.{ℕ}
use lib.ListN.{drop}
use mathlib.Core.Path.{◌≡◌, refl, sym}
use native.Mathlib.Omega.{arith}
use Rattle.aldebaran.specs.Form.{on, and_then}
use Rattle.arguments.specs.Arguments.{argument_then, three_in, arguments_in}
use Rattle.arguments.proofs.Reading.{more_behind, great_seed, all_there}
use Rattle.arguments.proofs.read.Goals as goal
use Rattle.arguments.proofs.read.Goals.{then-transitions-octets-via-then-transitions-octets, then-transitions-octets-via-else-transitions-octets+then-seed-gt-GREATEST_SEED}

-- the definition reads the three where each was read
three : (text : List ℕ) (s n m a b d : ℕ) → argument_then text 0 ≡ on s (drop a text) → argument_then text a ≡ on n (drop b text) → argument_then text b ≡ on m (drop d text)
    → three_in text ≡ on (record { seed = s; states = n; transitions = m }) (drop d text)
unfolding and_then three_in
three text s n m a b d x y z = rw (x, y, z) refl

pub returns-in_err-seed : goal.returns-in_err-seed
unfolding and_then three_in arguments_in
returns-in_err-seed c = rw (c.from_residual.ensures, c.in_err-seed.ensures) refl

pub returns-in_err-states : goal.returns-in_err-states
unfolding and_then three_in arguments_in
returns-in_err-states c = rw (c.from_residual-in_err-states.ensures, c.in_ok-seed.ensures.told, c.in_err-states.ensures) refl

pub returns-in_err-transitions : goal.returns-in_err-transitions
unfolding and_then three_in arguments_in
returns-in_err-transitions c = rw (c.from_residual-in_err-transitions.ensures, c.in_ok-seed.ensures.told, c.in_ok-states.ensures.told, c.in_err-transitions.ensures) refl

pub returns-then-transitions-octets : goal.returns-then-transitions-octets
returns-then-transitions-octets c =
    let text = c.args.octets.now in
    let s = c.in_ok-seed in
    let n = c.in_ok-states in
    let m = c.in_ok-transitions in
    let k : ℕ = m.transitions.next in
    let e = three text s.ensures.number n.ensures.number m.ensures.number s.seed.next n.states.next k s.ensures.told n.ensures.told m.ensures.told in
    elim c.then-transitions-octets.branch [
      | then-transitions-octets-via-then-transitions-octets w ↦ sym (more_behind text _ k e (omega (arith, w.if-transitions-octets.true)))
      | then-transitions-octets-via-else-transitions-octets+then-seed-gt-GREATEST_SEED w ↦
          sym (great_seed text _ k e (omega (arith, w.if-transitions-octets.false)) s.seed.value s.ensures.value_is (omega (arith, w.if-seed-gt-GREATEST_SEED.true)))
    ]

pub returns : goal.returns
returns c =
    let text = c.args.octets.now in
    let s = c.in_ok-seed in
    let n = c.in_ok-states in
    let m = c.in_ok-transitions in
    let k : ℕ = m.transitions.next in
    let e = three text s.ensures.number n.ensures.number m.ensures.number s.seed.next n.states.next k s.ensures.told n.ensures.told m.ensures.told in
    sym (all_there text _ k e (omega (arith, c.if-transitions-octets.false)) s.seed.value s.ensures.value_is n.states.value m.transitions.value n.ensures.value_is m.ensures.value_is
    (omega (arith, c.if-seed-gt-GREATEST_SEED.false)))
