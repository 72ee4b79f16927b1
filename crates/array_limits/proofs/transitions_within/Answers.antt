-- `array_limits::transitions_within` meets its contract. The invariant: sound says whether every transition passed is within the limits.
-- Assumes nothing.
use mathlib.Core.Bool.{Bool, ◌&&◌}
use mathlib.Core.Path.{refl, ap₂, ◌∙◌}
use native.Mathlib.Omega.{arith}
use Rattle.rules.specs.Limits.{all, transition_ok}
use Rattle.rules.specs.Image.{tabulate}
use Rattle.arrays.specs.Tables.{transition_of}
use Rattle.rules.proofs.Tabulated.{all_more}
use Rattle.array_limits.proofs.transitions_within.Goals as goal

pub loop-i-init : goal.loop-i-init
unfolding all tabulate
loop-i-init c = (omega arith, refl)

pub loop-i-preserved : goal.loop-i-preserved
loop-i-preserved c =
    let p = c.args.p.now in
    let l = c.loop-i in (
      omega arith,
      ap₂ (λ (x y : Bool). x && y) l.invariant.1 c.transition_within-sound.ensures
          ∙ all_more (transition_ok p.states) l.i (transition_of p.from p.to p.low p.high),
    )
