-- `slices::store`: the counts are set and each part is copied to its own places, one behind another (`stored`, proofs/Stores.antt). Assumes nothing.
use Prim.Native.Nat.{ℕ}
use mathlib.Core.List.{List}
use mathlib.Core.Path.{ap, ◌∙◌}
use lib.Seq.{paste}
use Rattle.plan.specs.Laws.{Sized}
use Rattle.slices.proofs.Stores.{stored}
use borrow.Author.Rules.{rules}
use Rattle.slices.proofs.store.Goals as goal
use Rattle.slices.proofs.store.Goals.{Start}

-- the arrays of a plan value have their lengths
sized : (c : Start) → Sized c.args.plan
sized c = record { marks = search rules; teams = search rules; from = search rules; to = search rules; low = search rules; high = search rules }

pub returns : goal.returns
returns c =
    let a = c.args in
    let p = a.plan in
    let P : List ℕ → ℕ → List ℕ → List ℕ = λ d at s. paste d at s 2048 in
    stored p (sized (goal.at.returns c).Start) a.counts.now a.states.now a.fields.now c.put-2.new.places c.put-6.new.places c.requires
    (c.put-2.ensures ∙ ap (λ (d : List ℕ). paste d 512 p.teams 512) c.put.ensures)
    (c.put-6.ensures
    ∙ ap (λ (d : List ℕ). P d 6144 p.high)
    (c.put-5.ensures
    ∙ ap (λ (d : List ℕ). P d 4096 p.low) (c.put-4.ensures ∙ ap (λ (d : List ℕ). P d 2048 p.to) c.put-3.ensures)))
