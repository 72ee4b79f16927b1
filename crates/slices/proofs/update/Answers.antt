-- `slices::update`: a refusal touches nothing. Of an accepted call the counts are set and each part is copied up to its count to its own places; what stands
-- behind is the plan's already, so the plan is stored whole (`fronts_stored`, proofs/Fronts.antt). Assumes nothing.
use Prim.Native.Nat.{ℕ}
use mathlib.Core.List.{List}
use mathlib.Core.Path.{◌≡◌, refl, ap, ◌∙◌}
use borrow.Author.Rules.{rules}
use lib.Seq.{paste}
use Rattle.rules.specs.Answer.{Accepted}
use Rattle.plan.specs.Laws.{Sized}
use Rattle.slices.specs.Lent.{slices, SameLater}
use Rattle.slices.proofs.Fronts.{fronts_stored}
use Rattle.slices.proofs.update.Goals as goal
use Rattle.slices.proofs.update.Goals.{In_default, Start}

-- the arrays of a plan value have their lengths
sized : (c : Start) → Sized c.args.edited.plan
sized c = record { marks = search rules; teams = search rules; from = search rules; to = search rules; low = search rules; high = search rules }

-- past the test the plan is an accepted one's
later : (c : In_default) → SameLater c.args.edited.plan (slices c.args.counts.now c.args.states.now c.args.fields.now)
later c = c.requires.1 c.in_default.is

pub returns : goal.returns
returns c =
    let a = c.args in
    let p = a.edited.plan in
    let P : List ℕ → ℕ → List ℕ → List ℕ = λ d at s. paste d at s p.transitions in
    let e : a.edited.answer ≡ Accepted = c.in_default.is in
    let w = fronts_stored p (sized (goal.at.returns c).Start) a.counts.now a.states.now a.fields.now c.requires.0 (later (goal.at.returns c).In_default) c.put-2.new.places c.put-6.new.places
    (c.put-2.ensures ∙ ap (λ (d : List ℕ). paste d 512 p.teams p.states) c.put.ensures)
    (c.put-6.ensures
    ∙ ap (λ (d : List ℕ). P d 6144 p.high) (c.put-5.ensures ∙ ap (λ (d : List ℕ). P d 4096 p.low) (c.put-4.ensures ∙ ap (λ (d : List ℕ). P d 2048 p.to) c.put-3.ensures))) in
    rw e (refl, w.0, w.1)
