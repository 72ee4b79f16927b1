-- What the search left behind is what the hunt goes by (`ranked_entered`), and what the hunt then finds is what the starts reach: a dead end, or none. Assumes nothing.
use Rattle.std.specs.Prelude.{Option, Some, None}
use mathlib.Core.Bool.{true≢false}
use mathlib.Core.List.{List}
use mathlib.Core.Logic.{⊎_elim}
use mathlib.Core.Path.{◌≡◌, refl, sym, ◌∙◌}
use Prim.Native.Nat.{ℕ, ◌<◌}
use Rattle.search.specs.Arrays.{Arrays, at, StartIn, UnfinishedIn, Leaves}
use Rattle.search.specs.Chain.{Linked}
use Rattle.reach.specs.declared.Reach.{Reach}
use Rattle.reach.specs.declared.Reach.TheVariants.{NoStart, Looped, DeadEnd, Ends}
use Rattle.turns.specs.declared.Table.{Table}
use Rattle.hunt.specs.Hunted.{Entered, Hunted}
use Rattle.reach.specs.Explored.{Explored, Ranked, Reached}

module _ {A : Arrays} {a : Table} {done : ℕ} (r : Ranked A a done) where
  -- where an entered state's transition leads: a final state, or an entered one of lower rank
  pub onward-lower : (s t : ℕ) → s < A.n → 0 < at a.rank s → Leaves A s t → UnfinishedIn A.marks (at A.to t)
      → (0 < at a.rank (at A.to t)) × (at a.rank (at A.to t) < at a.rank s)
  onward-lower s t h p l u = ⊎_elim (λ f. absurd (true≢false (sym f ∙ u))) (λ w. w) (r.onward s h p t l)

  -- so the hunt can go by what the search left behind
  pub ranked_entered : {head link : List ℕ} → Linked A head link → Entered A head link a.rank a.via
  ranked_entered w = record { linked = w; rooted = r.origin; onward = λ s t h q l u. (onward-lower s t h q l u).0 }

  -- and what it found is what the starts reach: a dead end, or none
  pub reached_dead : {x : ℕ} → Hunted A a.rank (Some x) → Reached A a (DeadEnd x)
  reached_dead w = ((done, r), w)

  pub reached-end : (s : ℕ) × (s < A.n) × StartIn A.marks s → (o : Option ℕ) → ((x : ℕ) → o ≡ Some x → ⊥) → Hunted A a.rank o → Reached A a (Ends done)
  reached-end started (Some x) d w = absurd (d x refl)
  reached-end started None d w = (r, started, w)

-- what the search found where it did not come to its end, there is no hunt for
pub reached_early : (A : Arrays) (a : Table) (r : Reach) → ((k : ℕ) → r ≡ Ends k → ⊥) → Explored A a r
    → Reached A a r
reached_early A a NoStart d e = e
reached_early A a (Looped d j) n' e = e
reached_early A a (DeadEnd s) d e = absurd e
reached_early A a (Ends k) d e = absurd (d k refl)
