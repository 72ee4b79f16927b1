-- `image::reading::states` meets its contract. The invariant: no row of a state passed holds, and its marks value and team stand at their places; no
-- later place was touched; the position, and the count of the bits taken, is that of the next state. So the first row that holds is that of the state at hand.
-- Assumes nothing.
use Prim.Native.Nat.{ℕ, ◌+◌, ◌<◌}
use mathlib.Core.Bool.{true, not}
use mathlib.Core.Path.{◌≡◌, sym, ap₂, ◌∙◌}
use native.Mathlib.Omega.{arith}
use lib.Dec.{eqb}
use Rattle.field.proofs.Laws.{field_lt}
use Rattle.arrays.specs.Tables.{state_of}
use Rattle.rules.specs.Image.{state_at, spare_at, spare_in, state_place, state_rows}
use Rattle.rules.specs.Refusal.{refused}
use Rattle.rules.specs.Table.{first, by_number, NoneHolds}
use Rattle.rules.specs.declared.Refusal.TheVariants.{SpareBits}
use Rattle.rules.proofs.Tables.{accepted_where, none_each}
use Rattle.taken.specs.Taken.{RefusedAt}
use Rattle.taken.proofs.Taken.{items_all, items_to, refused_by}
use Rattle.rules.proofs.Tabulated.{tabulate-same}
use Rattle.image.proofs.Items.{Bits, state-fields}
use Rattle.image.proofs.reading.states.Goals as goal
use Rattle.image.proofs.reading.states.Goals.{After-is_spare, After-state-fields}

-- the fields that were taken are those of the state
taken : (c : After-state-fields) → Bits c.args.octets.now (state_place c.loop-i.i) c.state-fields.result
taken c = state-fields c.args.octets.now c.loop-i.at (state_place c.loop-i.i) c.state-fields.result c.loop-i.invariant.3 c.state-fields.ensures.0

-- whether a spare bit was set is the row's test
spare : (c : After-is_spare) → Bits c.args.octets.now (state_place c.loop-i.i) c.state-fields.result → c.is_spare.result ≡ not (eqb (spare_at c.args.octets.now (state_place c.loop-i.i)) 0)
spare c t =
    c.is_spare.ensures
    ∙ ap₂ (λ (v five : ℕ). not (eqb (spare_in v five) 0)) c.requires.6 t.five

pub returns-then-is_spare : goal.returns-then-is_spare
returns-then-is_spare c =
    let os = c.args.octets.now in
    let l = c.loop-i in
    let s : not (eqb (spare_at os (state_place l.i)) 0) ≡ true = sym (spare (goal.at.returns-then-is_spare c).After-is_spare (taken (goal.at.returns-then-is_spare c).After-state-fields)) ∙ c.if-is_spare.true in
    let f : first (state_rows os l.i) ≡ refused SpareBits = rw s in
    let n = c.args.n in
    let here : RefusedAt (state_rows os) n l.i SpareBits = record { before = none_each (state_rows os) l.i l.invariant.4; listed = omega arith; here = f } in
    record {
      answer = sym (refused_by (state_rows os) n l.i SpareBits here);
      states = λ e. absurd (let z : ◌≡◌ {A = ℕ} 0 1 = cc in omega arith);
      later = l.invariant.1;
      later_teams = l.invariant.2;
      all = λ e. absurd (let z : ◌≡◌ {A = ℕ} 0 1 = cc in omega arith);
      bits = omega (arith, c.state-fields.ensures.2, items_to (state_rows os) n l.i SpareBits here);
    }

pub marks_of-requires : goal.marks_of-requires
marks_of-requires c =
    let os = c.args.octets.now in
    let p = state_place c.loop-i.i in
    let t = taken (goal.at.marks_of-requires c).After-state-fields in
    (rw t.start (field_lt os p 1), rw t.final (field_lt os (p + 1) 1), rw t.counted (field_lt os (p + 2) 1))

pub overflow_cast-teams : goal.overflow_cast-teams
overflow_cast-teams c =
    let small : c.state-fields.result.fourth < 32 = rw (taken (goal.at.overflow_cast-teams c).After-state-fields).five (field_lt c.args.octets.now (state_place c.loop-i.i + 3) 5) in
    omega arith

pub returns : goal.returns
returns c =
    let os = c.args.octets.now in
    let n = c.args.n in
    let l = c.loop-i in
    let none : NoneHolds (by_number (state_rows os) 0 n) = none_each (state_rows os) n (λ k h. l.invariant.4 k (omega arith)) in
    record {
      answer = sym (accepted_where (by_number (state_rows os) 0 n) tt none);
      states = λ e. tabulate-same n (state_of l.marks l.teams) (λ (k : ℕ). state_at os (state_place k)) (λ k h. l.invariant.5 k (omega arith));
      later = l.invariant.1;
      later_teams = l.invariant.2;
      all = λ e. omega arith;
      bits = omega (arith, items_all (state_rows os) n none);
    }
