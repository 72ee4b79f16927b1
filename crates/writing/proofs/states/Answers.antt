-- `writing::states` meets its contract. The invariant: the buffer has the fields of the states passed, put one after another.
-- Assumes nothing.
use Prim.Native.Nat.{ℕ, ◌+◌, ◌*◌}
use mathlib.Core.List.{List}
use mathlib.Core.Path.{ap, ◌∙◌}
use native.Mathlib.Omega.{arith}
use borrow.Author.Rules.{rules}
use borrow.Author.Tests.{leb-true}
use lib.ListN.{length}
use Rattle.field.specs.Field.{put_all}
use Rattle.field.proofs.Pack.{length-put_all}
use Rattle.graph.specs.Class.{team_ok}
use Rattle.rules.specs.Image.{state_fields}
use Rattle.rules.specs.Limits.{marks_ok, state_ok}
use Rattle.rules.proofs.ReadWrite.{state-width}
use Rattle.rules.proofs.Results.{and_true}
use Rattle.rules.proofs.Tabulated.{all-at}
use Rattle.arrays.specs.Tables.{state_of}
use Rattle.writing.proofs.Puts.{put-none, put-more}
use Rattle.writing.proofs.states.Goals as goal

pub loop-i-init : goal.loop-i-init
loop-i-init c = (omega arith, search rules, put-none state_fields 8 state-width c.args.buffer.now 32 (state_of c.args.p.now.marks c.args.p.now.teams))

pub state-requires : goal.state-requires
state-requires c =
    let a = c.args in
    let p = a.p.now in
    let i = c.loop-i.i in
    let x = state_of p.marks p.teams i in
    let ok = all-at state_ok p.states (state_of p.marks p.teams) c.requires.each_state i (omega arith) in
    (record { most = omega arith; inside = omega arith; near = omega arith }, omega arith, leb-true x.team 31 (and_true (marks_ok x.marks) (team_ok x.team) ok).1)

pub loop-i-preserved : goal.loop-i-preserved
loop-i-preserved c =
    let a = c.args in
    let p = a.p.now in
    let l = c.loop-i in
    let v = state_of p.marks p.teams l.i in (
      omega arith,
      ap length c.state.ensures ∙ length-put_all (state_fields v) l.buffer (32 + 8 * l.i) ∙ l.invariant.1,
      c.state.ensures ∙ ap (λ (b : List ℕ). put_all b (32 + 8 * l.i) (state_fields v)) l.invariant.2
          ∙ put-more state_fields 8 state-width a.buffer.now 32 l.i (state_of p.marks p.teams),
    )
