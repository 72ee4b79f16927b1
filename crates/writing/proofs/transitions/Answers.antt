-- `writing::transitions` meets its contract. The invariant: the buffer has the fields of the transitions passed, put one after another.
-- Assumes nothing.
use Prim.Native.Nat.{ℕ, ◌+◌, ◌*◌}
use mathlib.Core.List.{List}
use mathlib.Core.Path.{ap, ◌∙◌}
use native.Mathlib.Omega.{arith}
use borrow.Author.Rules.{rules}
use lib.ListN.{length}
use Rattle.field.specs.Field.{put_all}
use Rattle.field.proofs.Pack.{length-put_all}
use Rattle.rules.specs.Image.{transition_fields}
use Rattle.rules.proofs.ReadWrite.{transition-width, transition-fits}
use Rattle.rules.specs.Limits.{transition_ok}
use Rattle.arrays.specs.Tables.{transition_of}
use Rattle.rules.proofs.Tabulated.{all-at}
use Rattle.writing.proofs.Puts.{put-none, put-more}
use Rattle.writing.proofs.transitions.Goals as goal

pub loop-i-init : goal.loop-i-init
loop-i-init c = (omega arith, search rules, put-none transition_fields 40 transition-width c.args.buffer.now (32 + 8 * c.args.p.now.states) (transition_of c.args.p.now.from c.args.p.now.to c.args.p.now.low c.args.p.now.high))

pub transition-requires-clause-all_fit : goal.transition-requires-clause-all_fit
transition-requires-clause-all_fit c =
    let a = c.args in
    let p = a.p.now in
    let l = c.loop-i in
    let f = transition_of p.from p.to p.low p.high in
    transition-fits p.states (f l.i) (omega arith) (all-at (transition_ok p.states) p.transitions f c.requires.each_transition l.i (omega arith))

pub loop-i-preserved : goal.loop-i-preserved
loop-i-preserved c =
    let a = c.args in
    let p = a.p.now in
    let l = c.loop-i in
    let f = transition_of p.from p.to p.low p.high in (
      omega arith,
      ap length c.transition.ensures ∙ length-put_all (transition_fields (f l.i)) l.buffer (32 + 8 * p.states + 40 * l.i) ∙ l.invariant.1,
      c.transition.ensures ∙ ap (λ (b : List ℕ). put_all b (32 + 8 * p.states + 40 * l.i) (transition_fields (f l.i))) l.invariant.2
          ∙ put-more transition_fields 40 transition-width a.buffer.now (32 + 8 * p.states) l.i f,
    )
