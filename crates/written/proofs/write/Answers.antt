-- `written::write`: two rows, in the rule's order, and then the fields of the header, the states and the transitions put one after another, which are the image.
-- Assumes nothing.
use Prim.Native.Nat.{ℕ, ◌+◌, ◌*◌, ◌≤◌}
use mathlib.Core.Bool.{true, false}
use mathlib.Core.List.{List}
use mathlib.Core.Path.{◌≡◌, sym, ap, ◌∙◌}
use native.Mathlib.Omega.{arith}
use borrow.Author.Rules.{rules}
use borrow.Author.Tests.{lt-ltb, le-ltb}
use lib.Dec.{ltb}
use lib.ListN.{length}
use Rattle.field.specs.Field.{put_all}
use Rattle.graph.specs.Graph.{Graph, states, count}
use Rattle.rules.specs.Limits.{all, within, transition_ok}
use Rattle.rules.specs.Image.{header_fields, state_fields, transition_fields, fields_of_each, image_length}
use Rattle.rules.specs.Refusal.{accepted}
use Rattle.rules.specs.Rules.{write_rule}
use Rattle.rules.proofs.ReadWrite.{limited}
use Rattle.arrays.specs.Tables.{graph_in_arrays, states_of, transitions_of}
use Rattle.arrays.proofs.Lists.{states_of_lem, count_of}
use Rattle.written.proofs.Packed.{put-arrays}
use Rattle.written.proofs.write.Goals as goal
use Rattle.written.proofs.write.Goals.{Else-buffer-length, Start}

-- the plan that the counts and arrays hold, and its counts
graph : Start → Graph
graph c = graph_in_arrays c.args.p.now

states-here : (c : Start) → states (graph c) ≡ c.args.p.now.states
unfolding graph
states-here c = states_of_lem c.args.p.now.states c.args.p.now.transitions c.args.p.now.marks c.args.p.now.teams c.args.p.now.from c.args.p.now.to c.args.p.now.low c.args.p.now.high

count-here : (c : Start) → count (graph c) ≡ c.args.p.now.transitions
unfolding graph
count-here c = count_of c.args.p.now.states c.args.p.now.transitions c.args.p.now.marks c.args.p.now.teams c.args.p.now.from c.args.p.now.to c.args.p.now.low c.args.p.now.high

-- past the second the buffer has the image's length
room : (c : Else-buffer-length) → image_length c.args.p.now.states c.args.p.now.transitions ≤ length c.args.buffer.now
room c = omega (arith, c.if-buffer-length.false, c.size-length.ensures)

pub returns-then-not-limited : goal.returns-then-not-limited
unfolding write_rule graph
returns-then-not-limited c =
    let w : within (graph (goal.at.returns-then-not-limited c).Start) ≡ false = sym c.in_limits-limited.ensures ∙ c.if-not-limited.true in
    record { answer = rw w; buffer = rw w }

pub size-length-requires : goal.size-length-requires
unfolding graph
size-length-requires c =
    let within-here : within (graph (goal.at.size-length-requires c).Start) ≡ true = sym c.in_limits-limited.ensures ∙ c.if-not-limited.false in
    omega (arith, limited (graph (goal.at.size-length-requires c).Start) within-here, states-here (goal.at.size-length-requires c).Start, count-here (goal.at.size-length-requires c).Start)

pub returns-then-buffer-length : goal.returns-then-buffer-length
unfolding write_rule graph
returns-then-buffer-length c =
    let within-here : within (graph (goal.at.returns-then-buffer-length c).Start) ≡ true = sym c.in_limits-limited.ensures ∙ c.if-not-limited.false in
    let s = (goal.at.returns-then-buffer-length c).Start in
    let b = c.args.buffer.now in
    let N = image_length c.args.p.now.states c.args.p.now.transitions in
    let l : ltb (length b) N ≡ true = lt-ltb (length b) N (omega (arith, c.if-buffer-length.true, c.size-length.ensures)) in
    record { answer = rw (within-here, states-here s, count-here s, l); buffer = rw (within-here, states-here s, count-here s, l) }

pub header-requires : goal.header-requires
unfolding graph
header-requires c =
    let within-here : within (graph (goal.at.header-requires c).Start) ≡ true = sym c.in_limits-limited.ensures ∙ c.if-not-limited.false in
    omega (arith, limited (graph (goal.at.header-requires c).Start) within-here, states-here (goal.at.header-requires c).Start, count-here (goal.at.header-requires c).Start, room (goal.at.header-requires c).Else-buffer-length)

pub states-requires-clause-room : goal.states-requires-clause-room
unfolding graph
states-requires-clause-room c =
    let within-here : within (graph (goal.at.states-requires-clause-room c).Start) ≡ true = sym c.in_limits-limited.ensures ∙ c.if-not-limited.false in
    omega (arith, limited (graph (goal.at.states-requires-clause-room c).Start) within-here, states-here (goal.at.states-requires-clause-room c).Start, count-here (goal.at.states-requires-clause-room c).Start, room (goal.at.states-requires-clause-room c).Else-buffer-length, c.header.auto.buffer)

pub states-requires-clause-each_state : goal.states-requires-clause-each_state
unfolding graph
states-requires-clause-each_state c =
    let within-here : within (graph (goal.at.states-requires-clause-each_state c).Start) ≡ true = sym c.in_limits-limited.ensures ∙ c.if-not-limited.false in
    (limited (graph (goal.at.states-requires-clause-each_state c).Start) within-here).each-state

pub transitions-requires-clause-room : goal.transitions-requires-clause-room
unfolding graph
transitions-requires-clause-room c =
    let within-here : within (graph (goal.at.transitions-requires-clause-room c).Start) ≡ true = sym c.in_limits-limited.ensures ∙ c.if-not-limited.false in
    let s = (goal.at.transitions-requires-clause-room c).Start in
    let l = limited (graph (goal.at.transitions-requires-clause-room c).Start) within-here in
    (omega (arith, l, states-here s), omega (arith, l, count-here s), omega (arith, room (goal.at.transitions-requires-clause-room c).Else-buffer-length, c.header.auto.buffer, c.states.auto.buffer))

pub transitions-requires-clause-each_transition : goal.transitions-requires-clause-each_transition
unfolding graph
transitions-requires-clause-each_transition c =
    let within-here : within (graph (goal.at.transitions-requires-clause-each_transition c).Start) ≡ true = sym c.in_limits-limited.ensures ∙ c.if-not-limited.false in
    let s = (goal.at.transitions-requires-clause-each_transition c).Start in
    let a = c.args in
    let l = limited (graph (goal.at.transitions-requires-clause-each_transition c).Start) within-here in
    ap (λ (k : ℕ). all (transition_ok k) (transitions_of a.p.now.transitions a.p.now.from a.p.now.to a.p.now.low a.p.now.high)) (sym (states-here s)) ∙ l.each-transition

pub returns : goal.returns
unfolding write_rule graph
returns c =
    let within-here : within (graph (goal.at.returns c).Start) ≡ true = sym c.in_limits-limited.ensures ∙ c.if-not-limited.false in
    let s = (goal.at.returns c).Start in
    let a = c.args in
    let b = a.buffer.now in
    let n = a.p.now.states in
    let m = a.p.now.transitions in
    let w = within-here in
    let k : ltb (length b) (image_length n m) ≡ false = le-ltb (length b) (image_length n m) (room (goal.at.returns c).Else-buffer-length) in
    let S = fields_of_each state_fields (states_of n a.p.now.marks a.p.now.teams) in
    let T = fields_of_each transition_fields (transitions_of m a.p.now.from a.p.now.to a.p.now.low a.p.now.high) in
    let e : c.transitions.new.buffer ≡ put_all (put_all (put_all b 0 (header_fields 2 n m)) 32 S) (32 + 8 * n) T =
    c.transitions.ensures
    ∙ ap (λ (x : List ℕ). put_all x (32 + 8 * n) T) (c.states.ensures ∙ ap (λ (x : List ℕ). put_all x 32 S) c.header.ensures) in
    let f = put-arrays n m a.p.now.marks a.p.now.teams a.p.now.from a.p.now.to a.p.now.low a.p.now.high b (search rules) (room (goal.at.returns c).Else-buffer-length) in
    record { answer = rw (w, states-here s, count-here s, k) (ap accepted c.size-length.ensures); buffer = rw (w, states-here s, count-here s, k) (e ∙ f) }
