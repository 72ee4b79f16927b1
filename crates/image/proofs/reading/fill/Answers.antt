-- `image::reading::fill`: the header, the states and the transitions are looked at in the order of the image's rows, so a refused part decides
-- (proofs/Filling.antt), and the count has grown by the position where it left off. Assumes nothing.
use Prim.Native.Nat.{ℕ, ◌≤◌}
use mathlib.Core.Path.{◌≡◌, refl, sym, subst}
use native.Mathlib.Omega.{arith}
use lib.ListN.{length}
use Rattle.std.proofs.lemmas.Result.{err_from_is_err_and}
use Rattle.rules.specs.Image.{header_rows, state_rows}
use Rattle.rules.specs.Refusal.{accepted, refused}
use Rattle.rules.specs.Table.{first}
use Rattle.arrays.specs.Tables.{Fields, Later, LaterFields, fields}
use Rattle.arrays.proofs.Lists.{later_none, later_long}
use Rattle.image.proofs.Filling.{states_rows, Head, header, begun, by_header, by_states, by_transitions, by_none, states-count, all-states, transitions-count, none-counted, states-counted, transitions-counted}
use Rattle.image.specs.Read.{states_in, transitions_in}
use Rattle.taken.specs.Taken.{listed_rows}
use Rattle.taken.proofs.Taken.{at-header, header_few, items_most}
use Rattle.image.proofs.reading.fill.Goals as goal
use Rattle.image.proofs.reading.fill.Goals.{In_ok-heading, In_ok-states}

-- an array that nothing was stored in
same : (k : ℕ) (f : Fields) → k ≤ length f.from → k ≤ length f.to → k ≤ length f.low → k ≤ length f.high → LaterFields k f f
same k f a b c d = record { from = later_none k f.from a; to = later_none k f.to b; low = later_none k f.low c; high = later_none k f.high d }

-- what is known once the header is accepted
head : (c : In_ok-heading) → Head c.args.octets.now c.in_ok-heading.heading.states c.in_ok-heading.heading.transitions
head c =
    let h = c.in_ok-heading.ensures in
    record { rows = sym h.answer; states = h.states; transitions = h.transitions }

-- no row of a state holds
clear : (c : In_ok-states) → first (states_rows c.args.octets.now c.in_ok-heading.heading.states) ≡ accepted tt
clear c = sym c.in_ok-states.ensures.answer

pub returns-in_err-heading : goal.returns-in_err-heading
returns-in_err-heading c =
    let os = c.args.octets.now in
    let r = c.in_err-heading.field-0.0 in
    let h = c.in_err-heading.ensures in
    let e : first (header_rows os) ≡ refused r = sym h.answer in
    let z = none-counted os r e in
    let p = err_from_is_err_and c.from_residual.result c.from_residual.ensures.1 in
    rw (p.1, p.2) (record {
      read = record {
        rule = sym (by_header os r e);
        counts = tt;
        states = omega (arith, z.0);
        transitions = omega (arith, z.1);
        room = (omega arith, omega arith, omega arith, omega arith, omega arith, omega arith);
        bits = omega (arith, h.bits, at-header os r e);
        few = omega (arith, h.bits, header_few os);
      };
      marks = later_none (states_in os) _ (omega (arith, z.0));
      later_teams = later_none (states_in os) _ (omega (arith, z.0));
      later = same (transitions_in os) _ (omega (arith, z.1)) (omega (arith, z.1)) (omega (arith, z.1)) (omega (arith, z.1));
    })

pub states-requires : goal.states-requires
states-requires c =
    let h = head (goal.at.states-requires c).In_ok-heading in
    let k = header _ _ _ h in
    let r = c.in_ok-heading.ensures in
    (omega (arith, h.states, k), omega (arith, h.states, k), omega (arith, h.states, k), omega (arith, h.states, h.transitions, k), r.all, omega (arith, r.bits, begun _ _ _ h), r.version)

pub returns-in_err-states : goal.returns-in_err-states
returns-in_err-states c =
    let os = c.args.octets.now in
    let h = head (goal.at.returns-in_err-states c).In_ok-heading in
    let k = header _ _ _ h in
    let n = states-counted os _ _ h in
    let m = transitions-counted os _ _ h in
    let s = c.in_err-states.ensures in
    let r = c.in_err-states.field-0.0 in
    let e : first (states_rows os c.in_ok-heading.heading.states) ≡ refused r = sym s.answer in
    let b = c.in_ok-heading.ensures.bits in
    let p = err_from_is_err_and c.from_residual-in_err-states.result c.from_residual-in_err-states.ensures.1 in
    rw (p.1, p.2) (record {
      read = record {
        rule = sym (by_states os _ _ h r e);
        counts = tt;
        states = omega (arith, n, h.states, k);
        transitions = omega (arith, m, h.transitions, k);
        room = (
          later_long _ 512 _ _ s.later (omega (arith, h.states, k)) (omega arith),
          later_long _ 512 _ _ s.later_teams (omega (arith, h.states, k)) (omega arith),
          omega arith,
          omega arith,
          omega arith,
          omega arith,
        );
        bits = omega (arith, b, begun _ _ _ h, s.bits, states-count os _ _ h r e);
        few = omega (arith, b, begun _ _ _ h, s.bits, items_most (state_rows os) c.in_ok-heading.heading.states, h.states, k);
      };
      marks = subst (λ (i : ℕ). Later i c.args.marks.now c.states.new.marks) n s.later;
      later_teams = subst (λ (i : ℕ). Later i c.args.teams.now c.states.new.teams) n s.later_teams;
      later = same (transitions_in os) _ (omega (arith, m, h.transitions, k)) (omega (arith, m, h.transitions, k)) (omega (arith, m, h.transitions, k)) (omega (arith, m, h.transitions, k));
    })

pub transitions-requires-clause-n_bound : goal.transitions-requires-clause-n_bound
transitions-requires-clause-n_bound c =
    let h = head (goal.at.transitions-requires-clause-n_bound c).In_ok-heading in
    let s = c.in_ok-states.ensures in
    omega (arith, h.states, h.transitions, header _ _ _ h, s.all refl, s.bits, all-states _ _ _ h (clear (goal.at.transitions-requires-clause-n_bound c).In_ok-states), c.in_ok-heading.ensures.bits, begun _ _ _ h)

pub transitions-requires-clause-m_in_bounds : goal.transitions-requires-clause-m_in_bounds
transitions-requires-clause-m_in_bounds c =
    let h = head (goal.at.transitions-requires-clause-m_in_bounds c).In_ok-heading in
    omega (arith, h.transitions, header _ _ _ h)

pub returns-in_err-transitions : goal.returns-in_err-transitions
returns-in_err-transitions c =
    let os = c.args.octets.now in
    let q = c.requires in
    let h = head (goal.at.returns-in_err-transitions c).In_ok-heading in
    let k = header _ _ _ h in
    let n = states-counted os _ _ h in
    let m = transitions-counted os _ _ h in
    let s = c.in_ok-states.ensures in
    let t = c.in_err-transitions.ensures in
    let r = c.in_err-transitions.field-0.0 in
    let clear = clear (goal.at.returns-in_err-transitions c).In_ok-states in
    let x = c.in_ok-heading.heading in
    let b = c.in_ok-heading.ensures.bits in
    let p = err_from_is_err_and c.from_residual-in_err-transitions.result c.from_residual-in_err-transitions.ensures.1 in
    rw (p.1, p.2) (record {
      read = record {
        rule = sym (by_transitions os _ _ h clear r (sym t.answer));
        counts = tt;
        states = omega (arith, n, h.states, k);
        transitions = omega (arith, m, h.transitions, k);
        room = (
          later_long _ 512 _ _ s.later (omega (arith, h.states, k)) q.1,
          later_long _ 512 _ _ s.later_teams (omega (arith, h.states, k)) q.2,
          later_long _ 2048 _ _ t.later.from (omega (arith, h.transitions, k)) q.3,
          later_long _ 2048 _ _ t.later.to (omega (arith, h.transitions, k)) q.4,
          later_long _ 2048 _ _ t.later.low (omega (arith, h.transitions, k)) q.5,
          later_long _ 2048 _ _ t.later.high (omega (arith, h.transitions, k)) q.6,
        );
        bits = omega (arith, b, begun _ _ _ h, s.bits, all-states _ _ _ h clear, t.bits, transitions-count os _ _ h clear);
        few = omega (arith, b, begun _ _ _ h, s.bits, all-states _ _ _ h clear, t.bits, items_most (listed_rows os x.states) x.transitions, h.states, h.transitions, k);
      };
      marks = subst (λ (i : ℕ). Later i c.args.marks.now c.states.new.marks) n s.later;
      later_teams = subst (λ (i : ℕ). Later i c.args.teams.now c.states.new.teams) n s.later_teams;
      later = subst (λ (i : ℕ). LaterFields i (fields c.args.from.now c.args.to.now c.args.low.now c.args.high.now) (fields c.transitions.new.from c.transitions.new.to c.transitions.new.low c.transitions.new.high)) m t.later;
    })

pub returns : goal.returns
returns c =
    let os = c.args.octets.now in
    let q = c.requires in
    let h = head (goal.at.returns c).In_ok-heading in
    let k = header _ _ _ h in
    let n = states-counted os _ _ h in
    let m = transitions-counted os _ _ h in
    let s = c.in_ok-states.ensures in
    let t = c.in_ok-transitions.ensures in
    let st = c.states.new in
    let l = c.transitions.new in
    let clear = clear (goal.at.returns c).In_ok-states in
    let x = c.in_ok-heading.heading in
    let b = c.in_ok-heading.ensures.bits in
    record {
      read = record {
        rule = sym (by_none os _ _ h clear st.marks st.teams l.from l.to l.low l.high (sym t.answer) (s.states refl) (t.transitions refl));
        counts = (n, m);
        states = omega (arith, n, h.states, k);
        transitions = omega (arith, m, h.transitions, k);
        room = (
          later_long _ 512 _ _ s.later (omega (arith, h.states, k)) q.1,
          later_long _ 512 _ _ s.later_teams (omega (arith, h.states, k)) q.2,
          later_long _ 2048 _ _ t.later.from (omega (arith, h.transitions, k)) q.3,
          later_long _ 2048 _ _ t.later.to (omega (arith, h.transitions, k)) q.4,
          later_long _ 2048 _ _ t.later.low (omega (arith, h.transitions, k)) q.5,
          later_long _ 2048 _ _ t.later.high (omega (arith, h.transitions, k)) q.6,
        );
        bits = omega (arith, b, begun _ _ _ h, s.bits, all-states _ _ _ h clear, t.bits, transitions-count os _ _ h clear);
        few = omega (arith, b, begun _ _ _ h, s.bits, all-states _ _ _ h clear, t.bits, items_most (listed_rows os x.states) x.transitions, h.states, h.transitions, k);
      };
      marks = subst (λ (i : ℕ). Later i c.args.marks.now st.marks) n s.later;
      later_teams = subst (λ (i : ℕ). Later i c.args.teams.now st.teams) n s.later_teams;
      later = subst (λ (i : ℕ). LaterFields i (fields c.args.from.now c.args.to.now c.args.low.now c.args.high.now) (fields l.from l.to l.low l.high)) m t.later;
    }
