-- A call leaves the slices as long as they were, so what has room for a plan keeps it (`room_kept`). Assumes nothing.
use mathlib.Core.Bool.{true}
use mathlib.Core.List.{List, [], ◌∷◌, ◌++◌}
use mathlib.Core.Path.{◌≡◌, ap, ◌∙◌}
use Prim.Native.Nat.{ℕ, ◌≤◌}
use native.Mathlib.Omega.{arith}
use lib.ListN.{length, drop, length-append, length-drop}
use Rattle.graph.specs.Graph.{Graph}
use Rattle.rules.specs.Refusal.{Result, accepted, refused}
use Rattle.arrays.specs.Tables.{over}
use Rattle.arrays.specs.declared.Plan.{Plan}
use Rattle.plan.specs.View.{laid}
use Rattle.slices.specs.Lent.{Slices, has_room, storing}
use Rattle.slices.proofs.Stores.{has_room_lem, room_of}
use Rattle.edits.specs.Lent.{next_slices, LentEdit}

over-long : (k : ℕ) (xs ys : List ℕ) → k ≤ length ys → k ≤ length (over xs ys)
over-long k xs ys h = omega (arith, length-append xs (drop (length xs) ys), length-drop (length xs) ys)

next_room : (p : Plan) (s : Slices) (o : Result Graph) → has_room s ≡ true → has_room (next_slices p s o) ≡ true
unfolding storing
next_room p s (accepted g) h =
    let r = has_room_lem s.counts s.states s.fields h in
    let q = laid p g in
    room_of (next_slices p s (accepted g))
    (record {
      two = over-long 2 (q.states ∷ q.transitions ∷ []) s.counts r.two;
      states = over-long 1024 (q.marks ++ q.teams) s.states r.states;
      transitions = over-long 8192 (q.from ++ q.to ++ q.low ++ q.high) s.fields r.transitions;
    })
next_room p s (refused k) h = h

-- slices that have room for a plan have it after the call
pub room_kept : (p : Plan) (s t : Slices) (o : Result Graph) (r : ℕ) → has_room s ≡ true → LentEdit p s t o r → has_room t ≡ true
room_kept p s t o r h x = ap has_room (x.whole h) ∙ next_room p s o h
