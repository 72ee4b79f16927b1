-- The fields of the counts and the arrays, put one after another at the front of a buffer, leave the image there, and the rest. Assumes nothing.
use mathlib.Core.List.{List, ◌++◌}
use mathlib.Core.Path.{◌≡◌, sym, ap₂, ◌∙◌}
use Prim.Native.Nat.{ℕ, ◌+◌, ◌*◌, ◌≤◌}
use native.Mathlib.Omega.{arith}
use lib.ListN.{length, drop}
use Rattle.field.specs.Field.{Field, Octets, put_all}
use Rattle.graph.specs.Graph.{Graph}
use Rattle.rules.specs.Image.{image, image_length, header_fields, state_fields, transition_fields, fields_of_each}
use Rattle.rules.proofs.ReadWrite.{put-image}
use Rattle.arrays.specs.Tables.{graph_of, states_of, transitions_of}
use Rattle.arrays.proofs.Lists.{states_of_lem, count_of}

pub put-arrays : (n m : ℕ) (marks teams from to low high : List ℕ) (b : List ℕ) → Octets b → image_length n m ≤ length b
    → put_all
    (put_all (put_all b 0 (header_fields 2 n m)) 32 (fields_of_each state_fields (states_of n marks teams)))
    (32 + 8 * n) (fields_of_each transition_fields (transitions_of m from to low high))
    ≡ image (graph_of n m marks teams from to low high) ++ drop (image_length n m) b
put-arrays n m marks teams from to low high b ho h =
    let g : Graph = graph_of n m marks teams from to low high in
    let es = states_of_lem n m marks teams from to low high in
    let et = count_of n m marks teams from to low high in
    let S : List Field = fields_of_each state_fields (states_of n marks teams) in
    let T : List Field = fields_of_each transition_fields (transitions_of m from to low high) in
    ap₂ (λ (n m : ℕ). put_all (put_all (put_all b 0 (header_fields 2 n m)) 32 S) (32 + 8 * n) T) (sym es) (sym et)
    ∙ put-image g b ho (omega (arith, es, et))
    ∙ ap₂ (λ (n m : ℕ). image g ++ drop (image_length n m) b) es et
