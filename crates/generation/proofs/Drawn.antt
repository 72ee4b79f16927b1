-- Transitions drawn into arrays. Four draws of the ring make transition i (`added`). Stored at place i it leaves the earlier ones, and every place from m on is as it was; so after i turns the first i
-- places hold the first i transitions, and the ring stands after their draws (`Kept`: `kept-none`, `kept_more`), until there are m (`kept-all`). Assumes nothing.
use mathlib.Core.List.{List}
use mathlib.Core.Logic.{◌⊎◌, inl, inr}
use mathlib.Core.Path.{◌≡◌, ap, ◌∙◌}
use Prim.Native.Nat.{ℕ, ◌+◌, ◌*◌, ◌≤◌, ◌<◌}
use native.Mathlib.Omega.{arith}
use native.Mathlib.Nat.{eq-or-lt_of_le}
use lib.ListN.{length-set}
use Rattle.graph.specs.Graph.{Transition}
use Rattle.arrays.specs.Tables.{transition_of, LaterFields, Fields as Arrays}
use Rattle.arrays.proofs.Lists.{later_none, later_set, transition-other, transition-here}
use Rattle.generated.specs.Generated.{transition_from, transition_drawn}
use Rattle.generator.specs.declared.Draws.{Draws}
use Rattle.generator.specs.Ring.{Ring, DrawsFour}
use Rattle.drawing.specs.declared.Fields.{Fields}
use Rattle.drawing.specs.Drawing.{meant}
use Rattle.generation.specs.Drawn.{Room, stored, Added, Drawn}

pub added : (n i : ℕ) (ring ring' : List ℕ) (before : Arrays) (d : Draws) (f : Fields) → DrawsFour i ring ring' d → meant f ≡ transition_from n d.first d.second d.third d.fourth
    → Added n i ring ring' before (stored i (meant f) before)
unfolding transition_drawn
added n i ring ring' before d f four e s h =
    let (same, later) = four s h in
    let t : meant f ≡ transition_drawn s n i = e ∙ ap (λ (x : Draws). transition_from n x.first x.second x.third x.fourth) same in
    (ap (λ (x : Transition). stored i x before) t, later)

-- the first i of m transitions are drawn
pub record Kept (s n m i : ℕ) (ring : List ℕ) (before after : Arrays) : Type 0 where
  pub draws : Ring s (4 * i) ring
  pub each : (j : ℕ) → j < i → transition_of after.from after.to after.low after.high j ≡ transition_drawn s n j
  pub later : LaterFields m before after
  pub room : Room after

pub kept-none : (s n m : ℕ) (ring : List ℕ) (f : Arrays) → Ring s 0 ring → m ≤ 2048 → Room f → Kept s n m 0 ring f f
kept-none s n m ring f h l r =
    record {
      draws = h;
      each = λ j k. absurd (omega arith);
      later =
          record {
            from = later_none m f.from (omega (arith, r.from));
            to = later_none m f.to (omega (arith, r.to));
            low = later_none m f.low (omega (arith, r.low));
            high = later_none m f.high (omega (arith, r.high));
          };
      room = r;
    }

module _ (s n m i : ℕ) (ring ring' : List ℕ) (before now after : Arrays) (k : Kept s n m i ring before now) (x : Added n i ring ring' now after) (l : i < m) (u : m ≤ 2048) where
  t : Transition
  t = transition_drawn s n i

  abbrev next : Arrays
  next = stored i t now

  kept-each : (j : ℕ) → (j ≡ i) ⊎ (j < i) → transition_of next.from next.to next.low next.high j ≡ transition_drawn s n j
  unfolding t
  kept-each j (inl e) =
      rw e (transition-here now.from now.to now.low now.high i t.from t.to t.low t.high (omega (arith, k.room.from)) (omega (arith, k.room.to)) (omega (arith, k.room.low)) (omega (arith, k.room.high)))
  kept-each j (inr h) =
      transition-other now.from now.to now.low now.high i t.from t.to t.low t.high j (λ e. omega arith) ∙ k.each j h

  kept_next : Ring s (4 * (i + 1)) ring' → Kept s n m (i + 1) ring' before next
  kept_next h =
      record {
        draws = h;
        each = λ j b. kept-each j (eq-or-lt_of_le (omega arith));
        later =
            record {
              from = later_set m before.from now.from i t.from l k.later.from;
              to = later_set m before.to now.to i t.to l k.later.to;
              low = later_set m before.low now.low i t.low l k.later.low;
              high = later_set m before.high now.high i t.high l k.later.high;
            };
        room =
            record {
              from = rw (length-set now.from i t.from) k.room.from;
              to = rw (length-set now.to i t.to) k.room.to;
              low = rw (length-set now.low i t.low) k.room.low;
              high = rw (length-set now.high i t.high) k.room.high;
            };
      }

  pub kept_more : Kept s n m (i + 1) ring' before after
  unfolding t
  kept_more =
      let (e, h) = x s k.draws in
      rw e (kept_next h)

pub kept-all : (s n m i : ℕ) (ring : List ℕ) (before after : Arrays) → Kept s n m i ring before after → i ≡ m → Drawn s n m before after
kept-all s n m i ring before after k e = record { each = λ j h. k.each j (omega arith); later = k.later }
