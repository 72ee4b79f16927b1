-- A list of calls on lent slices, made in turn. Each call keeps its promise on the slices, and they hold the very plan value that the rules' next value is
-- (`turned` of edits). So the loop's invariant goes on as a run of plan values does (`after_more`), and the slices stay those of before with a plan stored: a plan
-- stored over another one leaves nothing of it (`storing-twice`). Assumes nothing.
use mathlib.Core.Bool.{true}
use mathlib.Core.List.{List, [], ◌∷◌, ◌++◌}
use mathlib.Core.Path.{◌≡◌, refl, sym, ap, ◌∙◌}
use Prim.Native.Nat.{ℕ, ◌+◌, ◌<◌}
use native.Mathlib.Omega.{arith}
use lib.ListN.{length, drop, set, length-append}
use lib.Seq.{drop_at}
use Rattle.graph.specs.Graph.{Graph}
use Rattle.rules.specs.Calls.{Call, step}
use Rattle.rules.specs.Refusal.{Result, accepted, refused}
use Rattle.rules.proofs.Results.{code_answer}
use Rattle.arrays.specs.Tables.{over}
use Rattle.arrays.specs.declared.Plan.{Plan}
use Rattle.plan.specs.Promise.{next_value}
use Rattle.plan.specs.View.{view}
use Rattle.plan.specs.Laws.{Sized}
use Rattle.runs.proofs.Runs.{After, after_none, after_more}
use Rattle.slices.specs.Lent.{Roomy, Slices, has_room, plan_in, storing}
use Rattle.slices.proofs.Stores.{held_sized}
use Rattle.edits.specs.Lent.{next_slices, LentTurn}
use Rattle.edits.proofs.Rooms.{room_kept}

-- ---- a plan stored over another one

over-over : (xs ys zs : List ℕ) → length xs ≡ length ys → over xs (over ys zs) ≡ over xs zs
over-over xs ys zs e =
    ap {B = List ℕ} (λ (l : List ℕ). xs ++ l) (drop_at ys (drop (length ys) zs) (length xs) (sym e) ∙ ap (λ (k : ℕ). drop k zs) (sym e))

states-long : (p : Plan) → Sized p → length (p.marks ++ p.teams) ≡ 1024
states-long p z = omega (arith, length-append p.marks p.teams, z.marks, z.teams)

fields-long : (p : Plan) → Sized p → length (p.from ++ p.to ++ p.low ++ p.high) ≡ 8192
fields-long p z =
    omega (arith, length-append (p.from ++ p.to ++ p.low) p.high, length-append (p.from ++ p.to) p.low, length-append p.from p.to, z.from, z.to, z.low, z.high)

storing-twice : (p q : Plan) (s : Slices) → Sized p → Sized q → storing p (storing q s) ≡ storing p s
unfolding storing
storing-twice p q s y z =
    λ i. record {
      counts = over-over (p.states ∷ p.transitions ∷ []) (q.states ∷ q.transitions ∷ []) s.counts refl i;
      states = over-over (p.marks ++ p.teams) (q.marks ++ q.teams) s.states (states-long p y ∙ sym (states-long q z)) i;
      fields = over-over (p.from ++ p.to ++ p.low ++ p.high) (q.from ++ q.to ++ q.low ++ q.high) s.fields (fields-long p y ∙ sym (fields-long q z)) i;
    }

turn_whole : (s t lent : Slices) (o : Result Graph) → has_room s ≡ true → has_room t ≡ true → t ≡ next_slices (plan_in s) s o
    → plan_in t ≡ next_value (plan_in s) o → s ≡ storing (plan_in s) lent → t ≡ storing (plan_in t) lent
turn_whole s t lent (accepted g) h k e v w =
    e ∙ ap (λ (x : Plan). storing x s) (sym v) ∙ ap (storing (plan_in t)) w ∙ storing-twice (plan_in t) (plan_in s) lent (held_sized t k) (held_sized s h)
turn_whole s t lent (refused r) h k e v w = e ∙ w ∙ ap (λ (x : Plan). storing x lent) (sym v)

-- slices as long as others that have room for a plan
pub still_roomy : (c m f c' m' f' : List ℕ) → Roomy c m f → length c' ≡ length c → length m' ≡ length m → length f' ≡ length f → Roomy c' m' f'
still_roomy c m f c' m' f' r x y z = record { two = omega (arith, r.two); states = omega (arith, r.states); transitions = omega (arith, r.transitions) }

-- ---- the loop, over the calls f 0, f 1, ..

module _ (f : ℕ → Call) (before : List ℕ) (s : Slices) where
  -- after the first i of them, from the slices s
  pub record LentAfter (i : ℕ) (after : List ℕ) (t : Slices) : Type 0 where
    pub room : has_room t ≡ true
    pub run : After f (plan_in s) before i after (plan_in t)
    pub whole : (lent : Slices) → s ≡ storing (plan_in s) lent → t ≡ storing (plan_in t) lent

  pub lent_none : has_room s ≡ true → LentAfter 0 before s
  lent_none h = record { room = h; run = after_none f (plan_in s) before; whole = λ lent e. e }

  pub lent-more : (i : ℕ) (after : List ℕ) (t u : Slices) (r : ℕ) → i < length before → LentAfter i after t → LentTurn t u (f i) r
      → LentAfter (i + 1) (set after i r) u
  lent-more i after t u r l a x =
      let o : Result Graph = step (view (plan_in t)) (f i) in
      let k : has_room u ≡ true = room_kept (plan_in t) t u o r a.room x.edit in
      record {
        room = k;
        run = after_more f (plan_in s) before i after (plan_in t) (plan_in u) r l a.run (x.edit.answer a.room ∙ code_answer o) (x.value a.room);
        whole = λ lent e. turn_whole t u lent o a.room k (x.edit.whole a.room) (x.value a.room) (a.whole lent e);
      }
