-- What lent slices hold once a plan value is stored in them. A stored plan value is read back whole: each part stands at its own places, and the
-- copies that follow it go elsewhere. Assumes nothing.
use mathlib.Core.Bool.{Bool, true, false, ◌&&◌}
use mathlib.Core.List.{List, [], ◌∷◌, ◌++◌, append_assoc}
use mathlib.Core.Path.{◌≡◌, refl, ap, ◌∙◌}
use Prim.Native.Nat.{ℕ, ◌+◌, ◌≤◌}
use native.Mathlib.Omega.{arith}
use borrow.Author.Tests.{leb-true, le-leb}
use lib.Dec.{leb}
use lib.ListN.{length, take, drop, set, length-drop}
use lib.Seq.{paste, take_at, length-take-le}
use Rattle.rules.proofs.Results.{and_true, both_true}
use Rattle.arrays.specs.Tables.{over}
use Rattle.arrays.proofs.Copies.{paste_over, part, two, three, four_copied}
use Rattle.arrays.specs.declared.Plan.{Plan}
use Rattle.plan.specs.Laws.{Sized}
use Rattle.slices.specs.Lent.{Roomy, roomy, Slices, slices, has_room, plan_in, storing}

-- the counts set one after the other
counts_stored : (c : List ℕ) (n k : ℕ) → 2 ≤ length c → set (set c 0 n) 1 k ≡ over (n ∷ k ∷ []) c
counts_stored [] n k h = absurd (omega arith)
counts_stored (a ∷ []) n k h = absurd (omega arith)
counts_stored (a ∷ b ∷ c) n k h = refl

module _ (p : Plan) (z : Sized p) where
  -- the first two fields, and the first three
  front : length (p.from ++ p.to) ≡ 4096
  front = two p.from p.to p.low p.high 2048 z.from z.to z.low z.high

  middle : length (p.from ++ p.to ++ p.low) ≡ 6144
  middle = three p.from p.to p.low p.high 2048 z.from z.to z.low z.high

  -- a stored plan value is read back whole
  pub stored_back : (s : Slices) → plan_in (storing p s) ≡ p
  unfolding storing
  stored_back s =
      let F = p.from in
      let T = p.to in
      let L = p.low in
      let H = p.high in
      let r : List ℕ = drop (length (F ++ T ++ L ++ H)) s.fields in
      let q : List ℕ = drop (length (p.marks ++ p.teams)) s.states in
      let at : (k : ℕ) (l : List ℕ) → F ++ T ++ L ++ H ++ r ≡ l → take 2048 (drop k (F ++ T ++ L ++ H ++ r)) ≡ take 2048 (drop k l) =
      λ k l e. ap (λ (x : List ℕ). take 2048 (drop k x)) e in
      λ i. record {
        states = p.states;
        transitions = p.transitions;
        marks = (ap (λ (x : List ℕ). take 512 x) (append_assoc p.marks p.teams q) ∙ take_at p.marks (p.teams ++ q) 512 z.marks) i;
        teams = (ap (λ (x : List ℕ). take 512 (drop 512 x)) (append_assoc p.marks p.teams q) ∙ part p.marks p.teams q 512 512 z.marks z.teams) i;
        from = (at 0 (F ++ (T ++ (L ++ (H ++ r)))) (simp append_assoc) ∙ take_at F (T ++ (L ++ (H ++ r))) 2048 z.from) i;
        to = (at 2048 (F ++ (T ++ (L ++ (H ++ r)))) (simp append_assoc) ∙ part F T (L ++ (H ++ r)) 2048 2048 z.from z.to) i;
        low = (at 4096 (F ++ T ++ (L ++ (H ++ r))) (simp append_assoc) ∙ part (F ++ T) L (H ++ r) 4096 2048 front z.low) i;
        high = (at 6144 (F ++ T ++ L ++ (H ++ r)) (simp append_assoc) ∙ part (F ++ T ++ L) H r 6144 2048 middle z.high) i;
      }

  pub stored : (c m f m' f' : List ℕ) → Roomy c m f → m' ≡ paste (paste m 0 p.marks 512) 512 p.teams 512
      → f' ≡ paste (paste (paste (paste f 0 p.from 2048) 2048 p.to 2048) 4096 p.low 2048) 6144 p.high 2048
      → (slices (set (set c 0 p.states) 1 p.transitions) m' f' ≡ storing p (slices c m f)) × (plan_in (slices (set (set c 0 p.states) 1 p.transitions) m' f') ≡ p)
  unfolding storing
  stored c m f m' f' room em ef =
      let e : slices (set (set c 0 p.states) 1 p.transitions) m' f' ≡ storing p (slices c m f) =
      λ i. record {
        counts = counts_stored c p.states p.transitions room.two i;
        states =
            (em ∙ ap (λ (l : List ℕ). paste l 512 p.teams 512) (paste_over m [] p.marks 0 512 refl z.marks)
            ∙ paste_over m p.marks p.teams 512 512 z.marks z.teams) i;
        fields = (ef ∙ four_copied p.from p.to p.low p.high 2048 z.from z.to z.low z.high f) i;
      } in
      (e, ap plan_in e ∙ stored_back (slices c m f))

-- ---- room

pub has_room_lem : (c m f : List ℕ) → roomy (length c) (length m) (length f) ≡ true → Roomy c m f
has_room_lem c m f e =
    let a = and_true (leb 2 (length c)) (leb 1024 (length m) && leb 8192 (length f)) e in
    let b = and_true (leb 1024 (length m)) (leb 8192 (length f)) a.1 in
    record { two = leb-true 2 (length c) a.0; states = leb-true 1024 (length m) b.0; transitions = leb-true 8192 (length f) b.1 }

pub room_of : (s : Slices) → Roomy s.counts s.states s.fields → has_room s ≡ true
room_of s r =
    both_true (leb 2 (length s.counts)) (leb 1024 (length s.states) && leb 8192 (length s.fields)) (le-leb 2 (length s.counts) r.two)
    (both_true (leb 1024 (length s.states)) (leb 8192 (length s.fields)) (le-leb 1024 (length s.states) r.states) (le-leb 8192 (length s.fields) r.transitions))

-- slices with room hold a plan value with arrays as long as a plan's
pub held_sized : (s : Slices) → has_room s ≡ true → Sized (plan_in s)
held_sized s h =
    let r = has_room_lem s.counts s.states s.fields h in
    let at : (k : ℕ) → k + 2048 ≤ 8192 → length (take 2048 (drop k s.fields)) ≡ 2048 =
    λ k l. length-take-le 2048 (drop k s.fields) (omega (arith, length-drop k s.fields, r.transitions)) in
    record {
      marks = length-take-le 512 s.states (omega (arith, r.states));
      teams = length-take-le 512 (drop 512 s.states) (omega (arith, length-drop 512 s.states, r.states));
      from = at 0 (omega arith);
      to = at 2048 (omega arith);
      low = at 4096 (omega arith);
      high = at 6144 (omega arith);
    }

-- a test does not come out both ways: slices have room, or they have none
pub true-false : {A : Type 0} (b : Bool) → b ≡ true → b ≡ false → A
true-false b p q = absurd (let z : ◌≡◌ {A = ℕ} 0 1 = cc in omega arith)
