-- A plan value stored up to its counts is stored whole where its later places are the slices' own: to copy them too would change nothing (`rest_same`), and a copy
-- leaves what stands behind it (`past`). Assumes nothing.
use mathlib.Core.List.{List, ◌++◌, append_assoc}
use mathlib.Core.Path.{◌≡◌, sym, ap, ap₂, ◌∙◌}
use Prim.Native.Nat.{ℕ, ◌+◌, ◌-◌, ◌≤◌}
use native.Mathlib.Omega.{arith}
use lib.ListN.{length, take, drop, set, length-drop, take-append-drop}
use lib.Seq.{paste, drop-paste, drop-drop, drop-append-le, take_all, length-take-le, length-paste}
use Rattle.arrays.specs.declared.Plan.{Plan}
use Rattle.plan.specs.Laws.{Sized}
use Rattle.slices.specs.Lent.{Roomy, slices, plan_in, storing, SameLater}
use Rattle.slices.proofs.Stores.{stored}

rest_same : (d s : List ℕ) (at n w : ℕ) → length s ≡ w → n ≤ w → at + w ≤ length d → drop n s ≡ drop n (take w (drop at d)) → paste d at s n ≡ paste d at s w
rest_same d s at n w es l h e =
    let r : List ℕ = drop w (drop at d) in
    let k : length (take w (drop at d)) ≡ w = length-take-le w (drop at d) (omega (arith, length-drop at d)) in
    let behind : drop (at + n) d ≡ drop n s ++ drop (at + w) d =
    sym (drop-drop n at d) ∙ ap (drop n) (sym (take-append-drop w (drop at d))) ∙ drop-append-le n (take w (drop at d)) r (omega arith)
    ∙ ap₂ {C = List ℕ} (λ (x y : List ℕ). x ++ y) (sym e) (drop-drop w at d) in
    ap {B = List ℕ} (λ (x : List ℕ). take at d ++ take n s ++ x) behind
    ∙ sym (append_assoc (take at d ++ take n s) (drop n s) (drop (at + w) d))
    ∙ ap {B = List ℕ} (λ (x : List ℕ). x ++ drop (at + w) d)
    (append_assoc (take at d) (take n s) (drop n s) ∙ ap {B = List ℕ} (λ (x : List ℕ). take at d ++ x) (take-append-drop n s ∙ sym (take_all w s (omega arith))))

past : (d s : List ℕ) (at n k : ℕ) → at ≤ length d → n ≤ length s → at + n ≤ k → drop k (paste d at s n) ≡ drop k d
past d s at n k hd hs l =
    let j : ℕ = k - (at + n) in
    let e : at + n + j ≡ k = omega arith in
    ap (λ (i : ℕ). drop i (paste d at s n)) (sym e) ∙ sym (drop-drop j (at + n) (paste d at s n)) ∙ ap (drop j) (drop-paste d at s n hd hs)
    ∙ drop-drop j (at + n) d ∙ ap (λ (i : ℕ). drop i d) e

module _ (p : Plan) (z : Sized p) (c m f : List ℕ) (room : Roomy c m f) (same : SameLater p (slices c m f)) where
  abbrev S₁ : List ℕ
  S₁ = paste m 0 p.marks p.states

  abbrev M : ℕ
  M = p.transitions

  abbrev F₁ : List ℕ
  F₁ = paste f 0 p.from M

  abbrev F₂ : List ℕ
  F₂ = paste F₁ 2048 p.to M

  abbrev F₃ : List ℕ
  F₃ = paste F₂ 4096 p.low M

  long-marks : length S₁ ≡ length m
  long-marks = length-paste m 0 p.marks p.states (omega (arith, same.states, room.states)) (omega (arith, same.states, z.marks))

  long₁ : length F₁ ≡ length f
  long₁ = length-paste f 0 p.from M (omega (arith, same.transitions, room.transitions)) (omega (arith, same.transitions, z.from))

  long₂ : length F₂ ≡ length f
  long₂ = length-paste F₁ 2048 p.to M (omega (arith, same.transitions, room.transitions, long₁)) (omega (arith, same.transitions, z.to)) ∙ long₁

  long₃ : length F₃ ≡ length f
  long₃ = length-paste F₂ 4096 p.low M (omega (arith, same.transitions, room.transitions, long₂)) (omega (arith, same.transitions, z.low)) ∙ long₂

  behind_marks : drop 512 S₁ ≡ drop 512 m
  behind_marks = past m p.marks 0 p.states 512 (omega arith) (omega (arith, same.states, z.marks)) (omega (arith, same.states))

  behind₁ : (k : ℕ) → 2048 ≤ k → drop k F₁ ≡ drop k f
  behind₁ k l = past f p.from 0 M k (omega arith) (omega (arith, same.transitions, z.from)) (omega (arith, same.transitions))

  behind₂ : (k : ℕ) → 4096 ≤ k → drop k F₂ ≡ drop k f
  behind₂ k l = past F₁ p.to 2048 M k (omega (arith, long₁, room.transitions)) (omega (arith, same.transitions, z.to)) (omega (arith, same.transitions)) ∙ behind₁ k (omega arith)

  behind₃ : (k : ℕ) → 6144 ≤ k → drop k F₃ ≡ drop k f
  behind₃ k l = past F₂ p.low 4096 M k (omega (arith, long₂, room.transitions)) (omega (arith, same.transitions, z.low)) (omega (arith, same.transitions)) ∙ behind₂ k (omega arith)

  -- what was copied up to the counts is what `store` copies
  pub fronts_stored : (m' f' : List ℕ) → m' ≡ paste S₁ 512 p.teams p.states → f' ≡ paste F₃ 6144 p.high M
      → (slices (set (set c 0 p.states) 1 p.transitions) m' f' ≡ storing p (slices c m f)) × (plan_in (slices (set (set c 0 p.states) 1 p.transitions) m' f') ≡ p)
  fronts_stored m' f' em ef =
      let T : List ℕ → List ℕ = λ l. take 2048 l in
      let marks : S₁ ≡ paste m 0 p.marks 512 = rest_same m p.marks 0 p.states 512 z.marks same.states (omega (arith, room.states)) same.marks in
      let teams : paste S₁ 512 p.teams p.states ≡ paste S₁ 512 p.teams 512 =
      rest_same S₁ p.teams 512 p.states 512 z.teams same.states (omega (arith, room.states, long-marks)) (same.teams ∙ ap (λ (l : List ℕ). drop p.states (take 512 l)) (sym behind_marks)) in
      let one : F₁ ≡ paste f 0 p.from 2048 = rest_same f p.from 0 M 2048 z.from same.transitions (omega (arith, room.transitions)) same.from in
      let two : F₂ ≡ paste F₁ 2048 p.to 2048 =
      rest_same F₁ p.to 2048 M 2048 z.to same.transitions (omega (arith, room.transitions, long₁)) (same.to ∙ ap (λ (l : List ℕ). drop M (take 2048 l)) (sym (behind₁ 2048 (omega arith)))) in
      let three : F₃ ≡ paste F₂ 4096 p.low 2048 =
      rest_same F₂ p.low 4096 M 2048 z.low same.transitions (omega (arith, room.transitions, long₂)) (same.low ∙ ap (λ (l : List ℕ). drop M (take 2048 l)) (sym (behind₂ 4096 (omega arith)))) in
      let four : paste F₃ 6144 p.high M ≡ paste F₃ 6144 p.high 2048 =
      rest_same F₃ p.high 6144 M 2048 z.high same.transitions (omega (arith, room.transitions, long₃)) (same.high ∙ ap (λ (l : List ℕ). drop M (take 2048 l)) (sym (behind₃ 6144 (omega arith)))) in
      stored p z c m f m' f' room (em ∙ teams ∙ ap (λ (l : List ℕ). paste l 512 p.teams 512) marks)
      (ef ∙ four
      ∙ ap (λ (l : List ℕ). paste l 6144 p.high 2048) (three ∙ ap (λ (l : List ℕ). paste l 4096 p.low 2048) (two ∙ ap (λ (l : List ℕ). paste l 2048 p.to 2048) one)))
