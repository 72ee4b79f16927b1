-- A quotation that is handed all of its places, or none where the answer's are too few, answers by its own rows as those with the row of the answer's places
-- behind them do (`rule-same`): where the answer's places are too few, no places are too few for a walk, and both rows say 11. A refusal leaves the places as they
-- were (`rest_kept`), and an accepted one was handed them all (`handed-all`, `handed-back`). Assumes nothing.
use mathlib.Core.Bool.{Bool, true, false}
use mathlib.Core.List.{List, [], ◌∷◌, ◌++◌, append-nil, append_assoc}
use mathlib.Core.Path.{◌≡◌, refl, sym, ap, ◌∙◌}
use Prim.Native.Nat.{ℕ, ◌≤◌}
use native.Mathlib.Omega.{arith}
use borrow.Author.Tests.{ltb-true, ltb-false, lt-ltb}
use lib.Dec.{ltb}
use lib.ListN.{length, take, drop, take-append-drop}
use lib.Seq.{take-length, drop-length}
use Rattle.rules.specs.Refusal.{accepted}
use Rattle.rules.specs.Rules.{buffer_row}
use Rattle.rules.specs.Table.{Row, first, NoneHolds}
use Rattle.rules.proofs.Tables.{accepted_only, none-append, tail-decides}
use Rattle.answers.specs.Handed.{Handed}

-- no more are handed over than were lent
pub handed-le : (walks out needed r : ℕ) → Handed walks out needed r → r ≤ walks
handed-le walks out needed r h = go (ltb out needed) refl
  where
    go : (b : Bool) → ltb out needed ≡ b → r ≤ walks
    go true e = omega (arith, h.none (ltb-true out needed e))
    go false e = omega (arith, h.whole (ltb-false out needed e))

-- the places that are handed over, and all of them afterwards, with what was left in those
abbrev pub part : ℕ → List ℕ → List ℕ
part end places = take end places

abbrev pub back : ℕ → List ℕ → List ℕ → List ℕ
back end places left = left ++ drop end places

module _ (places out : List ℕ) (needed end : ℕ) (h : Handed (length places) (length out) needed end) where
  -- a row of too few places, before the row of the answer's
  both : (n : ℕ) (few : Bool) → ltb (length out) needed ≡ few → 1 ≤ n
      → first (buffer_row (part end places) n ∷ []) ≡ first (buffer_row places n ∷ buffer_row out needed ∷ [])
  both n true e l =
      let z : end ≡ 0 = h.none (ltb-true (length out) needed e) in
      rw z (go (ltb (length places) n) refl)
    where
      go : (b : Bool) → ltb (length places) n ≡ b → first (buffer_row [] n ∷ []) ≡ first (buffer_row places n ∷ buffer_row out needed ∷ [])
      go true d = rw (d, lt-ltb 0 n l) refl
      go false d = rw (d, e, lt-ltb 0 n l) refl
  both n false e l =
      let z : end ≡ length places = h.whole (ltb-false (length out) needed e) in
      rw (z, take-length places) (go (ltb (length places) n) refl)
    where
      go : (b : Bool) → ltb (length places) n ≡ b → first (buffer_row places n ∷ []) ≡ first (buffer_row places n ∷ buffer_row out needed ∷ [])
      go true d = rw d refl
      go false d = rw (d, e) refl

  pub rule-same : (xs : List Row) (n : ℕ) → (NoneHolds xs → 1 ≤ n)
      → first (xs ++ (buffer_row (part end places) n ∷ [])) ≡ first (xs ++ (buffer_row places n ∷ []) ++ (buffer_row out needed ∷ []))
  rule-same xs n l =
      tail-decides xs (buffer_row (part end places) n ∷ []) (buffer_row places n ∷ buffer_row out needed ∷ []) (λ k. both n (ltb (length out) needed) refl (l k))
      ∙ ap first (sym (append_assoc xs (buffer_row places n ∷ []) (buffer_row out needed ∷ [])))

  -- where the rows with the answer's places accept, these are enough
  pub enough : (xs : List Row) → first (xs ++ (buffer_row out needed ∷ [])) ≡ accepted tt → needed ≤ length out
  enough xs e =
      ltb-false (length out) needed (none-append xs (buffer_row out needed ∷ []) (accepted_only (xs ++ (buffer_row out needed ∷ [])) tt tt e).0).1.0

  module _ (l : needed ≤ length out) where
    pub handed-all : part end places ≡ places
    handed-all = rw (h.whole l) (take-length places)

    pub handed-back : (left : List ℕ) → back end places left ≡ left
    handed-back left = rw (h.whole l, drop-length places) (append-nil left)

-- what was handed over and left as it was leaves all as it was
pub rest_kept : (end : ℕ) (places left : List ℕ) → left ≡ part end places → back end places left ≡ places
rest_kept end places left e = ap (λ (z : List ℕ). z ++ drop end places) e ∙ take-append-drop end places
