-- `imported::mark_initial`: the first n places are zeros, of marks and of teams; then one mark is stored. Assumes nothing.
use Prim.Native.Nat.{ℕ, ◌-◌, ◌≤◌, ◌<◌}
use mathlib.Core.List.{List, ◌++◌}
use mathlib.Core.Logic.{◌≢◌, ◌⊎◌, inl, inr}
use mathlib.Core.Path.{◌≡◌, sym, ap, ap₂, ◌∙◌}
use native.Mathlib.Omega.{arith}
use lib.ListN.{length, get_or, set, take, drop, replicate, length-set, length-append, length-drop, length-replicate, get_or-append, get_or-replicate}
use lib.Seq.{length-take-le, get_or-set_same, get_or-set_other}
use Rattle.graph.specs.Graph.{State, state_with, marked}
use Rattle.rules.proofs.Tabulated.{tabulate_of}
use Rattle.arrays.specs.Tables.{state_of}
use Rattle.arrays.proofs.Lists.{same_or_not}
use Rattle.imported.specs.Import.{Marked}
use Rattle.imported.proofs.mark_initial.Goals as goal

-- n places of which all are 0, and one of them stored
marked_all : (n initial : ℕ) (marks teams : List ℕ) → 512 ≤ length marks → 512 ≤ length teams → n ≤ 512 → initial < n
    → ((k : ℕ) → k < n → get_or marks k 0 ≡ 0) → ((k : ℕ) → k < n → get_or teams k 0 ≡ 0) → Marked n initial (set marks initial 4) teams
marked_all n initial marks teams room teams_room small below zeros none =
    record {
      states = tabulate_of (marked 0) (set all initial (marked 4)) n (state_of (set marks initial 4) teams) (length-set all initial (marked 4) ∙ length-replicate n (marked 0)) each;
      room = rw (length-set marks initial 4) room;
      teams_room = teams_room;
    }
  where
    all : List State
    all = replicate n (marked 0)

    go : (k : ℕ) → k < n → (k ≡ initial) ⊎ (k ≢ initial) → get_or (set all initial (marked 4)) k (marked 0) ≡ state_of (set marks initial 4) teams k
    go k h (inl e) =
        ap (λ (j : ℕ). get_or (set all initial (marked 4)) j (marked 0)) e ∙ get_or-set_same all initial (marked 4) (marked 0) (rw (length-replicate n (marked 0)) below)
        ∙ ap₂ state_with (sym (ap (λ (j : ℕ). get_or (set marks initial 4) j 0) e ∙ get_or-set_same marks initial 4 0 (omega (arith, room, small, below)))) (sym (none k h))
    go k h (inr d) =
        get_or-set_other all initial k (marked 4) (marked 0) d ∙ get_or-replicate n k (marked 0) (marked 0) h
        ∙ ap₂ state_with (sym (get_or-set_other marks initial k 4 0 d ∙ zeros k h)) (sym (none k h))

    each : (k : ℕ) → k < n → get_or (set all initial (marked 4)) k (marked 0) ≡ state_of (set marks initial 4) teams k
    each k h = go k h (same_or_not k initial)

-- a list of which the first n places became zeros
zeroed : (n : ℕ) (xs zeros : List ℕ) → n ≤ length xs → zeros ≡ replicate (length (take n xs)) 0
    → (length (zeros ++ drop n (drop 0 xs)) ≡ length xs) × ((k : ℕ) → k < n → get_or (zeros ++ drop n (drop 0 xs)) k 0 ≡ 0)
zeroed n xs zeros h e =
    let front : length zeros ≡ n = ap length e ∙ length-replicate (length (take n xs)) 0 ∙ length-take-le n xs h in
    let rest : length (drop n (drop 0 xs)) ≡ length xs - n = length-drop n (drop 0 xs) in (
      length-append zeros (drop n (drop 0 xs)) ∙ (omega (arith, front, rest)),
      λ k i. get_or-append zeros (drop n (drop 0 xs)) 0 k (omega (arith, front)) ∙ ap (λ (l : List ℕ). get_or l k 0) e
          ∙ get_or-replicate (length (take n xs)) k 0 0 (omega (arith, length-take-le n xs h)),
    )

pub returns : goal.returns
returns c =
    let a = c.args in
    let p = c.requires in
    let m = zeroed a.n a.marks.now c.fill.new.self (omega arith) (c.fill.ensures.after (λ y e. e)) in
    let t = zeroed a.n a.teams.now c.fill-2.new.self (omega arith) (c.fill-2.ensures.after (λ y e. e)) in
    marked_all a.n a.initial _ _ (omega (arith, m.0)) (omega (arith, t.0)) p.2 p.3 m.1 t.1
