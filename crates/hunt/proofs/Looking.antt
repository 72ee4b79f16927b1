-- The hunt for a dead end. A state is looked at (`Looked`) when it has a transition itself, if it was entered as a start, and when each unfinished
-- state that its transitions lead to has one. A state that was entered is a start, final or not, or it is unfinished and a transition leads to it from a state that
-- was entered: so when all were looked at, none is a dead end (`hunted_none`). Assumes nothing.
use mathlib.Core.List.{List}
use mathlib.Core.Logic.{inl, inr}
use mathlib.Core.Path.{◌≡◌, refl}
use Prim.Native.Nat.{ℕ, ◌<◌}
use native.Mathlib.Omega.{arith}
use Rattle.search.specs.Arrays.{Arrays, at, UnfinishedIn, Leaves}
use Rattle.search.specs.Chain.{none, First}
use Rattle.turns.specs.Search.{Rooted}
use Rattle.hunt.specs.Hunted.{Entered, NoDeadEnd}

-- a transition to an unfinished state that has a transition
abbrev pub Onward : Arrays → List ℕ → ℕ → Type 0
Onward A head t = UnfinishedIn A.marks (at A.to t) → at head (at A.to t) < none

-- a state that was looked at
pub record Looked (A : Arrays) (head via : List ℕ) (x : ℕ) : Type 0 where
  pub itself : at via x ≡ none → at head x < none
  pub behind : (t : ℕ) → t < A.m → at A.from t ≡ x → Onward A head t

module _ {A : Arrays} {head link rank via : List ℕ} (e : Entered A head link rank via) where
  first-at : (s : ℕ) → s < A.n → First A.from A.m 0 s (at head s)
  first-at s h = e.linked.chains.heads s (omega (arith, e.linked.bounded.states))

  -- a state without a first transition has none; and where there is one, it is below none
  pub none-leaves : (s : ℕ) → s < A.n → at head s ≡ none → (t : ℕ) → Leaves A s t → ⊥
  none-leaves s h q t l = (first-at s h).none_before t (omega arith) l.listed (omega (arith, l.listed, e.linked.bounded.count)) l.source

  pub head_below : (s : ℕ) → s < A.n → (at head s ≡ none → ⊥) → at head s < none
  head_below s h d = omega (arith, (first-at s h).most, d)

  first_of : (s : ℕ) → s < A.n → at head s < none → (t : ℕ) × Leaves A s t
  first_of s h l = let q = (first-at s h).listed l in (at head s, record { listed = q.1; source = q.2 })

  pub hunted_none : ((x : ℕ) → x < A.n → 0 < at rank x → Looked A head via x) → NoDeadEnd A rank
  hunted_none looked s h r = go (e.rooted s h r)
    where
      go : Rooted A rank via s → (t : ℕ) × Leaves A s t
      go (inl (q, b)) = first_of s h ((looked s h r).itself q)
      go (inr (l, q, p, u)) =
          let y = at A.from (at via s) in
          let there = (looked y (e.linked.bounded.leaves (at via s) l) p).behind (at via s) l refl (rw q u) in
          first_of s h (rw q at there)
