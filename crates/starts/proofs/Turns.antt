-- The turns of the count: a state that is marked start is one more, and the only one where there was none before; any other changes nothing. And the starts of
-- the plan that arrays hold are those of its marks values. Assumes nothing.
use Prim.Native.Nat.{ℕ, zero, suc, ◌+◌, ◌<◌}
use mathlib.Core.Bool.{Bool, true, false, cond}
use mathlib.Core.List.{List, [], ◌∷◌, ◌++◌, append-nil}
use mathlib.Core.Path.{◌≡◌, refl, ap, ap₂, ◌∙◌}
use native.Mathlib.Omega.{arith}
use lib.ListN.{get_or, length-append}
use Rattle.graph.specs.Graph.{Graph, marked, State, marks_of, start, start_mark}
use Rattle.rules.specs.Aldebaran.{passing, starts}
use Rattle.rules.proofs.ImportExport.{empty}
use Rattle.rules.proofs.Tabulated.{get_d_tabulate}
use Rattle.arrays.specs.Tables.{state_of, graph_of}
use Rattle.arrays.proofs.Lists.{states_of_lem}
use Rattle.starts.specs.Found.{starts_in, Found}

pub found_none : (marks : List ℕ) → Found (starts_in marks 0) 0 0 0
unfolding passing
found_none marks = record { counted = refl; few = omega arith; within = omega arith; only = λ e. absurd (omega arith) }

module _ (marks : List ℕ) (k count last : ℕ) (f : Found (starts_in marks k) k count last) where
  pub found_more : start_mark (get_or marks k 0) ≡ true → Found (starts_in marks (suc k)) (suc k) (count + 1) k
  unfolding passing
  found_more e =
      rw e
      record {
        counted = omega (arith, f.counted, length-append (starts_in marks k) (k ∷ []));
        few = omega (arith, f.few);
        within = omega arith;
        only = λ q. ap (λ (l : List ℕ). l ++ (k ∷ [])) (empty (starts_in marks k) (omega (arith, f.counted)));
      }

  pub found_same : start_mark (get_or marks k 0) ≡ false → Found (starts_in marks (suc k)) (suc k) count last
  unfolding passing
  found_same e =
      rw (e, append-nil (starts_in marks k))
      record { counted = f.counted; few = omega (arith, f.few); within = omega (arith, f.within); only = f.only }

-- tests that agree below k hold of the same numbers
passing-same : (f g : ℕ → Bool) (k : ℕ) → ((i : ℕ) → i < k → f i ≡ g i) → passing f k ≡ passing g k
unfolding passing
passing-same f g zero h = refl
passing-same f g (suc k) h =
    ap₂ {C = List ℕ} (λ (l : List ℕ) (b : Bool). l ++ cond b (k ∷ []) []) (passing-same f g k (λ i l. h i (omega (arith, l)))) (h k (omega arith))

-- the starts of the plan that arrays hold
pub starts_of : (n m : ℕ) (marks teams from to low high : List ℕ) → starts (graph_of n m marks teams from to low high) ≡ starts_in marks n
unfolding start marks_of
starts_of n m marks teams from to low high =
    let g : Graph = graph_of n m marks teams from to low high in
    ap (λ (k : ℕ). passing (start g) k) (states_of_lem n m marks teams from to low high)
    ∙ passing-same (start g) (λ (i : ℕ). start_mark (get_or marks i 0)) n
    (λ i l. ap (λ (s : State). start_mark s.marks) (get_d_tabulate n (state_of marks teams) i (marked 0) l))
