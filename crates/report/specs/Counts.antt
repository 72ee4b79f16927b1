-- Procedures mincount and maxcount, figures 5 and 6 of CMU-CS-94-147, each line of the figures beside its own words.
--
-- "the algorithm for the maximum count, given in figure 6, has the same structure and can be obtained by replacing min
-- with max and reversing the inequalities" (section 5, last paragraph). So the figures are written once, as `counting`,
-- over what they differ in. cond is any yes-or-no on states. Document 002 gives both again: its figure 3 is figure 5
-- word for word, and its text below says of maxcount what is quoted here.
--
-- One reading. In the figures as they came to us the lines from "R' = R ∩ Not_final" on stand as far in as "m = ..",
-- under "if Reached_final ≠ ∅ then". Read so, a turn that reaches no final state would change nothing, and the loop
-- would never end. But section 5 says below figure 5: "For the reached states that do not belong to final, we continue
-- the loop after computing their successors. If all reached states are in final, .. the algorithm returns the computed
-- minimum", and so at every turn. So only lines 7 and 8 are under that if. Assumes nothing.
use Rattle.std.specs.Prelude.{ℕ, ◌+◌, min, max, Bool, true, not, cond, ◌&&◌, ◌||◌, List, [], ◌∷◌, ◌++◌, map, eqb, ltb}
use Rattle.graph.specs.Graph.{Graph, states, start, final}
use Rattle.graph.specs.Compute.{given, gather, nonempty, fold}
use Rattle.report.specs.Procedure.{Procedure}
use Rattle.report.specs.Sets.{States, ◌∩◌, not_final_lem, N}
use Rattle.report.specs.Bounds.{Bound, finite, ∞}

-- a finite set of pairs ⟨s, k⟩ of a state and a number, by its members: in what order, and how often one is named,
-- makes no difference below
abbrev pub Pairs : Type 0
Pairs = List (ℕ × ℕ)

-- {⟨s, k⟩ | s ∈ A}, for the one number k
abbrev pub paired : Graph → States → ℕ → Pairs
paired g A k = gather (λ s. given (A s) ((s, k) ∷ [])) (states g)

-- {u ∈ U | p u}
unfoldable pub those : (ℕ × ℕ → Bool) → Pairs → Pairs
those p [] = []
those p (u ∷ us) = given (p u) (u ∷ []) ++ those p us

-- the pairs of U whose state is in A: U ∩ Final and U ∩ Not_final, where "Final = {⟨s, k⟩ | s ∈ final, k ∈ ℕ}" (section
-- 5, above figure 5)
abbrev pub at : States → Pairs → Pairs
at A U = those (λ u. A u.0) U

-- "N_a(⟨s, k⟩, ⟨s', k'⟩) = N(s, s') ∧ (s' ∈ cond ∧ k' = k + 1 ∨ s' ∉ cond ∧ k' = k)" (section 5)
unfoldable pub Nₐ : Graph → States → ℕ × ℕ → ℕ × ℕ → Bool
Nₐ g c u u' = N g u.0 u'.0 && ((c u'.0 && eqb u'.1 (u.1 + 1)) || (not (c u'.0) && eqb u'.1 u.1))

-- "T(U) = {u' | N_a(u, u') holds for some u ∈ U}" (section 5): of each u, those with its number or the next, for N_a
-- leaves no other
unfoldable pub Tₐ : Graph → States → Pairs → Pairs
unfolding those
Tₐ g c [] = []
Tₐ g c (u ∷ us) = gather (λ s'. those (Nₐ g c u) ((s', u.1 + 1) ∷ (s', u.1) ∷ [])) (states g) ++ Tₐ g c us

-- what the figures differ in: min or max, and the test "m < current_min" or "m > current_max" against a number
pub record Side : Type 0 where
  pub pick : ℕ → ℕ → ℕ
  pub better : ℕ → ℕ → Bool

abbrev pub minimal : Side
minimal = record { pick = min; better = λ m k. ltb m k }

abbrev pub maximal : Side
maximal = record { pick = max; better = λ m k. ltb k m }

-- the test against what is current: every number is below ∞, and above −∞
abbrev pub improves : Side → ℕ → Bound → Bool
improves z m (finite k) = z.better m k
improves z m ∞ = true

-- lines 6 to 8: if Reached_final ≠ ∅ then m = min{k | ⟨s, k⟩ ∈ Reached_final}; if m < current_min then current_min = m
unfoldable pub updated : Side → List ℕ → Bound → Bound
updated z [] current = current
updated z (k ∷ ks) current = let m = fold z.pick k ks in cond (improves z m current) (finite m) current

-- {k | ⟨s, k⟩ ∈ U}
abbrev pub numbers : Pairs → List ℕ
numbers U = map (λ u. u.1) U

pub record Vars : Type 0 where
  pub current : Bound
  pub R : Pairs
  pub R' : Pairs

abbrev pub counting : Side → Graph → States → Procedure Vars Bound
counting z g c = record {
  -- line 2: current_min = ∞, or current_max = −∞
  -- line 3: R = {⟨s, 1⟩ | s ∈ start ∩ cond} ∪ {⟨s, 0⟩ | s ∈ start ∩ ¬cond}; R' has no value yet
  begin = record { current = ∞; R = paired g (start g ∩ c) 1 ++ paired g (start g ∩ (λ s. not (c s))) 0; R' = [] };
  -- line 4: loop; line 5: Reached_final = R ∩ Final; lines 6 to 8; line 9: R' = R ∩ Not_final
  first = λ v. record { current = updated z (numbers (at (final g) v.R)) v.current; R = v.R; R' = at (not_final_lem g) v.R };
  -- line 10: if R' = ∅ then return current_min
  stop = λ v. not (nonempty v.R');
  -- line 11: R = T(R'); line 12: endloop
  rest = λ v. record { current = v.current; R = Tₐ g c v.R'; R' = v.R' };
  answer = λ v. v.current;
}

-- Figure 5, "proc mincount (start, cond, final)"
abbrev pub mincount : Graph → States → Procedure Vars Bound
mincount = counting minimal

-- Figure 6, "proc maxcount (start, cond, final)"
abbrev pub maxcount : Graph → States → Procedure Vars Bound
maxcount = counting maximal
