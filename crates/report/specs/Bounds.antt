-- Procedures lower and upper, figures 3 and 4 of CMU-CS-94-147, each line of a figure beside its own words.
--
-- start and final are the graph's sets. The report's set of initial states is not used: document 01, "every state
-- marked start counts". Procedures minimum and maximum of document 002 (its figure 2) are the same two, line by line,
-- under other names. Assumes nothing.
use Rattle.std.specs.Prelude.{ℕ, ◌+◌, not, cond, ◌&&◌}
use Rattle.graph.specs.Graph.{Graph, start, final}
use Rattle.report.specs.Procedure.{Procedure, while}
use Rattle.report.specs.Sets.{States, ◌∩◌, ◌∪◌, TRUE, not_final_lem, empty, same, T, T⁻¹}

-- what a procedure returns: a number, or infinity. (In figure 6 it is minus infinity; no procedure has both, so one
-- constructor serves.)
pub data Bound : Type 0 where
  finite : ℕ → Bound
  ∞ : Bound

-- the variables of both figures
pub record Vars : Type 0 where
  pub i : ℕ
  pub R : States
  pub R' : States

-- Figure 3, "proc lower (start, final)"
abbrev pub lower : Graph → Procedure Vars Bound
lower g =
    while
    -- lines 2 to 4: i = 0; R = start; R' = T(R) ∪ R
    (record { i = 0; R = start g; R' = T g (start g) ∪ start g })
    -- line 5: while (R' ≠ R ∧ R ∩ final = ∅) do
    (λ v. not (same g v.R' v.R) && empty g (v.R ∩ final g))
    -- lines 6 to 8: i = i + 1; R = R'; R' = T(R') ∪ R'
    (λ v. record { i = v.i + 1; R = v.R'; R' = T g v.R' ∪ v.R' })
    -- lines 9 to 11: if (R ∩ final ≠ ∅) then return i; else return ∞
    (λ v. cond (not (empty g (v.R ∩ final g))) (finite v.i) ∞)

-- Figure 4, "proc upper (start, final)"
abbrev pub upper : Graph → Procedure Vars Bound
upper g =
    while
    -- lines 2 to 4: i = 0; R = TRUE; R' = not_final
    (record { i = 0; R = TRUE; R' = not_final_lem g })
    -- line 5: while (R' ≠ R ∧ R' ∩ start ≠ ∅) do
    (λ v. not (same g v.R' v.R) && not (empty g (v.R' ∩ start g)))
    -- lines 6 to 8: i = i + 1; R = R'; R' = T⁻¹(R') ∩ not_final
    (λ v. record { i = v.i + 1; R = v.R'; R' = T⁻¹ g v.R' ∩ not_final_lem g })
    -- lines 9 to 11: if (R = R') then return ∞; else return i
    (λ v. cond (same g v.R v.R') ∞ (finite v.i))
