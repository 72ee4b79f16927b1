-- The limits of the plan that arrays hold: the counts are the lists' lengths, so they are limits of the counts and the arrays. Assumes nothing.
use mathlib.Core.Bool.{true, false, ◌&&◌}
use mathlib.Core.List.{List}
use mathlib.Core.Path.{◌≡◌, sym, ◌∙◌}
use Prim.Native.Nat.{ℕ}
use Rattle.rules.specs.Limits.{all, within, state_count_ok, transition_count_ok, state_ok, transition_ok}
use Rattle.arrays.specs.Tables.{states_of, transitions_of, graph_of}
use Rattle.arrays.proofs.Lists.{states_of_lem, count_of}

module _ (n m : ℕ) (marks teams from to low high : List ℕ) where
  within-arrays : within (graph_of n m marks teams from to low high)
      ≡ (state_count_ok n && transition_count_ok m && all state_ok (states_of n marks teams) && all (transition_ok n) (transitions_of m from to low high))
  unfolding within
  within-arrays = rw (states_of_lem n m marks teams from to low high, count_of n m marks teams from to low high)

  -- a limit that does not hold, the ones before it holding, and the last one where those before it hold
  pub states-out : state_count_ok n ≡ false → false ≡ within (graph_of n m marks teams from to low high)
  states-out s = sym (within-arrays ∙ rw s)

  pub count-out : state_count_ok n ≡ true → transition_count_ok m ≡ false → false ≡ within (graph_of n m marks teams from to low high)
  count-out s t = sym (within-arrays ∙ rw (s, t))

  pub each-out : state_count_ok n ≡ true → transition_count_ok m ≡ true → all state_ok (states_of n marks teams) ≡ false → false ≡ within (graph_of n m marks teams from to low high)
  each-out s t u = sym (within-arrays ∙ rw (s, t, u))

  pub transitions-left : state_count_ok n ≡ true → transition_count_ok m ≡ true → all state_ok (states_of n marks teams) ≡ true
      → all (transition_ok n) (transitions_of m from to low high) ≡ within (graph_of n m marks teams from to low high)
  transitions-left s t u = sym (within-arrays ∙ rw (s, t, u))
