-- The transitions of a generated plan, quickly. By number, each draw is counted from the first word on; here the words so far are handed from one transition to the next. These are the plan's
-- transitions (`quick-is`), so that a plan of 2,048 of them computes in seconds, which its vector needs. Assumes nothing.
use mathlib.Core.List.{List, [], ◌∷◌, ◌++◌}
use mathlib.Core.Path.{◌≡◌, refl, sym, ap, ap₂, ◌∙◌}
use Prim.Native.Nat.{ℕ, zero, suc, ◌+◌, ◌*◌}
use native.Mathlib.Omega.{arith}
use Rattle.generator.specs.Words.{back, word_after, words, word}
use Rattle.graph.specs.Graph.{Graph, Transition}
use Rattle.rules.specs.Image.{tabulate}
use Rattle.generated.specs.Generated.{transition_from, transition_drawn, generated_graph}

-- ---- a list from its front

-- f j, f (j + 1) and so on, m of them
from : (ℕ → Transition) → ℕ → ℕ → List Transition
from f j zero = []
from f j (suc m) = f j ∷ from f (suc j) m

from_more : (f : ℕ → Transition) (j m : ℕ) → from f j m ++ (f (j + m) ∷ []) ≡ from f j (suc m)
unfolding from
from_more f j zero = let e : j + 0 ≡ j = omega arith in ap {B = List Transition} (λ (k : ℕ). f k ∷ []) e
from_more f j (suc m) =
    let e : j + suc m ≡ suc j + m = omega arith in
    ap {B = List Transition} (λ (k : ℕ). f j ∷ (from f (suc j) m ++ (f k ∷ []))) e ∙ ap {B = List Transition} (λ (ts : List Transition). f j ∷ ts) (from_more f (suc j) m)

tabulate_from : (f : ℕ → Transition) (m : ℕ) → tabulate m f ≡ from f 0 m
unfolding from tabulate
tabulate_from f zero = refl
tabulate_from f (suc m) =
    let e : m ≡ 0 + m = omega arith in
    ap₂ {C = List Transition} (λ (ts : List Transition) (k : ℕ). ts ++ (f k ∷ [])) (tabulate_from f m) e ∙ from_more f 0 m

-- ---- the words so far, handed on

-- four words more than the i so far
unfoldable pub four : ℕ → ℕ → List ℕ → List ℕ
four s i ws =
    let one = word_after s i ws ∷ ws in
    let two = word_after s (suc i) one ∷ one in
    let three = word_after s (suc (suc i)) two ∷ two in
    word_after s (suc (suc (suc i))) three ∷ three

-- m transitions, drawn behind the i words so far
unfoldable pub quick : ℕ → ℕ → ℕ → List ℕ → ℕ → List Transition
quick s n i ws zero = []
quick s n i ws (suc m) =
    let next = four s i ws in
    transition_from n (back 4 next) (back 3 next) (back 2 next) (back 1 next) ∷ quick s n (suc (suc (suc (suc i)))) next m

quick_from : (s n m j i : ℕ) → i ≡ 55 + 4 * j → quick s n i (words s i) m ≡ from (transition_drawn s n) j m
unfolding from quick four words transition_drawn
quick_from s n zero j i e = refl
quick_from s n (suc m) j i e =
    let b : suc i ≡ 55 + (4 * j + 1) = omega arith in
    let c : suc (suc i) ≡ 55 + (4 * j + 2) = omega arith in
    let d : suc (suc (suc i)) ≡ 55 + (4 * j + 3) = omega arith in
    let next : suc (suc (suc (suc i))) ≡ 55 + 4 * suc j = omega arith in
    ap₂ {C = List Transition} ◌∷◌ (λ k. transition_from n (word s (e k)) (word s (b k)) (word s (c k)) (word s (d k))) (quick_from s n m (suc j) (suc (suc (suc (suc i)))) next)

-- ---- the plan

unfoldable pub quick_graph : ℕ → ℕ → ℕ → Graph
quick_graph s n m = record { state_list = (generated_graph s n m).state_list; transitions = quick s n 55 (words s 55) m }

pub quick-is : (s n m : ℕ) → generated_graph s n m ≡ quick_graph s n m
unfolding quick_graph generated_graph
quick-is s n m =
    ap {B = Graph} (λ (ts : List Transition). record { state_list = (generated_graph s n m).state_list; transitions = ts })
    (tabulate_from (transition_drawn s n) m ∙ sym (quick_from s n m 0 55 (omega arith)))
