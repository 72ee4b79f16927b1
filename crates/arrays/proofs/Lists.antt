-- Lists that a function tabulates, as arrays hold them: their parts, an element set, added and taken out, and the places past them. Assumes nothing.
use mathlib.Core.List.{List, [], ◌∷◌, ◌++◌, map, map-append}
use mathlib.Core.Logic.{◌≢◌, ◌⊎◌, inl, inr}
use mathlib.Core.Path.{◌≡◌, refl, sym, ap, ap₂, ◌∙◌}
use Prim.Native.Nat.{ℕ, zero, suc, ◌+◌, ◌-◌, ◌≤◌, ◌<◌}
use native.Mathlib.Omega.{arith}
use lib.ListN.{length, get_or, take, drop, set, length-append, length-drop, length-set, take-append-drop, get_or-append}
use lib.Seq.{get_or-set_same, get_or-set_other, get_or-take, get_or-drop, get_or-append-add, length-take-le, drop-set-lt}
use native.Mathlib.Decide.{dec_lt, ℕ_discrete}
use native.Mathlib.Numerals.{add-one}
use Rattle.graph.specs.Graph.{states, count}
use Rattle.rules.specs.Image.{tabulate}
use Rattle.rules.proofs.Tabulated.{length-tabulate, get_d_tabulate, tabulate_of, tabulate-same}
use Rattle.arrays.specs.Tables.{transition, state_of, transition_of, graph_of, Later, over}

-- two numbers are the same or not, and one is below the other or not
pub same_or_not : (a b : ℕ) → (a ≡ b) ⊎ (a ≢ b)
same_or_not a b = go (ℕ_discrete a b)
  where
    go : Dec (a ≡ b) → (a ≡ b) ⊎ (a ≢ b)
    go (yes e) = inl e
    go (no d) = inr d

pub below_or_not : (a b : ℕ) → (a < b) ⊎ (b ≤ a)
below_or_not a b = go (dec_lt a b)
  where
    go : Dec (a < b) → (a < b) ⊎ (b ≤ a)
    go (yes l) = inl l
    go (no d) = inr (omega (arith, d))

-- the counts of the plan that arrays hold
module _ (n m : ℕ) (marks teams from to low high : List ℕ) where
  pub states_of_lem : states (graph_of n m marks teams from to low high) ≡ n
  states_of_lem = length-tabulate n (state_of marks teams)

  pub count_of : count (graph_of n m marks teams from to low high) ≡ m
  count_of = length-tabulate m (transition_of from to low high)

-- the elements of an array from the front are its first part
pub tabulate-front : (n : ℕ) (l : List ℕ) → n ≤ length l → tabulate n (λ (i : ℕ). get_or l i 0) ≡ take n l
tabulate-front n l h = tabulate_of 0 (take n l) n (λ (i : ℕ). get_or l i 0) (length-take-le n l h) (λ i k. get_or-take n l i 0 k)

pub map_tabulate : {A B : Type 0} (h : A → B) (n : ℕ) (f : ℕ → A) → map h (tabulate n f) ≡ tabulate n (λ (i : ℕ). h (f i))
unfolding tabulate
map_tabulate h zero f = refl
map_tabulate {A} {B} h (suc n) f =
    map-append h (tabulate n f) (f n ∷ []) ∙ ap {B = List B} (λ (l : List B). l ++ (h (f n) ∷ [])) (map_tabulate h n f)

-- later places stay where nothing was stored, and where a store is at an earlier place
pub later_none : (n : ℕ) (l : List ℕ) → n ≤ length l → Later n l l
later_none n l h = record { room = h; same = refl }

-- as many places as there were
pub later_long : (k n : ℕ) (before after : List ℕ) → Later k before after → k ≤ n → n ≤ length before → n ≤ length after
later_long k n before after l h room = omega (arith, l.room, ap length l.same, length-drop k after, length-drop k before)

pub later_set : (n : ℕ) (before after : List ℕ) (i v : ℕ) → i < n → Later n before after → Later n before (set after i v)
later_set n before after i v h l =
    record { room = rw (length-set after i v) l.room; same = drop-set-lt n after i v h ∙ l.same }

-- an array that holds one number of each of n items, and whose later places are as they were, is those numbers over what it was
pub over-front : {A : Type 0} (n : ℕ) (f : ℕ → A) (part : A → ℕ) (before after : List ℕ) → ((i : ℕ) → part (f i) ≡ get_or after i 0) → Later n before after
    → after ≡ over (map part (tabulate n f)) before
over-front n f part before after e h =
    let s : map part (tabulate n f) ≡ take n after =
    map_tabulate part n f ∙ tabulate-same n (λ (i : ℕ). part (f i)) (λ (i : ℕ). get_or after i 0) (λ i k. e i) ∙ tabulate-front n after h.room in
    let l : length (map part (tabulate n f)) ≡ n = ap length s ∙ length-take-le n after h.room in
    sym (take-append-drop n after) ∙ ap₂ {C = List ℕ} (λ (x y : List ℕ). x ++ y) (sym s) (h.same ∙ ap (λ (k : ℕ). drop k before) (sym l))

-- an element set, one put at the end, and one taken out
module _ {A : Type 0} where
  pub tabulate-set : (n k : ℕ) (f g : ℕ → A) → ((i : ℕ) → i ≢ k → g i ≡ f i) → tabulate n g ≡ set (tabulate n f) k (g k)
  tabulate-set n k f g others = tabulate_of (g k) (set (tabulate n f) k (g k)) n g (length-set (tabulate n f) k (g k) ∙ length-tabulate n f) each
    where
      go : (i : ℕ) → i < n → (k ≡ i) ⊎ (k ≢ i) → get_or (set (tabulate n f) k (g k)) i (g k) ≡ g i
      go i hi (inl e) =
          ap (λ (j : ℕ). get_or (set (tabulate n f) k (g k)) j (g k)) (sym e) ∙ get_or-set_same (tabulate n f) k (g k) (g k) (rw (length-tabulate n f, e) hi) ∙ ap g e
      go i hi (inr d) =
          let d' : i ≢ k = λ e. d (sym e) in
          get_or-set_other (tabulate n f) k i (g k) (g k) d' ∙ get_d_tabulate n f i (g k) hi ∙ sym (others i d')

      each : (i : ℕ) → i < n → get_or (set (tabulate n f) k (g k)) i (g k) ≡ g i
      each i hi = go i hi (same_or_not k i)

  pub tabulate-more : (n : ℕ) (f g : ℕ → A) (a : A) → ((i : ℕ) → i < n → g i ≡ f i) → g n ≡ a → tabulate (n + 1) g ≡ tabulate n f ++ (a ∷ [])
  unfolding tabulate
  tabulate-more n f g a h e =
      ap (λ (k : ℕ). tabulate k g) (add-one n) ∙ ap₂ {C = List A} (λ (l : List A) (x : A). l ++ (x ∷ [])) (tabulate-same n g f h) e

  pub tabulate-without : (d : A) (n k : ℕ) (f g : ℕ → A) → k < n → ((i : ℕ) → i < k → g i ≡ f i) → ((i : ℕ) → k ≤ i → i + 1 < n → g i ≡ f (i + 1))
      → tabulate (n - 1) g ≡ take k (tabulate n f) ++ drop (suc k) (tabulate n f)
  tabulate-without d n k f g h before after = tabulate_of d (F ++ B) (n - 1) g lengths each
    where
      T : List A
      T = tabulate n f

      F : List A
      F = take k T

      B : List A
      B = drop (suc k) T

      F-length : length F ≡ k
      F-length = length-take-le k T (omega (arith, length-tabulate n f))

      lengths : length (F ++ B) ≡ n - 1
      lengths = length-append F B ∙ ap₂ ◌+◌ F-length (length-drop (suc k) T) ∙ omega (arith, length-tabulate n f)

      go : (i : ℕ) → i < n - 1 → (i < k) ⊎ (k ≤ i) → get_or (F ++ B) i d ≡ g i
      go i hi (inl l) =
          get_or-append F B d i (rw F-length l) ∙ get_or-take k T i d l ∙ get_d_tabulate n f i d (omega arith) ∙ sym (before i l)
      go i hi (inr l) =
          let p : length F + (i - k) ≡ i = ap (λ (x : ℕ). x + (i - k)) F-length ∙ omega arith in
          let q : suc k + (i - k) ≡ i + 1 = omega arith in
          ap (λ (j : ℕ). get_or (F ++ B) j d) (sym p) ∙ get_or-append-add F B (i - k) d ∙ get_or-drop (suc k) T (i - k) d
          ∙ ap (λ (j : ℕ). get_or T j d) q ∙ get_d_tabulate n f (i + 1) d (omega arith) ∙ sym (after i l (omega arith))

      each : (i : ℕ) → i < n - 1 → get_or (F ++ B) i d ≡ g i
      each i hi = go i hi (below_or_not i k)

pub same-transition : {a b c d a' b' c' d' : ℕ} → a ≡ a' → b ≡ b' → c ≡ c' → d ≡ d' → transition a b c d ≡ transition a' b' c' d'
same-transition ea eb ec ed = λ i. record { from = ea i; to = eb i; low = ec i; high = ed i }

-- the transitions of four arrays after a store at one place
module _ (f t l h : List ℕ) (i a b c d : ℕ) where
  pub transition-other : (k : ℕ) → k ≢ i → transition_of (set f i a) (set t i b) (set l i c) (set h i d) k ≡ transition_of f t l h k
  transition-other k n =
      same-transition (get_or-set_other f i k a 0 n) (get_or-set_other t i k b 0 n) (get_or-set_other l i k c 0 n) (get_or-set_other h i k d 0 n)

  pub transition-here : i < length f → i < length t → i < length l → i < length h → transition_of (set f i a) (set t i b) (set l i c) (set h i d) i ≡ transition a b c d
  transition-here hf ht hl hh =
      same-transition (get_or-set_same f i a 0 hf) (get_or-set_same t i b 0 ht) (get_or-set_same l i c 0 hl) (get_or-set_same h i d 0 hh)
