-- Four parts of 512 places of a list, replaced one after another. A part that was replaced holds what was put there; a part before it, and
-- all that lies after it, is as it was (`put`). So what each call says of the part that it was lent holds of the parts of the whole, whichever of the four are
-- done (`Showing`). Assumes nothing.
use mathlib.Core.List.{List, [], ◌∷◌, ◌++◌}
use mathlib.Core.Logic.{◌⊎◌, inl, inr, ◌≢◌}
use mathlib.Core.Path.{◌≡◌, refl, sym, ap, ◌∙◌, subst}
use Prim.Native.Nat.{ℕ, zero, suc, ◌+◌, ◌-◌, ◌*◌, ◌≤◌, ◌<◌}
use native.Mathlib.Omega.{arith}
use borrow.Rule.Slice.PartMut.{same_len_mid}
use lib.ListN.{length, take, drop, get_or, set, take-append-drop, length-drop, length-set}
use lib.Seq.{length-take-le, take-append-le, drop-append-le, drop-drop, take_at, drop_at, get_or-set_same, get_or-set_other}
use Rattle.arrays.proofs.Lists.{same_or_not}
use Rattle.graph.specs.declared.Which.{Which}
use Rattle.graph.specs.declared.Which.TheVariants.{LeastDelay, GreatestDelay, LeastCount, GreatestCount}
use Rattle.graph.specs.Graph.{Graph}
use Rattle.graph.proofs.Figures.{each_of}
use Rattle.rules.specs.declared.Figure.TheVariants.{Number}
use Rattle.rules.specs.declared.FourQuotes.{FourQuotes}
use Rattle.rules.specs.declared.Quote.{Quote}
use Rattle.rules.specs.Quotations.{says, Stated, quote_of, part, AllStated}
use Rattle.shown.specs.Places.{figure_at}

-- the list with ys in the place of the 512 from the a-th on
abbrev pub put : ℕ → List ℕ → List ℕ → List ℕ
put a ys xs = take a xs ++ (ys ++ drop 512 (drop a xs))

abbrev pub cut : ℕ → List ℕ → List ℕ
cut a xs = take 512 (drop a xs)

pub cut-length : (a : ℕ) (xs : List ℕ) → a + 512 ≤ length xs → length (cut a xs) ≡ 512
cut-length a xs h = length-take-le 512 (drop a xs) (omega (arith, length-drop a xs))

module _ (a : ℕ) (ys xs : List ℕ) (h : a + 512 ≤ length xs) (l : length ys ≡ 512) where
  pub put-length : length (put a ys xs) ≡ length xs
  put-length = same_len_mid a 512 xs ys (l ∙ sym (cut-length a xs h))

  from_there : drop a (put a ys xs) ≡ ys ++ drop 512 (drop a xs)
  from_there = drop_at (take a xs) (ys ++ drop 512 (drop a xs)) a (length-take-le a xs (omega arith))

  pub part-there : cut a (put a ys xs) ≡ ys
  part-there = ap (λ (z : List ℕ). take 512 z) from_there ∙ take_at ys (drop 512 (drop a xs)) 512 l

  pub after_it : (c : ℕ) → a + 512 ≤ c → drop c (put a ys xs) ≡ drop c xs
  after_it c g =
      let e : (a + 512) + (c - (a + 512)) ≡ c = omega arith in
      let first : drop (a + 512) (put a ys xs) ≡ drop (a + 512) xs = sym (drop-drop 512 a (put a ys xs))
      ∙ ap (λ (z : List ℕ). drop 512 z) from_there ∙ drop_at ys (drop 512 (drop a xs)) 512 l ∙ drop-drop 512 a xs in
      subst (λ (k : ℕ). drop k (put a ys xs) ≡ drop k xs) e (sym (drop-drop (c - (a + 512)) (a + 512) (put a ys xs))
      ∙ ap (λ (z : List ℕ). drop (c - (a + 512)) z) first ∙ drop-drop (c - (a + 512)) (a + 512) xs)

  front : (p q r : List ℕ) (c : ℕ) → c + 512 ≤ length p → cut c (p ++ q) ≡ cut c (p ++ r)
  front p q r c g =
      let one : (q : List ℕ) → cut c (p ++ q) ≡ cut c p = λ q. ap (λ (z : List ℕ). take 512 z) (drop-append-le c p q (omega arith))
      ∙ take-append-le 512 (drop c p) q (omega (arith, length-drop c p)) in
      one q ∙ sym (one r)

  pub before_it : (c : ℕ) → c + 512 ≤ a → cut c (put a ys xs) ≡ cut c xs
  before_it c g =
      front (take a xs) (ys ++ drop 512 (drop a xs)) (drop a xs) c (omega (arith, length-take-le a xs (omega arith)))
      ∙ ap (λ (z : List ℕ). cut c z) (take-append-drop a xs)

-- ---- four parts, one after another

-- the figure at a place of the four in the record's order
pub in_order : (i : ℕ) (d : Which) → i < 4 → get_or (LeastDelay ∷ GreatestDelay ∷ LeastCount ∷ GreatestCount ∷ []) i d ≡ figure_at i
in_order zero d h = refl
in_order (suc zero) d h = refl
in_order (suc (suc zero)) d h = refl
in_order (suc (suc (suc zero))) d h = refl
in_order (suc (suc (suc (suc i)))) d h = absurd (omega arith)

-- the quote at a place
abbrev pub quote_at : List Quote → ℕ → Quote
quote_at qs i = get_or qs i (record { figure = Number 0; k = 0; j = 0 })

-- the first i figures are shown, each in its part, and all from there on is as it was
pub record Showing (g : Graph) (i : ℕ) (qs : List Quote) (before after : List ℕ) : Type 0 where
  pub as_many : length qs ≡ 4
  pub as_long : length after ≡ length before
  pub each : (j : ℕ) → j < i → Stated (says (figure_at j) g) (quote_at qs j) (cut (512 * j) before) (cut (512 * j) after)
  pub rest : (k : ℕ) → 512 * i ≤ k → drop k after ≡ drop k before

module _ {g : Graph} {before : List ℕ} where
  pub showing_none : (qs : List Quote) → length qs ≡ 4 → Showing g 0 qs before before
  showing_none qs e = record { as_many = e; as_long = refl; each = λ j h. absurd (omega arith); rest = λ k h. refl }

  module _ (room : 2048 ≤ length before) {i : ℕ} (below : i < 4) {qs : List Quote} {after : List ℕ} (s : Showing g i qs before after) where
    pub there : 512 * i + 512 ≤ length after
    there = omega (arith, s.as_long)

    -- one more
    showing_more : (q : Quote) (ys : List ℕ) → length ys ≡ length (cut (512 * i) after) → Stated (says (figure_at i) g) q (cut (512 * i) after) ys
        → Showing g (suc i) (set qs i q) before (put (512 * i) ys after)
    showing_more q ys l said = record {
      as_many = length-set qs i q ∙ s.as_many;
      as_long = put-length (512 * i) ys after there long ∙ s.as_long;
      each = λ j h. go j h (same_or_not j i);
      rest = λ k h. after_it (512 * i) ys after there long k (omega arith) ∙ s.rest k (omega arith);
    }
      where
        long : length ys ≡ 512
        long = l ∙ cut-length (512 * i) after there

        same : cut (512 * i) after ≡ cut (512 * i) before
        same = ap (λ (z : List ℕ). take 512 z) (s.rest (512 * i) (omega arith))

        own : Stated (says (figure_at i) g) (quote_at (set qs i q) i) (cut (512 * i) before) (cut (512 * i) (put (512 * i) ys after))
        own = rw (part-there (512 * i) ys after there long, get_or-set_same qs i q _ (omega (arith, s.as_many)), sym same) said

        go : (j : ℕ) → j < suc i → (j ≡ i) ⊎ (j ≢ i)
            → Stated (says (figure_at j) g) (quote_at (set qs i q) j) (cut (512 * j) before) (cut (512 * j) (put (512 * i) ys after))
        go j h (inl e) = rw e own
        go j h (inr d) =
            rw (before_it (512 * i) ys after there long (512 * j) (omega (arith, d)), get_or-set_other qs i j q _ d) (s.each j (omega (arith, d)))

    -- the same of a part with so many places
    pub showing_part : (q : Quote) (ys : List ℕ) (k : ℕ) → k ≡ 512 → length ys ≡ length (take k (drop (512 * i) after)) → Stated (says (figure_at i) g) q (take k (drop (512 * i) after)) ys
        → Showing g (suc i) (set qs i q) before (take (512 * i) after ++ (ys ++ drop k (drop (512 * i) after)))
    showing_part q ys k e l said = rw e (showing_more q ys (rw e at l) (rw e at said))

  pub all_shown : (q : FourQuotes) {qs : List Quote} {after : List ℕ} → Showing g 4 qs before after
      → quote_of q LeastDelay ≡ quote_at qs 0 → quote_of q GreatestDelay ≡ quote_at qs 1 → quote_of q LeastCount ≡ quote_at qs 2 → quote_of q GreatestCount ≡ quote_at qs 3
      → AllStated g q before after
  all_shown q {qs} {after} s a b c d = record {
    each = each_of (λ which. Stated (says which g) (quote_of q which) (part which before) (part which after))
        (rw a (s.each 0 (omega arith))) (rw b (s.each 1 (omega arith))) (rw c (s.each 2 (omega arith))) (rw d (s.each 3 (omega arith)));
    later = s.rest 2048 (omega arith);
  }
