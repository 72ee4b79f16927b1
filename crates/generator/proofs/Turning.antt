-- The ring and its draws. Word i stands in place i modulo 55, so of the last 55 words no two share a place. The word 55 back of word 55 + k is word k, at place k modulo 55; the word 24 back is
-- word 31 + k, 31 places on. So what a draw makes of the ring is the word (`ring-word`), and put in the place of the oldest it makes the ring of one draw more (`ring-draw`). Assumes nothing.
use Rattle.std.proofs.Common.{◌≡◌, ℕ, ◌+◌, ◌-◌, ◌*◌, ◌%◌, ◌<◌, ◌≤◌, ◌≢◌, ◌⊎◌, List, length, get_or, set, sym, ap, ◌∙◌, ap₂, inl, inr, eq-or-lt_of_le, arith, length-set, get_or-set_other, get_or-set_same}
use Rattle.generator.specs.Words.{plus, word, draw}
use Rattle.generator.specs.Ring.{Ring, next, Drawn, four_drawn}
use Rattle.generator.proofs.Words.{word_first, word_early, word_later}

module _ (s k at : ℕ) (ring : List ℕ) (place : at ≡ k % 55) (h : Ring s k ring) where
  ring-word : next at ring ≡ draw s k
  ring-word =
      let e : (k % 55 + 31) % 55 ≡ (31 + k) % 55 = omega arith in
      rw (place, e) (ap₂ plus (h.holds (31 + k) (omega arith) (omega arith)) (h.holds k (omega arith) (omega arith))) ∙ sym (word_later s k)

  pub ring-draw : (r : ℕ) (after : List ℕ) → Drawn at ring after r → (r ≡ draw s k) × Ring s (k + 1) after
  ring-draw r after d =
      let w : r ≡ draw s k = d.word-is ∙ ring-word in (
        w,
        record {
          long = d.long ∙ h.long;
          holds = λ i l u. ap (λ (x : List ℕ). get_or x (i % 55) 0) d.ring-is ∙ stands i l u w;
        },
      )
    where
      stands : (i : ℕ) → k + 1 ≤ i → i < k + 1 + 55 → r ≡ draw s k → get_or (set ring at r) (i % 55) 0 ≡ word s i
      stands i l u w = go (eq-or-lt_of_le (omega arith))
        where
          go : (i ≡ 55 + k) ⊎ (i < 55 + k) → get_or (set ring at r) (i % 55) 0 ≡ word s i
          go (inl e) =
              let m : i % 55 ≡ at = omega arith in
              rw m (get_or-set_same ring at r 0 (omega (arith, h.long)) ∙ w ∙ ap (word s) (sym e))
          go (inr b) =
              let m : i % 55 ≢ at = λ q. omega arith in
              get_or-set_other ring at (i % 55) r 0 m ∙ h.holds i (omega arith) (omega arith)

-- ---- four draws

-- each at the place after the one before
pub four-drawn : (i one two three four : ℕ) → one ≡ 4 * i % 55 → two ≡ (one + 1) % 55 → three ≡ (two + 1) % 55 → four ≡ (three + 1) % 55
    → (ring ring₁ ring₂ ring₃ ring₄ : List ℕ) (a b c d : ℕ) → Drawn one ring ring₁ a → Drawn two ring₁ ring₂ b → Drawn three ring₂ ring₃ c → Drawn four ring₃ ring₄ d
    → (s : ℕ) → Ring s (4 * i) ring → (record { first = a; second = b; third = c; fourth = d } ≡ four_drawn s i) × Ring s (4 * (i + 1)) ring₄
four-drawn i one two three four e f g h ring ring₁ ring₂ ring₃ ring₄ a b c d w x y z s r =
    let (ea, ha) = ring-draw s (4 * i) one ring e r a ring₁ w in
    let at₂ : two ≡ (4 * i + 1) % 55 = omega arith in
    let (eb, hb) = ring-draw s (4 * i + 1) two ring₁ at₂ ha b ring₂ x in
    let to₂ : 4 * i + 1 + 1 ≡ 4 * i + 2 = omega arith in
    let at₃ : three ≡ (4 * i + 2) % 55 = omega arith in
    let (ec, hc) = ring-draw s (4 * i + 2) three ring₂ at₃ (rw to₂ at hb) c ring₃ y in
    let to₃ : 4 * i + 2 + 1 ≡ 4 * i + 3 = omega arith in
    let at₄ : four ≡ (4 * i + 3) % 55 = omega arith in
    let (ed, hd) = ring-draw s (4 * i + 3) four ring₃ at₄ (rw to₃ at hc) d ring₄ z in
    let all : 4 * i + 3 + 1 ≡ 4 * (i + 1) = omega arith in
    (λ j. record { first = ea j; second = eb j; third = ec j; fourth = ed j }, rw all at hd)

-- ---- the first 55 words

-- the first i of them, in their places
pub record Begun (s i : ℕ) (ring : List ℕ) : Type 0 where
  pub long : length ring ≡ 55
  pub holds : (j : ℕ) → j < i → get_or ring j 0 ≡ word s j

pub begun_first : (s : ℕ) (ring : List ℕ) → length ring ≡ 55 → Begun s 1 (set ring 0 s)
begun_first s ring l =
    record {
      long = length-set ring 0 s ∙ l;
      holds = λ j h.
          let e : j ≡ 0 = omega arith in
          rw e (get_or-set_same ring 0 s 0 (omega (arith, l)) ∙ sym (word_first s));
    }

pub begun_more : (s i : ℕ) (ring : List ℕ) → Begun s i ring → 1 ≤ i → i < 55 → (x : ℕ) → x ≡ plus (get_or ring (i - 1) 0) 2654435769 → Begun s (i + 1) (set ring i x)
begun_more s i ring b l u x e =
    record { long = length-set ring i x ∙ b.long; holds = λ j h. go j (eq-or-lt_of_le (omega arith)) }
  where
    go : (j : ℕ) → (j ≡ i) ⊎ (j < i) → get_or (set ring i x) j 0 ≡ word s j
    go j (inl q) =
        let p : i - 1 + 1 ≡ i = omega arith in
        rw q (get_or-set_same ring i x 0 (omega (arith, b.long)) ∙ e ∙ ap (λ (w : ℕ). plus w 2654435769) (b.holds (i - 1) (omega arith))
        ∙ sym (word_early s (i - 1) (omega arith)) ∙ ap (word s) p)
    go j (inr h) = get_or-set_other ring i j x 0 (λ q. omega arith) ∙ b.holds j h

pub begun_all : (s i : ℕ) (ring : List ℕ) → Begun s i ring → 55 ≤ i → Ring s 0 ring
begun_all s i ring b h =
    record {
      long = b.long;
      holds = λ j l u.
          let e : j % 55 ≡ j = omega arith in
          rw e (b.holds j (omega arith));
    }
