-- The sentences of document 02, E7, as laws of `word`. The list of the words so far stands the latest first, so the word j + 1 back, of d + j + 1 words, is word d (`word_back`); then the
-- definition's two cases are "each the one before plus 9E3779B9 hex" (`word_early`) and "the word 24 back plus the word 55 back" (`word_later`). Assumes nothing.
use Rattle.std.proofs.Common.{◌≡◌, ℕ, zero, suc, ◌+◌, ◌<◌, true, false, ltb, get_or, refl, ap, ◌∙◌, ap₂, arith, le-ltb, lt-ltb}
use Rattle.generator.specs.Words.{plus, word_after, words, word}

word_back : (s d j : ℕ) → get_or (words s (suc (j + d))) j 0 ≡ word s d
unfolding words
word_back s d zero = let e : 0 + d ≡ d = omega arith in ap (word s) e
word_back s d (suc j) =
    let e : suc j + d ≡ suc (j + d) = omega arith in
    ap (λ (i : ℕ). get_or (words s i) j 0) e ∙ word_back s d j

-- "the first 55 words are s,
pub word_first : (s : ℕ) → word s 0 ≡ s
unfolding word_after
word_first s = refl

-- then each the one before plus 9E3779B9 hex."
pub word_early : (s i : ℕ) → i < 54 → word s (i + 1) ≡ plus (word s i) 2654435769
unfolding word_after
word_early s i h =
    let e : i + 1 ≡ suc (0 + i) = omega arith in
    let t : ltb (suc (0 + i)) 55 ≡ true = lt-ltb (suc (0 + i)) 55 (omega arith) in
    rw (e, t) (ap (λ (w : ℕ). plus w 2654435769) (word_back s i 0))

-- "Each later word is the word 24 back plus the word 55 back"
pub word_later : (s k : ℕ) → word s (55 + k) ≡ plus (word s (31 + k)) (word s k)
unfolding word_after
word_later s k =
    let e : 55 + k ≡ suc (54 + k) = omega arith in
    let f : 54 + k ≡ 23 + (31 + k) = omega arith in
    let t : ltb (suc (54 + k)) 55 ≡ false = le-ltb (suc (54 + k)) 55 (omega arith) in
    rw (e, t) (ap₂ plus (ap (λ (i : ℕ). get_or (words s (suc i)) 23 0) f ∙ word_back s (31 + k) 23) (word_back s k 54))
