-- The words that a test plan is drawn from: an additive lagged generator. Document 02, E7. Assumes nothing.
use Rattle.std.specs.Prelude.{ℕ, zero, suc, ◌+◌, ◌-◌, ◌%◌, cond, List, [], ◌∷◌, nat_lt, slice_index}

-- "sums reduced modulo 4,294,967,296"
abbrev pub plus : ℕ → ℕ → ℕ
plus a b = (a + b) % 4294967296

-- "the word 24 back", "the word 55 back": the word k back, where the words so far stand the latest first
abbrev pub back : ℕ → List ℕ → ℕ
back k words = slice_index words (k - 1)

-- the word after i others: "From a 32-bit seed s, the first 55 words are s, then each the one before plus 9E3779B9 hex. Each later word is the word 24 back plus the
-- word 55 back"
unfoldable pub word_after : ℕ → ℕ → List ℕ → ℕ
word_after s zero words = s
word_after s (suc i) words = cond (nat_lt (suc i) 55) (plus (back 1 words) 2654435769) (plus (back 24 words) (back 55 words))

-- the first i words, the latest first
unfoldable pub words : ℕ → ℕ → List ℕ
words s zero = []
words s (suc i) = let before = words s i in word_after s i before ∷ before

-- word number i, from 0 on
abbrev pub word : ℕ → ℕ → ℕ
word s i = word_after s i (words s i)

-- "Words are drawn from the 56th on": draw number k, from 0 on
abbrev pub draw : ℕ → ℕ → ℕ
draw s k = word s (55 + k)
