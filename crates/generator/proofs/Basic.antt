-- Facts about the first words, straight from the definition: what a wrong one breaks first. Assumes nothing.
use Rattle.std.proofs.Common.{◌≡◌, refl}
use Rattle.generator.specs.Words.{word_after, words, word}

-- "the first 55 words are s, then each the one before plus 9E3779B9 hex", modulo 4,294,967,296
first_word : word 7 0 ≡ 7
unfolding word_after
first_word = refl

second_word : word 7 1 ≡ 2654435776
unfolding word_after words
second_word = refl

-- a sum past 4,294,967,296
wraps : word 4294967295 1 ≡ 2654435768
unfolding word_after words
wraps = refl
