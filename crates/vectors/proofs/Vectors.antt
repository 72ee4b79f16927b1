-- Vectors, computed by the definitions: words 56 to 70 of four seeds, and plans by the checksum of their images, ADLER-32 of RFC 1950. A test of the second calculator reads the facts from here, a line
-- each, and compares its own words and plans and the library's with them. Assumes nothing.
use mathlib.Core.List.{List, [], ◌∷◌}
use mathlib.Core.Path.{◌≡◌, refl, ap}
use Prim.Native.Nat.{ℕ, ◌+◌, ◌*◌, ◌%◌}
use Rattle.field.specs.Field.{bits, bits_of, number, octets_of, bits_of_all, width_of_all, pack}
use Rattle.generator.specs.Words.{word_after, words, draw}
use Rattle.graph.specs.Graph.{Graph}
use Rattle.rules.specs.Image.{tabulate, image, image_by, image_fields, fields_of_each}
use Rattle.generated.specs.Generated.{transition_drawn, generated_graph}
use Rattle.vectors.proofs.Quick.{four, quick, quick_graph, quick-is}

-- ---- words

words_0 : tabulate 15 (draw 0) ≡ 683130215 ∷ 1697034457 ∷ 2710938699 ∷ 3724842941 ∷ 443779887 ∷ 1457684129 ∷ 2471588371 ∷ 3485492613 ∷ 204429559 ∷ 1218333801 ∷ 2232238043 ∷ 3246142285 ∷ 4260046527 ∷ 978983473 ∷ 1992887715 ∷ []
unfolding tabulate word_after words
words_0 = refl

words_1 : tabulate 15 (draw 1) ≡ 683130217 ∷ 1697034459 ∷ 2710938701 ∷ 3724842943 ∷ 443779889 ∷ 1457684131 ∷ 2471588373 ∷ 3485492615 ∷ 204429561 ∷ 1218333803 ∷ 2232238045 ∷ 3246142287 ∷ 4260046529 ∷ 978983475 ∷ 1992887717 ∷ []
unfolding tabulate word_after words
words_1 = refl

words_305419896 : tabulate 15 (draw 305419896) ≡ 1293970007 ∷ 2307874249 ∷ 3321778491 ∷ 40715437 ∷ 1054619679 ∷ 2068523921 ∷ 3082428163 ∷ 4096332405 ∷ 815269351 ∷ 1829173593 ∷ 2843077835 ∷ 3856982077 ∷ 575919023 ∷ 1589823265 ∷ 2603727507 ∷ []
unfolding tabulate word_after words
words_305419896 = refl

words_4294967295 : tabulate 15 (draw 4294967295) ≡ 683130213 ∷ 1697034455 ∷ 2710938697 ∷ 3724842939 ∷ 443779885 ∷ 1457684127 ∷ 2471588369 ∷ 3485492611 ∷ 204429557 ∷ 1218333799 ∷ 2232238041 ∷ 3246142283 ∷ 4260046525 ∷ 978983471 ∷ 1992887713 ∷ []
unfolding tabulate word_after words
words_4294967295 = refl

-- ---- plans

-- the two sums of RFC 1950, behind sums so far: of the octets, and of the sums
adler_from : ℕ → ℕ → List ℕ → ℕ
adler_from a b [] = b * 65536 + a
adler_from a b (x ∷ xs) = let c = (a + x) % 65521 in adler_from c ((b + c) % 65521) xs

adler32 : List ℕ → ℕ
adler32 octets = adler_from 1 0 octets

-- the same, with the words handed on
quickly : (s n m : ℕ) → adler32 (image (generated_graph s n m)) ≡ adler32 (image (quick_graph s n m))
quickly s n m = ap (λ (g : Graph). adler32 (image g)) (quick-is s n m)

plan_1_1_0 : adler32 (image (generated_graph 1 1 0)) ≡ 24445157
unfolding adler32 adler_from quick_graph quick four generated_graph tabulate transition_drawn word_after words image_by image_fields fields_of_each pack bits bits_of number octets_of bits_of_all width_of_all
plan_1_1_0 = quickly 1 1 0

plan_1_1_1 : adler32 (image (generated_graph 1 1 1)) ≡ 155582988
unfolding adler32 adler_from quick_graph quick four generated_graph tabulate transition_drawn word_after words image_by image_fields fields_of_each pack bits bits_of number octets_of bits_of_all width_of_all
plan_1_1_1 = quickly 1 1 1

plan_1_1_2048 : adler32 (image (generated_graph 1 1 2048)) ≡ 3030147603
unfolding adler32 adler_from quick_graph quick four generated_graph tabulate transition_drawn word_after words image_by image_fields fields_of_each pack bits bits_of number octets_of bits_of_all width_of_all
plan_1_1_2048 = quickly 1 1 2048

plan_1_2_0 : adler32 (image (generated_graph 1 2 0)) ≡ 36569321
unfolding adler32 adler_from quick_graph quick four generated_graph tabulate transition_drawn word_after words image_by image_fields fields_of_each pack bits bits_of number octets_of bits_of_all width_of_all
plan_1_2_0 = quickly 1 2 0

plan_1_2_1 : adler32 (image (generated_graph 1 2 1)) ≡ 219349712
unfolding adler32 adler_from quick_graph quick four generated_graph tabulate transition_drawn word_after words image_by image_fields fields_of_each pack bits bits_of number octets_of bits_of_all width_of_all
plan_1_2_1 = quickly 1 2 1

plan_1_2_2048 : adler32 (image (generated_graph 1 2 2048)) ≡ 1709991876
unfolding adler32 adler_from quick_graph quick four generated_graph tabulate transition_drawn word_after words image_by image_fields fields_of_each pack bits bits_of number octets_of bits_of_all width_of_all
plan_1_2_2048 = quickly 1 2 2048

plan_1_512_0 : adler32 (image (generated_graph 1 512 0)) ≡ 1391657193
unfolding adler32 adler_from quick_graph quick four generated_graph tabulate transition_drawn word_after words image_by image_fields fields_of_each pack bits bits_of number octets_of bits_of_all width_of_all
plan_1_512_0 = quickly 1 512 0

plan_1_512_1 : adler32 (image (generated_graph 1 512 1)) ≡ 3811836986
unfolding adler32 adler_from quick_graph quick four generated_graph tabulate transition_drawn word_after words image_by image_fields fields_of_each pack bits bits_of number octets_of bits_of_all width_of_all
plan_1_512_1 = quickly 1 512 1

plan_1_512_2048 : adler32 (image (generated_graph 1 512 2048)) ≡ 1826238860
unfolding adler32 adler_from quick_graph quick four generated_graph tabulate transition_drawn word_after words image_by image_fields fields_of_each pack bits bits_of number octets_of bits_of_all width_of_all
plan_1_512_2048 = quickly 1 512 2048
