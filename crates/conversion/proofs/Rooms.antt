-- What was put lies within the buffer, since its length is that of the octets put at the front (`image-within`, `text-within`, `seed-within`). And a buffer of the rooms that
-- the crate names is never too short: no image and no text is longer (`image_room`, `text_room`), and no ground of the octets' own, or of a test plan's numbers, is 11 (`image-enough`,
-- `text-enough`, `seed-enough`). Assumes nothing.
use mathlib.Core.Bool.{Bool, true, false, not, true≢false}
use mathlib.Core.List.{List, [], ◌∷◌, ◌++◌, append-nil}
use mathlib.Core.Path.{◌≡◌, refl, sym, ap, ◌∙◌}
use Prim.Native.Nat.{ℕ, ◌≤◌}
use native.Mathlib.Omega.{arith}
use borrow.Author.Tests.{le-ltb}
use lib.Dec.{ltb, eqb}
use lib.ListN.{length, drop, length-append}
use Rattle.graph.specs.Graph.{Graph, states, count}
use Rattle.rules.specs.declared.Refusal.TheVariants.{BufferLength, StartCount}
use Rattle.rules.specs.Answer.{Written}
use Rattle.std.proofs.Common.{Ok, Err}
use Rattle.rules.specs.Aldebaran.{text_rows, graph_in_text, import_text, starts, export_text, export_rows}
use Rattle.rules.specs.Image.{image, image_length, image_rows, graph_in, read_image}
use Rattle.rules.specs.Limits.{within}
use Rattle.rules.specs.Quotations.{Write}
use Rattle.rules.specs.Refusal.{accepted, refused, wrote, answer_of}
use Rattle.rules.specs.Rules.{write_rows, written}
use Rattle.rules.specs.Table.{Row, by_table, first, NoneHolds}
use Rattle.rules.proofs.Grounds.{Among, answered_among, among_append, among_more, image_numbers, image_among, text_numbers, text_among}
use Rattle.rules.proofs.ImportExport.{import-within}
use Rattle.rules.proofs.ReadWrite.{length-image, limited, read-within}
use Rattle.rules.proofs.Tables.{accepted_only, accepted_where, answer-first, tail-decides}
use Rattle.exported.proofs.Short.{text-short}
use Rattle.generated.specs.Generated.{generated_graph, generate_rows, generate_rule}
use Rattle.generated.proofs.Limits.{rule-within}
use Rattle.conversion.specs.Rules.{past_limits, image_rule, text_rule, seed_rule}

-- ---- what was put

within-buffer : (rows : List Row) (octets : List ℕ) (k : ℕ) → length octets ≡ k → (before after : List ℕ) (w : Written) → Write octets (by_table rows k) before after w
    → (n : ℕ) → w ≡ Ok n → n ≤ length after
within-buffer rows octets k l before after w x n e =
    let d : by_table rows k ≡ accepted n = sym x.answer ∙ ap wrote e in
    let b : after ≡ octets ++ drop n before = x.buffer ∙ ap (written octets before) d in
    omega (arith, (accepted_only rows k n d).1, ap length b, length-append octets (drop n before))

pub image-within : (text before after : List ℕ) (w : Written) → Write (image (graph_in_text text)) (image_rule text before) before after w
    → (n : ℕ) → w ≡ Ok n → n ≤ length after
unfolding image_rule
image-within text before after w x =
    let g : Graph = graph_in_text text in
    within-buffer (text_rows text ++ past_limits (write_rows g before)) (image g) (image_length (states g) (count g)) (length-image g) before after w x

pub text-within : (octets before after : List ℕ) (w : Written) → Write (export_text (graph_in octets)) (text_rule octets before) before after w
    → (n : ℕ) → w ≡ Ok n → n ≤ length after
unfolding text_rule
text-within octets before after w x =
    let g : Graph = graph_in octets in
    within-buffer (image_rows octets ++ past_limits (export_rows g before)) (export_text g) (length (export_text g)) refl before after w x

pub seed-within : (seed n m : ℕ) (before after : List ℕ) (w : Written) → Write (image (generated_graph seed n m)) (seed_rule seed n m before) before after w
    → (k : ℕ) → w ≡ Ok k → k ≤ length after
unfolding seed_rule
seed-within seed n m before after w x =
    let g : Graph = generated_graph seed n m in
    within-buffer (generate_rows n m ++ past_limits (write_rows g before)) (image g) (image_length (states g) (count g)) (length-image g) before after w x

-- ---- the rooms

-- the text, or the numbers of a test plan, alone decide
image_room : (rows : List Row) (g : Graph) (before : List ℕ) → (NoneHolds rows → within g ≡ true) → 10756 ≤ length before
    → answer_of (by_table (rows ++ past_limits (write_rows g before)) (image_length (states g) (count g))) ≡ first rows
image_room rows g before i h =
    let short : NoneHolds rows → ltb (length before) (image_length (states g) (count g)) ≡ false =
    λ none. le-ltb (length before) (image_length (states g) (count g)) (omega (arith, limited g (i none))) in
    answer-first (rows ++ past_limits (write_rows g before)) (image_length (states g) (count g))
    ∙ tail-decides rows (past_limits (write_rows g before)) [] (λ none. rw (short none) refl) ∙ ap first (append-nil rows)

-- a buffer that is not too short decides nothing
start_alone : (b : Bool) → first ((StartCount, b) ∷ (BufferLength, false) ∷ []) ≡ first ((StartCount, b) ∷ [])
start_alone true = refl
start_alone false = refl

-- the image alone decides, and then 14
text_room : (octets before : List ℕ) → 51221 ≤ length before
    → answer_of (text_rule octets before) ≡ first (image_rows octets ++ ((StartCount, not (eqb (length (starts (graph_in octets))) 1)) ∷ []))
unfolding text_rule read_image
text_room octets before h =
    let g : Graph = graph_in octets in
    let short : NoneHolds (image_rows octets) → ltb (length before) (length (export_text g)) ≡ false =
    λ none. le-ltb (length before) (length (export_text g)) (omega (arith, text-short g (read-within octets g (accepted_where (image_rows octets) g none)))) in
    answer-first (image_rows octets ++ past_limits (export_rows g before)) (length (export_text g))
    ∙ tail-decides (image_rows octets) (past_limits (export_rows g before)) ((StartCount, not (eqb (length (starts g)) 1)) ∷ []) (λ none. rw (short none) (start_alone (not (eqb (length (starts g)) 1))))

-- ---- 11 is no ground of the octets' own, so no conversion is refused for such a buffer

pub image-enough : (text before after : List ℕ) (w : Written) → 10756 ≤ length before → Write (image (graph_in_text text)) (image_rule text before) before after w
    → w ≡ Err BufferLength → ⊥
unfolding image_rule import_text
image-enough text before after w h x e =
    let g : Graph = graph_in_text text in
    let short : first (text_rows text) ≡ refused BufferLength =
    sym (image_room (text_rows text) g before (λ none. import-within text g (accepted_where (text_rows text) g none)) h) ∙ ap answer_of (sym x.answer ∙ ap wrote e) in
    true≢false (sym (answered_among text_numbers (text_rows text) tt BufferLength (text_among text) short))

pub text-enough : (octets before after : List ℕ) (w : Written) → 51221 ≤ length before → Write (export_text (graph_in octets)) (text_rule octets before) before after w
    → w ≡ Err BufferLength → ⊥
text-enough octets before after w h x e =
    let start : Row = (StartCount, not (eqb (length (starts (graph_in octets))) 1)) in
    let among : Among (14 ∷ image_numbers) (image_rows octets ++ (start ∷ [])) =
    among_append (14 ∷ image_numbers) (image_rows octets) (start ∷ []) (among_more 14 image_numbers (image_rows octets) (image_among octets)) (refl, tt) in
    let short : first (image_rows octets ++ (start ∷ [])) ≡ refused BufferLength = sym (text_room octets before h) ∙ ap answer_of (sym x.answer ∙ ap wrote e) in
    true≢false (sym (answered_among (14 ∷ image_numbers) (image_rows octets ++ (start ∷ [])) tt BufferLength among short))

pub seed-enough : (seed n m : ℕ) (before after : List ℕ) (w : Written) → 10756 ≤ length before → Write (image (generated_graph seed n m)) (seed_rule seed n m before) before after w
    → w ≡ Err BufferLength → ⊥
unfolding seed_rule generate_rule
seed-enough seed n m before after w h x e =
    let g : Graph = generated_graph seed n m in
    let short : first (generate_rows n m) ≡ refused BufferLength =
    sym (image_room (generate_rows n m) g before (λ none. rule-within seed n m g (accepted_where (generate_rows n m) g none)) h) ∙ ap answer_of (sym x.answer ∙ ap wrote e) in
    true≢false (sym (answered_among (4 ∷ 5 ∷ []) (generate_rows n m) tt BufferLength (refl, (refl, tt)) short))
