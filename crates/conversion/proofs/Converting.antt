-- What octets hold, or a seed makes, is put in the other form: the octets' or the numbers' grounds refuse first, and past them the plan is theirs and within the limits, so that the other
-- call's rows past 0 decide. Assumes nothing.
use mathlib.Core.Bool.{true}
use mathlib.Core.List.{List, ◌++◌}
use mathlib.Core.Path.{◌≡◌, refl, sym, ap, ◌∙◌}
use Prim.Native.Nat.{ℕ}
use lib.ListN.{length}
use Rattle.graph.specs.Graph.{Graph, states, count}
use Rattle.rules.specs.Answer.{Accepted, Written}
use Rattle.std.proofs.Common.{Err}
use Rattle.rules.specs.declared.Refusal.{Refusal}
use Rattle.rules.specs.Aldebaran.{text_rows, graph_in_text, import_text, export_text, export_rows, export_rule}
use Rattle.rules.specs.Calls.{import}
use Rattle.rules.specs.Image.{image, image_length, image_rows, graph_in, read_image}
use Rattle.rules.specs.Limits.{within}
use Rattle.rules.specs.Quotations.{Write}
use Rattle.rules.specs.Refusal.{accepted, refused, said}
use Rattle.rules.specs.Rules.{fresh_graph, fresh_rule, write_rows, write_rule, written, next}
use Rattle.rules.specs.Table.{Row, by_table, first, NoneHolds}
use Rattle.rules.proofs.ImportExport.{import-within}
use Rattle.rules.proofs.Basic.{fresh_done, import_given}
use Rattle.rules.proofs.Kept.{fresh-within}
use Rattle.rules.proofs.ReadWrite.{read-within}
use Rattle.rules.proofs.Tables.{accepted_only, accepted_where, answer-first, after_none, after-refused}
use Rattle.taken.specs.Taken.{bits_taken}
use Rattle.plan.specs.declared.Edited.{Edited}
use Rattle.arrays.specs.declared.Plan.{Plan}
use Rattle.plan.specs.Promise.{Edit, Turn, Held}
use Rattle.plan.specs.View.{view, no_plan}
use Rattle.generated.specs.Generated.{generated_graph, generate_rows, generate_rule}
use Rattle.generated.proofs.Limits.{rule-within}
use Rattle.conversion.specs.Rules.{past_limits, image_rule, text_rule, seed_rule}

-- ---- octets that hold a plan by their rows, and a call that puts some of it

module _ (rows last : List Row) (g : Graph) (p : Plan) (e : Edited) {bits : ℕ} (x : Edit p (by_table rows g) bits e) where
  by_rows : said e.answer ≡ first rows
  by_rows = x.answer ∙ answer-first rows g

  -- refused octets leave the buffer
  stays : (k : Refusal) → e.answer ≡ Err k → (octets before : List ℕ) (n : ℕ)
      → Write octets (by_table (rows ++ last) n) before before (Err k)
  stays k a octets before n =
      let d : by_table (rows ++ last) n ≡ refused k = after-refused rows last n k (sym by_rows ∙ ap said a) in
      record { answer = sym d; buffer = sym (ap (written octets before) d) }

  -- past the octets' grounds none of them holds, the plan is theirs, and the call's rows decide
  module _ (a : e.answer ≡ Accepted) where
    none : NoneHolds rows
    none = (accepted_only rows tt tt (sym by_rows ∙ ap said a)).0

    accepts : by_table rows g ≡ accepted g
    accepts = accepted_where rows g none

    holds : view e.plan ≡ g
    holds = x.plan ∙ ap (next (view p)) accepts

    puts : (n : ℕ) {octets before after : List ℕ} {w : Written} → Write octets (by_table last n) before after w → Write octets (by_table (rows ++ last) n) before after w
    puts n y = rw (after_none rows last n none) y

-- ---- its image written, where the plan is within the limits

module _ (rows : List Row) (g : Graph) (p : Plan) (e : Edited) {bits : ℕ} (x : Edit p (by_table rows g) bits e) (before : List ℕ) where
  image_of : e.answer ≡ Accepted → within g ≡ true → (after : List ℕ) (w : Written) → Write (image (view e.plan)) (write_rule (view e.plan) before) before after w
      → Write (image g) (by_table (rows ++ past_limits (write_rows g before)) (image_length (states g) (count g))) before after w
  unfolding write_rule
  image_of a i after w z =
      let z' : Write (image g) (write_rule g before) before after w = rw (← holds rows (past_limits (write_rows g before)) g p e x a) z in
      puts rows (past_limits (write_rows g before)) g p e x a (image_length (states g) (count g)) (rw i at z')

-- ---- an image for a text

module _ (text before : List ℕ) (f : Edited) (y : Edit no_plan (fresh_rule 1) 0 f) (e : Edited) (x : Turn f.plan (import text) e) where
  -- the text is imported over a plan of one state, which is within the limits: the text alone decides
  alone : Edit f.plan (by_table (text_rows text) (graph_in_text text)) 0 e
  unfolding import_text
  alone =
      let v : view f.plan ≡ fresh_graph 1 = y.plan ∙ ap (next (view no_plan)) (fresh_done 1 refl) in
      rw (← import_given (view f.plan) text (ap within v ∙ fresh-within 1 refl)) x

  pub image-refused : (k : Refusal) → e.answer ≡ Err k → Write (image (graph_in_text text)) (image_rule text before) before before (Err k)
  unfolding image_rule
  image-refused k a = stays (text_rows text) (past_limits (write_rows (graph_in_text text) before)) (graph_in_text text) f.plan e alone k a _ before _

  pub image-put : e.answer ≡ Accepted → (after : List ℕ) (w : Written) → Write (image (view e.plan)) (write_rule (view e.plan) before) before after w
      → Write (image (graph_in_text text)) (image_rule text before) before after w
  unfolding image_rule import_text
  image-put a =
      let g : Graph = graph_in_text text in
      image_of (text_rows text) g f.plan e alone before a (import-within text g (accepts (text_rows text) (past_limits (write_rows g before)) g f.plan e alone a))

-- ---- a text for an image

module _ (octets before : List ℕ) (e : Edited) (x : Held octets e) where
  read : Edit no_plan (by_table (image_rows octets) (graph_in octets)) (bits_taken octets) e
  unfolding read_image
  read = x

  pub text-refused : (k : Refusal) → e.answer ≡ Err k → Write (export_text (graph_in octets)) (text_rule octets before) before before (Err k)
  unfolding text_rule
  text-refused k a = stays (image_rows octets) (past_limits (export_rows (graph_in octets) before)) (graph_in octets) no_plan e read k a _ before _

  pub text-put : e.answer ≡ Accepted → (after : List ℕ) (w : Written) → Write (export_text (view e.plan)) (export_rule (view e.plan) before) before after w
      → Write (export_text (graph_in octets)) (text_rule octets before) before after w
  unfolding text_rule export_rule read_image
  text-put a after w z =
      let g : Graph = graph_in octets in
      let h = holds (image_rows octets) (past_limits (export_rows g before)) g no_plan e read a in
      let i : within g ≡ true = read-within octets g (accepts (image_rows octets) (past_limits (export_rows g before)) g no_plan e read a) in
      let z' : Write (export_text g) (export_rule g before) before after w = rw (← h) z in
      puts (image_rows octets) (past_limits (export_rows g before)) g no_plan e read a (length (export_text g)) (rw i at z')

-- ---- an image for a seed

module _ (seed n m : ℕ) (before : List ℕ) (e : Edited) (x : Edit no_plan (generate_rule seed n m) 0 e) where
  made : Edit no_plan (by_table (generate_rows n m) (generated_graph seed n m)) 0 e
  unfolding generate_rule
  made = x

  pub seed-refused : (k : Refusal) → e.answer ≡ Err k → Write (image (generated_graph seed n m)) (seed_rule seed n m before) before before (Err k)
  unfolding seed_rule
  seed-refused k a = stays (generate_rows n m) (past_limits (write_rows (generated_graph seed n m) before)) (generated_graph seed n m) no_plan e made k a _ before _

  pub seed-put : e.answer ≡ Accepted → (after : List ℕ) (w : Written) → Write (image (view e.plan)) (write_rule (view e.plan) before) before after w
      → Write (image (generated_graph seed n m)) (seed_rule seed n m before) before after w
  unfolding seed_rule generate_rule
  seed-put a =
      let g : Graph = generated_graph seed n m in
      image_of (generate_rows n m) g no_plan e made before a (rule-within seed n m g (accepts (generate_rows n m) (past_limits (write_rows g before)) g no_plan e made a))
