-- What a filling of a lent buffer promises. The octets of an image, of a record or of a text are few, so their number fits the answer; and the promise of the
-- plan's own call, on the plan value that was loaded, is the promise on the slices.
-- Assumes nothing.
use mathlib.Core.Bool.{true, false}
use mathlib.Core.List.{List}
use mathlib.Core.Path.{◌≡◌, refl, sym, ap, ◌∙◌}
use Prim.Native.Nat.{ℕ, ◌≤◌}
use native.Mathlib.Omega.{arith}
use lib.ListN.{length}
use Rattle.graph.specs.Graph.{Graph, states, count}
use Rattle.rules.specs.Answer.{Written}
use Rattle.rules.specs.Aldebaran.{export_text, export_rows, export_rule}
use Rattle.rules.specs.Image.{image_length}
use Rattle.rules.specs.Limits.{within}
use Rattle.rules.specs.Quotations.{Write, record_rows, record_rule}
use Rattle.rules.specs.Refusal.{Result, accepted, wrote}
use Rattle.rules.specs.Rules.{write_rows, write_rule, written}
use Rattle.rules.proofs.ReadWrite.{limited}
use Rattle.rules.proofs.Results.{not-false}
use Rattle.rules.proofs.Tables.{accepted_only}
use Rattle.exported.proofs.Short.{text-short}
use Rattle.arrays.specs.declared.Plan.{Plan}
use Rattle.plan.specs.View.{view}
use Rattle.slices.specs.Lent.{Slices, has_room, plan_in}
use Rattle.lent.specs.declared.Content.{Content}
use Rattle.lent.specs.declared.Content.TheVariants.{Image, Record, Text}
use Rattle.lent.specs.Written.{LentWrite, length_code}
use Rattle.lent.specs.Written.{octets_of, rule_of}
use Rattle.slices.proofs.Stores.{true-false}

-- no image is longer than that of 512 states and 2,048 transitions, a record has 11 octets, and no text is longer than `text-short` says
pub few : (content : Content) (g : Graph) (b : List ℕ) (n : ℕ) → accepted n ≡ rule_of content g b → n ≤ 51221
unfolding write_rule record_rule export_rule
few Image g b n e =
    let k = accepted_only (write_rows g b) (image_length (states g) (count g)) n (sym e) in
    omega (arith, limited g (not-false (within g) k.0.0), k.1)
few Record g b n e = omega (arith, (accepted_only (record_rows g b) 11 n (sym e)).1)
few Text g b n e =
    let k = accepted_only (export_rows g b) (length (export_text g)) n (sym e) in
    omega (arith, text-short g (not-false (within g) k.0.0), k.1)

-- ---- the promise on the slices

pub short : (s : Slices) (octets : List ℕ) (o : Result ℕ) (b : List ℕ) → has_room s ≡ false → LentWrite s octets o b b 255
short s octets o b e = record { short = λ h. (refl, refl); answer = λ h. true-false (has_room s) h e; buffer = λ h. true-false (has_room s) h e }

pub filled : (content : Content) (p : Plan) (s : Slices) (b b' : List ℕ) (w : Written) (r : ℕ) → has_room s ≡ true → p ≡ plan_in s
    → Write (octets_of content (view p)) (rule_of content (view p) b) b b' w → r ≡ length_code (wrote w)
    → LentWrite s (octets_of content (view (plan_in s))) (rule_of content (view (plan_in s)) b) b b' r
filled content p s b b' w r room h x e =
    record {
      short = λ k. true-false (has_room s) room k;
      answer = λ k. e ∙ ap length_code x.answer ∙ ap (λ (q : Plan). length_code (rule_of content (view q) b)) h;
      buffer = λ k. x.buffer ∙ ap (λ (q : Plan). written (octets_of content (view q)) b (rule_of content (view q) b)) h;
    }
