-- What is printed: each answer of the quotation of an image prints what is promised (`prints-refusal`, `prints-figures`), since the image decides before
-- the places do; a short buffer is refused (`prints_nothing`). Assumes nothing.
use mathlib.Core.List.{List, [], ◌∷◌}
use mathlib.Core.Path.{◌≡◌, refl, sym, ap, subst, ◌∙◌}
use Prim.Native.Nat.{ℕ, ◌≤◌, ◌<◌}
use native.Mathlib.Omega.{arith}
use borrow.Author.Tests.{lt-ltb, le-ltb}
use lib.ListN.{length, length-append}
use Rattle.graph.specs.Graph.{Graph}
use Rattle.rules.specs.declared.FourQuotes.{FourQuotes}
use Rattle.rules.specs.Answer.{Quotations}
use Rattle.std.proofs.Common.{Ok, Err}
use Rattle.rules.specs.declared.Refusal.{Refusal}
use Rattle.rules.specs.declared.Refusal.TheVariants.{BufferLength}
use Rattle.rules.specs.Image.{graph_in, image_rows, read_image}
use Rattle.rules.specs.Quotations.{QuotesHeld, held_rows, held_rule, said_quotations}
use Rattle.rules.specs.Refusal.{Result, accepted, refused, number, answer_of}
use Rattle.rules.specs.Rules.{buffer_row}
use Rattle.rules.specs.Table.{first}
use Rattle.rules.proofs.Results.{never}
use Rattle.rules.proofs.Tables.{accepted_only, accepted_where, after_none, after-refused, answer-first, none-append}
use Rattle.wording.specs.Lines.{lines_of, refused_line}
use Rattle.text.specs.Put.{Put}
use Rattle.four_lines.specs.Room.{room}
use Rattle.lines.specs.Printed.{Prints, Printed, answer_rows}

-- ---- the buffer's row

module _ (image before : List ℕ) where
  pub prints_nothing : length before < room → Printed image before before (Err BufferLength)
  prints_nothing h = record {
    answer = rw (lt-ltb (length before) room h) refl;
    kept = λ k e. refl;
    printed = λ n e. let z : ◌≡◌ {A = ℕ} 0 1 = cc in absurd (omega arith);
  }

  -- what was put is the promise of a buffer that is long enough
  prints : {after : List ℕ} {n : ℕ} → room ≤ length before → Prints image before after n → Printed image before after (Ok n)
  prints {after} {n} h p =
      let d : first (answer_rows before) ≡ accepted tt = rw (le-ltb (length before) room h) refl in
      record {
        answer = sym d;
        kept = λ k e. absurd (never tt k (sym e ∙ d));
        printed = λ m e. let same : n ≡ m = cc in subst (λ (z : ℕ). Prints image before after z) same p;
      }

-- ---- what the quotation of an image says of it, lent enough places

module _ (image places left : List ℕ) (a : Quotations) (h : 2048 ≤ length places) (x : QuotesHeld image places left a) where
  -- quotes are of the plan that the image holds
  read-quoted : (q : FourQuotes) → a ≡ Ok q → read_image image ≡ accepted (graph_in image)
  unfolding held_rule read_image
  read-quoted q e =
      let n = none-append (image_rows image) (buffer_row places 2048 ∷ []) (accepted_only (held_rows image places) tt tt (sym x.answer ∙ ap said_quotations e)).0 in
      accepted_where (image_rows image) (graph_in image) n.0

  -- a refusal is the image's
  read-refused : (k : Refusal) → a ≡ Err k → read_image image ≡ refused k
  unfolding held_rule read_image
  read-refused k e = go (read_image image) refl
    where
      go : (o : Result Graph) → read_image image ≡ o → o ≡ refused k
      go (accepted g) i =
          let n = (accepted_only (image_rows image) (graph_in image) g i).0 in
          let d : first (held_rows image places) ≡ accepted tt = after_none (image_rows image) (buffer_row places 2048 ∷ []) tt n ∙ rw (le-ltb (length places) 2048 h) refl in
          absurd (never tt k (ap said_quotations (sym e) ∙ x.answer ∙ d))
      go (refused j) i =
          let d : first (held_rows image places) ≡ refused j = after-refused (image_rows image) (buffer_row places 2048 ∷ []) tt j (sym (answer-first (image_rows image) (graph_in image)) ∙ ap answer_of i) in
          let z : ◌≡◌ {A = Result (Unit {0})} (refused k) (refused j) = ap said_quotations (sym e) ∙ x.answer ∙ d in
          let y : j ≡ k = cc in
          ap refused y

  module _ {before after : List ℕ} {n : ℕ} (l : room ≤ length before) where
    pub prints-figures : (q : FourQuotes) → a ≡ Ok q → Put before 0 (lines_of q left) after n → Printed image before after (Ok n)
    prints-figures q e p = prints image before l (record {
      octets = lines_of q left;
      lines = rw (read-quoted q e) (record { quotes = q; lent = places; places = left; stated = x.quoted q e; lines = refl });
      put = p;
    })

    pub prints-refusal : (k : Refusal) (m : ℕ) → m ≡ number k → a ≡ Err k → Put before 0 (refused_line m) after n → Printed image before after (Ok n)
    prints-refusal k m d e p = prints image before l (record { octets = refused_line m; lines = rw (read-refused k e) (ap refused_line d); put = p })

-- what is printed lies within the buffer
pub prints-within : (image before after : List ℕ) (n : ℕ) → Prints image before after n → n ≤ length after
prints-within image before after n p = omega (arith, p.put.end, simp length-append at (ap length p.put.places))
