-- The puts of a line's parts in a row are the put of the line, since each has room where the whole has; and fewer lines take no more room. Assumes nothing.
use Prim.Native.Nat.{ℕ, zero, suc, ◌+◌, ◌-◌, ◌≤◌}
use mathlib.Core.List.{List, ◌++◌}
use native.Mathlib.Omega.{arith}
use lib.ListN.{length, length-append}
use mathlib.Core.Path.{◌≡◌}
use Rattle.graph.specs.Graph.{Transition}
use Rattle.rules.specs.Image.{tabulate}
use Rattle.aldebaran.specs.Form.{written}
use Rattle.aldebaran.specs.Text.{first_form, line_form, line_text, lines_text}
use Rattle.text.specs.Text.{octets, digits}
use Rattle.text.specs.Put.{Put}
use Rattle.text.proofs.Puts.{put_room, put_then}
use Rattle.text_length.specs.Parts.{first_text}
use Rattle.text_length.proofs.Sums.{lines-length-more}

-- a put, and then one that the room left for it allows
put_next : {b : List ℕ} {at : ℕ} {xs c : List ℕ} {r : ℕ} {ys d : List ℕ} {s : ℕ} → Put b at xs c r → at + length (xs ++ ys) ≤ length b
    → (r + length ys ≤ length c → Put c r ys d s) → Put b at (xs ++ ys) d s
put_next {xs = xs} {ys = ys} p h q = put_then p (omega (arith, length-append xs ys)) (q (put_room p ys h))

pub first-put : (i m n : ℕ) {b c d e f : List ℕ} {at r s t u : ℕ} → at + length (first_text i m n) ≤ length b
    → Put b at (octets "des (" ++ digits i) c r → Put c r (octets ", " ++ digits m) d s → Put d s (octets ", " ++ digits n) e t → Put e t (octets ")\n") f u
    → Put b at (first_text i m n) f u
unfolding octets written first_form
first-put i m n h p q v w = put_next p h (λ k. put_next q k (λ l. put_next v l (λ z. w)))

pub line-put : (x : Transition) {b c d e f g : List ℕ} {at r s t u v : ℕ} → at + length (line_text x) ≤ length b
    → Put b at (octets "(" ++ digits x.from) c r → Put c r (octets ", \"" ++ digits x.low) d s → Put d s (octets ".." ++ digits x.high) e t
    → Put e t (octets "\", " ++ digits x.to) f u → Put f u (octets ")\n") g v
    → Put b at (line_text x) g v
unfolding octets written line_form line_text
line-put x h p q w y z = put_next p h (λ k. put_next q k (λ l. put_next w l (λ o. put_next y o (λ a. z))))

module _ (f : ℕ → Transition) where
  -- fewer lines take no more room
  lines-front_by : (i k : ℕ) → length (lines_text (tabulate i f)) ≤ length (lines_text (tabulate (i + k) f))
  lines-front_by i zero = let e : i + 0 ≡ i = omega arith in rw e (omega arith)
  lines-front_by i (suc k) =
      let e : i + suc k ≡ suc (i + k) = omega arith in
      rw e (omega (arith, lines-front_by i k, lines-length-more f (i + k)))

  pub lines-front : (i m : ℕ) → i ≤ m → length (lines_text (tabulate i f)) ≤ length (lines_text (tabulate m f))
  lines-front i m h =
      let e : i + (m - i) ≡ m = omega arith in
      rw e at (lines-front_by i (m - i))
