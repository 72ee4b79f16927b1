-- Puts one after another. A put of nothing changes nothing; a put within the buffer leaves its length; and xs put, and then ys from the place after them, is
-- xs ++ ys put, since what stands up to that place is then what stood before `at` and xs, and what stands from there on is as it was. Assumes nothing.
use Prim.Native.Nat.{ℕ, ◌+◌, ◌≤◌}
use mathlib.Core.List.{List, [], ◌++◌, append_assoc}
use mathlib.Core.Path.{◌≡◌, sym, ap, ◌∙◌}
use native.Mathlib.Omega.{arith}
use lib.ListN.{length, take, drop, length-append}
use lib.Seq.{paste-zero, length-paste, length-take-le, take_at, drop_at, drop-drop, take-length}
use Rattle.text.specs.Put.{Put}

pub put-none : (b : List ℕ) (at : ℕ) → Put b at [] b at
put-none b at = record { places = paste-zero b at []; end = omega arith }

module _ {b : List ℕ} {at : ℕ} {xs c : List ℕ} {r : ℕ} (p : Put b at xs c r) where
  pub put-length : at + length xs ≤ length b → length c ≡ length b
  put-length h =
      let e : take (length xs) xs ≡ xs = take-length xs in
      ap length p.places ∙ rw e at (length-paste b at xs (length xs) h (omega arith))

  -- where there is room for xs and ys, there is room for ys once xs are put
  pub put_room : (ys : List ℕ) → at + length (xs ++ ys) ≤ length b → r + length ys ≤ length c
  put_room ys h =
      let n : length (xs ++ ys) ≡ length xs + length ys = length-append xs ys in
      omega (arith, put-length (omega arith))

  module _ (inside : at ≤ length b) where
    front : length (take at b ++ xs) ≡ r
    front = length-append (take at b) xs ∙ ap (λ (n : ℕ). n + length xs) (length-take-le at b inside) ∙ sym p.end

    -- what stands up to the place after a put, and what stands past it
    take_put : take r c ≡ take at b ++ xs
    take_put = rw p.places (take_at (take at b ++ xs) (drop (at + length xs) b) r front)

    drop-put : (n : ℕ) → drop (r + n) c ≡ drop (at + length xs + n) b
    drop-put n =
        sym (drop-drop n r c)
        ∙ ap (λ (l : List ℕ). drop n l) (rw p.places (drop_at (take at b ++ xs) (drop (at + length xs) b) r front))
        ∙ drop-drop n (at + length xs) b

    -- xs and then ys
    pub put_then : {ys d : List ℕ} {s : ℕ} → Put c r ys d s → Put b at (xs ++ ys) d s
    put_then {ys} q =
        let n : at + length xs + length ys ≡ at + length (xs ++ ys) = omega (arith, length-append xs ys) in
        record {
          places = q.places ∙ rw (take_put, drop-put (length ys), append_assoc (take at b) xs ys, n);
          end = omega arith;
        }
