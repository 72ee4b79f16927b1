-- One pass, of whatever keeps the promises: what is accepted or refused is by read's rule, the count is what the rule takes, and what that comes to is known of the rule
-- (taken/proofs/Taken.antt). Then the impostors: a read that fills the old plan's arrays in place, and is refused at the last transition; one that takes its octets twice; one that counts
-- nothing. Assumes nothing.
use mathlib.Core.Bool.{true}
use mathlib.Core.List.{List, [], ◌∷◌}
use mathlib.Core.Path.{◌≡◌, refl, sym, ap, ◌∙◌, subst}
use Prim.Native.Nat.{ℕ, ◌*◌, ◌≤◌}
use native.Mathlib.Omega.{arith}
use lib.Dec.{lit<}
use lib.ListN.{length, get_or}
use Rattle.field.specs.Field.{pack, octets_of, bits, bits_of, bits_of_all, width_of_all, number, field_at}
use Rattle.graph.specs.Known.{plan, join}
use Rattle.rules.specs.declared.Format.TheVariants.{Image}
use Rattle.rules.specs.declared.Refusal.TheVariants.{Duration}
use Rattle.rules.specs.Calls.{read, rows_of, step}
use Rattle.rules.specs.Image.{image, image_by, image_fields, fields_of_each, header_rows, state_rows, image_rows, graph_in, read_image}
use Rattle.rules.specs.Limits.{within}
use Rattle.rules.specs.Quotations.{held_rows, held_rule}
use Rattle.rules.specs.Refusal.{Result, accepted, refused, answer_of, said}
use Rattle.rules.specs.Rules.{buffer_row}
use Rattle.rules.specs.Table.{by_number}
use Rattle.taken.specs.Taken.{refuses, listed_rows, bits_taken, RefusedAtTransition, Ends}
use Rattle.rules.proofs.Basic.{read_given}
use Rattle.rules.proofs.Results.{not-false, accepted-answer}
use Rattle.rules.proofs.Tables.{accepted_only, accepted_where, none-append}
use Rattle.taken.proofs.Taken.{refuses-none, transition_taken, last_taken, accepted_taken, never-more, ends, read-bits, read-most, limits-bits}
use Rattle.plan.specs.declared.Edited.{Edited}
use Rattle.arrays.specs.declared.Plan.{Plan}
use Rattle.plan.specs.Promise.{next_value}
use Rattle.plan.specs.View.{view}
use Rattle.plan.proofs.Promises.{accepted-read, accepted-held}
use Rattle.demands.specs.Calculator.{Calculator, Promises}
use Rattle.demands.specs.Demands.{edit}
use Rattle.demands.specs.OnePass.{OnePass, Reads, over, from_nothing, for_figures}
use Rattle.demands.proofs.Demands.{by_rows}

module _ (c : Calculator) (keeps : Promises c) where
  -- what a read over a plan within the limits takes
  over_taken : {old : Plan} {octets : List ℕ} {e : Edited} → within (view old) ≡ true → c.edits old (read octets) e → e.taken ≡ bits_taken octets
  over_taken {old} {octets} w x = (keeps.edits x).taken ∙ read-bits (view old) octets w

  -- an accepted one was over such a plan
  accepted-old : {old : Plan} {octets : List ℕ} {e : Edited} → c.edits old (read octets) e → said e.answer ≡ accepted tt → within (view old) ≡ true
  accepted-old {old} {octets} x a =
      not-false (within (view old)) (accepted_only (rows_of (view old) (read octets)) tt tt (sym (by_rows c keeps (edit x)) ∙ a)).0.0

  all_taken : {octets : List ℕ} {a : Result (Unit {0})} {bits : ℕ} → Reads c octets a bits → a ≡ accepted tt → bits ≡ 8 * length octets
  unfolding read_image held_rule
  all_taken (over {old} {octets} {e} x) a =
      over_taken (accepted-old x a) x ∙ accepted_taken octets (view e.plan) (accepted-read old octets e (keeps.edits x) (accepted-answer e.answer a))
  all_taken (from_nothing {octets} {e} x) a =
      (keeps.helds x).taken ∙ accepted_taken octets (view e.plan) (accepted-held octets e (keeps.helds x) (accepted-answer e.answer a))
  all_taken (for_figures {octets} {before} x) a =
      let (rows, room) = none-append (image_rows octets) (buffer_row before 2048 ∷ []) (accepted_only (held_rows octets before) tt tt (sym (keeps.quotes-image x).0.answer ∙ a)).0 in
      (keeps.quotes-image x).1 ∙ accepted_taken octets (graph_in octets) (accepted_where (image_rows octets) (graph_in octets) rows)

  never-more_taken : {octets : List ℕ} {a : Result (Unit {0})} {bits : ℕ} → Reads c octets a bits → bits ≤ 8 * length octets
  never-more_taken (over {old} {octets} x) = omega (arith, (keeps.edits x).taken, read-most (view old) octets)
  never-more_taken (from_nothing {octets} x) = omega (arith, (keeps.helds x).taken, never-more octets)
  never-more_taken (for_figures {octets} x) = omega (arith, (keeps.quotes-image x).1, never-more octets)

  pub one-pass : OnePass c
  one-pass = record {
    accepted-costs = all_taken;
    refused-costs = λ k x r. never-more_taken x;
    ends = λ {old} {octets} {e} w x. (
      read_image octets,
      (keeps.edits x).answer ∙ ap answer_of (read_given (view old) octets w),
      subst (Ends octets (read_image octets)) (sym (over_taken w x)) (ends octets),
    );
    limits-cost = λ {old} {octets} w x. (keeps.edits x).taken ∙ limits-bits (view old) Image octets w;
    text-costs = λ x. (keeps.edits x).taken;
    last-leaves = λ {old} {octets} {e} i k w at last x.
        let r : step (view old) (read octets) ≡ refused k = read_given (view old) octets w ∙ (transition_taken octets i k at).0 in
        ((keeps.edits x).answer ∙ ap answer_of r, (keeps.edits x).whole ∙ ap (next_value old) r, over_taken w x ∙ last_taken octets i k at last);
  }

-- an image of two states and two transitions, the last of which has a low above its high
abbrev pub bad_last : List ℕ
bad_last = image (plan (4 ∷ 2 ∷ []) (join 0 1 5 20 ∷ join 0 1 5 3 ∷ []))

pub refused-at-last : RefusedAtTransition bad_last 1 Duration
unfolding header_rows by_number refuses image_by image_fields fields_of_each pack octets_of bits_of bits_of_all width_of_all number field_at bits
refused-at-last =
    record {
      header = refuses-none (header_rows bad_last) refl;
      states = refuses-none (by_number (state_rows bad_last) 0 2) refl;
      transition = record { before = refuses-none (listed_rows bad_last 2 0) refl; listed = lit< tt; here = refl };
    }

-- "must still leave the old plan": it says that it refused, and the first state has the image's marks value
pub fills_in_place : (c : Calculator) → OnePass c → {old : Plan} {e : Edited} → within (view old) ≡ true → c.edits old (read bad_last) e
    → get_or old.marks 0 0 ≡ 0 → get_or e.plan.marks 0 0 ≡ 4 → ⊥
unfolding header_rows by_number image_by image_fields fields_of_each pack octets_of bits_of bits_of_all width_of_all number field_at bits
fills_in_place c d {old} {e} w x before after =
    let (a, same, all) = d.last-leaves 1 Duration w refused-at-last refl x in
    let z : ◌≡◌ {A = ℕ} 4 0 = sym after ∙ ap (λ (p : Plan). get_or p.marks 0 0) same ∙ before in
    omega arith

-- "exactly eight times": a read that takes its octets twice, first to check and then to fill, and says that it took twice as many bits
pub takes-twice : (c : Calculator) → OnePass c → {octets : List ℕ} {bits : ℕ} → Reads c octets (accepted tt) bits → 4 ≤ length octets → bits ≡ 2 * (8 * length octets) → ⊥
takes-twice c d x l twice = omega (arith, d.accepted-costs x refl)

-- and one that says nothing of what it took
pub counts_nothing : (c : Calculator) → OnePass c → {octets : List ℕ} → 4 ≤ length octets → Reads c octets (accepted tt) 0 → ⊥
counts_nothing c d l x = omega (arith, d.accepted-costs x refl)
