-- What follows from the promises alone, of whatever keeps them. A refused call hands the plan value back, and after an accepted one every place past
-- the counts is as it was: both are in the one equation of the whole value. A list of calls gives the answers and the plan that the rules give
-- from the calls' arguments: each call's promise is one step of the rules, so the list is a run of them. What write puts reads back as the plan,
-- and what read accepts writes back as the version 2 image of its plan, so where that was its version as the octets; so it is with import and export, but for the marks that a text does not hold: the rules say so of images and of
-- texts, and the promises equate the calls with the rules. And the plan
-- value beside a refused fresh is refused by 0 in every call.
-- Assumes nothing.
use mathlib.Core.Bool.{true, false}
use mathlib.Core.List.{List, ◌∷◌, ◌++◌, map}
use mathlib.Core.Path.{◌≡◌, refl, sym, ap, ap₂, ◌∙◌}
use Prim.Native.Nat.{ℕ, ◌≤◌}
use borrow.Author.Tests.{le-ltb, eqb-true}
use lib.Dec.{eqb}
use lib.ListN.{length, take, drop}
use lib.Seq.{take_at}
use Rattle.graph.specs.Graph.{Graph, states, count}
use Rattle.field.specs.Field.{Octets}
use Rattle.rules.specs.Answer.{Accepted, Answer, Written}
use Rattle.std.proofs.Common.{Ok, Err}
use Rattle.rules.specs.declared.Refusal.{Refusal}
use Rattle.rules.specs.Calls.{Call, read, import, replacing, rows_of, effect_of, step, run, run_fresh}
use Rattle.rules.specs.declared.Format.{Format}
use Rattle.rules.specs.declared.Format.TheVariants.{Image, Text}
use Rattle.rules.specs.Aldebaran.{starts, import_text, export_text, export_rows, export_rule, stripped}
use Rattle.rules.specs.Image.{image_by, image, image_length, version_of, read_image}
use Rattle.rules.specs.Limits.{within, state_count_ok}
use Rattle.rules.specs.Quotations.{Write}
use Rattle.rules.specs.Refusal.{Result, accepted, refused, answer_of, said, wrote}
use Rattle.rules.specs.Rules.{fresh_graph, fresh_rule, write_rows, write_rule, written, next}
use Rattle.rules.proofs.ImportExport.{import-within, import-export, import-start, export-import}
use Rattle.rules.proofs.Basic.{fresh_done, read_given, import_given}
use Rattle.rules.proofs.Results.{never, not-false, accepted_as, accepted-answer}
use Rattle.rules.proofs.Tables.{accepted_only}
use Rattle.rules.proofs.ReadWrite.{length-image_by, length-image, read-image, image-read, read-within}
use Rattle.plan.specs.declared.Edited.{Edited}
use Rattle.arrays.specs.declared.Plan.{Plan}
use Rattle.plan.specs.Promise.{Edit, Turn, Held, HeldIn, next_value, Obeyed, none, more}
use Rattle.plan.specs.View.{view, no_plan}
use Rattle.plan_limits.proofs.Limits.{states-out}
use Rattle.plan.specs.Laws.{limits-view}

-- ---- one call

-- "Any refused event: the plan stays": the very value that was passed in
pub refused_keeps : (p : Plan) (o : Result Graph) (r : Edited) (k : Refusal) {bits : ℕ} → Edit p o bits r → o ≡ refused k → r.plan ≡ p
refused_keeps p o r k x e = x.whole ∙ ap (next_value p) e

-- ---- a list of calls

pub obeyed-run : {p q : Plan} {calls : List Call} {answers : List Answer} → Obeyed p calls answers q
    → (map said answers ≡ (run (view p) calls).answers) × (view q ≡ (run (view p) calls).last)
unfolding run
obeyed-run none = (refl, refl)
obeyed-run (more {p} {q} {call} {calls} {answers} e x rest) =
    let r = obeyed-run rest in (
      ap₂ {C = List (Result (Unit {0}))} (λ a as'. a ∷ as') x.answer (r.0 ∙ ap (λ (g : Graph). (run g calls).answers) x.plan),
      r.1 ∙ ap (λ (g : Graph). (run g calls).last) x.plan,
    )

-- "They start from the plan of a fresh with any n from 1 to 512": fresh is accepted, and the list is the run from its plan
pub fresh-run : (n : ℕ) {q : Plan} {calls : List Call} {answers : List Answer} (e : Edited) → state_count_ok n ≡ true → Edit no_plan (fresh_rule n) 0 e
    → Obeyed e.plan calls answers q
    → (e.answer ≡ Accepted) × (map said answers ≡ (run_fresh n calls).answers) × (view q ≡ (run_fresh n calls).last)
fresh-run n {q} {calls} {answers} e h x o =
    let r : fresh_rule n ≡ accepted (fresh_graph n) = fresh_done n h in
    let v : view e.plan ≡ fresh_graph n = x.plan ∙ ap (next (view no_plan)) r in
    let l = obeyed-run o in (
      accepted-answer e.answer (x.answer ∙ ap answer_of r),
      l.0 ∙ ap (λ (g : Graph). (run g calls).answers) v,
      l.1 ∙ ap (λ (g : Graph). (run g calls).last) v,
    )

-- ---- octets put into a buffer, and octets that replace a plan

pub length-answer : (w : Written) (n : ℕ) → wrote w ≡ accepted n → w ≡ Ok n
length-answer (Ok m) n e = let s : m ≡ n = cc in rw s
length-answer (Err r) n e = absurd (never n r e)

-- what an accepted call put at the front of a buffer
front_of : (octets : List ℕ) (o : Result ℕ) (before after : List ℕ) (n : ℕ) → Write octets o before after (Ok n) → length octets ≡ n → take n after ≡ octets
front_of octets o before after n w l =
    ap (λ (b : List ℕ). take n b) (w.buffer ∙ ap (written octets before) (sym w.answer)) ∙ take_at octets (drop n before) n l

-- a call that puts known octets, and is accepted
pub puts : (octets known : List ℕ) (o : Result ℕ) (before after : List ℕ) (w : Written) → Write octets o before after w → octets ≡ known → o ≡ accepted (length known)
    → (w ≡ Ok (length known)) × (after ≡ known ++ drop (length known) before)
puts octets known o before after w x e a = (
  length-answer w (length known) (x.answer ∙ a),
  x.buffer ∙ ap (written octets before) a ∙ ap {B = List ℕ} (λ (l : List ℕ). l ++ drop (length known) before) e,
)

-- a call that is accepted comes to the rules' plan, and only there
comes_to_lem : (old : Plan) (o : Result Graph) (g : Graph) (e : Edited) {bits : ℕ} → Edit old o bits e → o ≡ accepted g → (e.answer ≡ Accepted) × (view e.plan ≡ g)
comes_to_lem old o g e x r = (accepted-answer e.answer (x.answer ∙ ap answer_of r), x.plan ∙ ap (next (view old)) r)

came-to : (old : Plan) (o : Result Graph) (e : Edited) {bits : ℕ} → Edit old o bits e → e.answer ≡ Accepted → o ≡ accepted (view e.plan)
came-to old o e x a =
    let m = accepted_as o (ap said (sym a) ∙ x.answer) in
    m.1 ∙ ap accepted (sym (x.plan ∙ ap (next (view old)) m.1))

-- one that replaces the plan was given one within the limits
within-old : (old : Plan) (format : Format) (octets : List ℕ) (g : Graph) → step (view old) (replacing format octets) ≡ accepted g → within (view old) ≡ true
within-old old Image octets g e = not-false (within (view old)) (accepted_only (rows_of (view old) (read octets)) (effect_of (view old) (read octets)) g e).0.0
within-old old Text octets g e = not-false (within (view old)) (accepted_only (rows_of (view old) (import octets)) (effect_of (view old) (import octets)) g e).0.0

-- ---- the image, both ways

-- what an accepted write says of the plan and of the length
pub accepted-write : (g : Graph) (b : List ℕ) (n : ℕ) → write_rule g b ≡ accepted n → (within g ≡ true) × (image_length (states g) (count g) ≡ n)
unfolding write_rule
accepted-write g b n e =
    let k = accepted_only (write_rows g b) (image_length (states g) (count g)) n e in
    (not-false (within g) k.0.0, k.1)

-- what was written holds that plan
written-holds : (p : Plan) (before after : List ℕ) (n : ℕ) → Write (image (view p)) (write_rule (view p) before) before after (Ok n) → read_image (take n after) ≡ accepted (view p)
written-holds p before after n w =
    let g : Graph = view p in
    let a = accepted-write g before n (sym w.answer) in
    ap read_image (front_of (image g) (write_rule g before) before after n w (length-image g ∙ a.1)) ∙ read-image g a.0

-- every plan written reads back as that plan, over any old plan that is within the limits
pub write-then-read : (p old : Plan) (before after : List ℕ) (n : ℕ) (e : Edited) → within (view old) ≡ true
    → Write (image (view p)) (write_rule (view p) before) before after (Ok n)
    → Turn old (read (take n after)) e → (e.answer ≡ Accepted) × (view e.plan ≡ view p)
write-then-read p old before after n e h w x =
    comes_to_lem old (step (view old) (read (take n after))) (view p) e x (read_given (view old) (take n after) h ∙ written-holds p before after n w)

-- what an accepted read says: the octets hold the new plan
pub accepted-read : (old : Plan) (octets : List ℕ) (e : Edited) → Turn old (read octets) e → e.answer ≡ Accepted
    → read_image octets ≡ accepted (view e.plan)
accepted-read old octets e x a =
    let m = came-to old (step (view old) (read octets)) e x a in
    sym (read_given (view old) octets (within-old old Image octets (view e.plan) m)) ∙ m

-- the same of a plan that was made of an image from nothing, and of what was written
pub accepted-held : (octets : List ℕ) (e : Edited) → Held octets e → e.answer ≡ Accepted → read_image octets ≡ accepted (view e.plan)
accepted-held octets e x a = came-to no_plan (read_image octets) e x a

pub write-then-held : (p : Plan) (before after : List ℕ) (n : ℕ) (e : Edited) → Write (image (view p)) (write_rule (view p) before) before after (Ok n)
    → Held (take n after) e → (e.answer ≡ Accepted) × (view e.plan ≡ view p)
write-then-held p before after n e w x = comes_to_lem no_plan (read_image (take n after)) (view p) e x (written-holds p before after n w)

-- every image read writes back as the version 2 image of its plan, into any buffer that has room
pub read-then-image : (old : Plan) (octets : List ℕ) (e : Edited) (before after : List ℕ) (w : Written) → Octets octets → Turn old (read octets) e
    → e.answer ≡ Accepted → Write (image (view e.plan)) (write_rule (view e.plan) before) before after w → length octets ≤ length before
    → (w ≡ Ok (length octets)) × (after ≡ image (view e.plan) ++ drop (length octets) before)
unfolding write_rule
read-then-image old octets e before after w ho x a y room =
    let g : Graph = view e.plan in
    let r : read_image octets ≡ accepted g = accepted-read old octets e x a in
    let k : image_length (states g) (count g) ≡ length octets = sym (length-image_by (version_of octets) g) ∙ ap length (image-read octets g r ho) in
    let l : length (image g) ≡ length octets = length-image g ∙ k in
    let o : write_rule g before ≡ accepted (length (image g)) = rw (read-within octets g r, k, le-ltb (length before) (length octets) room) (ap accepted (sym l)) in
    let (is, there) = puts (image g) (image g) (write_rule g before) before after w y refl o in
    (is ∙ ap Ok l, there ∙ ap {B = List ℕ} (λ (n : ℕ). image g ++ drop n before) l)

-- so one of version 2 writes back as those octets
pub read-then-write : (old : Plan) (octets : List ℕ) (e : Edited) (before after : List ℕ) (w : Written) → Octets octets → version_of octets ≡ 2
    → Turn old (read octets) e
    → e.answer ≡ Accepted → Write (image (view e.plan)) (write_rule (view e.plan) before) before after w → length octets ≤ length before
    → (w ≡ Ok (length octets)) × (after ≡ octets ++ drop (length octets) before)
read-then-write old octets e before after w ho two x a y room =
    let g : Graph = view e.plan in
    let i : image g ≡ octets = ap (λ (v : ℕ). image_by v g) (sym two) ∙ image-read octets g (accepted-read old octets e x a) ho in
    let (is, there) = read-then-image old octets e before after w ho x a y room in
    (is, there ∙ ap {B = List ℕ} (λ (l : List ℕ). l ++ drop (length octets) before) i)

-- ---- the text, both ways

-- what an accepted export says of the plan and of the length
pub accepted-export : (g : Graph) (b : List ℕ) (n : ℕ) → export_rule g b ≡ accepted n
    → (within g ≡ true) × (length (starts g) ≡ 1) × (length (export_text g) ≡ n)
unfolding export_rule
accepted-export g b n e =
    let k = accepted_only (export_rows g b) (length (export_text g)) n e in
    (not-false (within g) k.0.0, eqb-true (length (starts g)) 1 (not-false (eqb (length (starts g)) 1) k.0.1.0), k.1)

-- what was exported holds the plan "stripped of its final and counted marks"
exported_holds : (p : Plan) (before after : List ℕ) (n : ℕ) → Write (export_text (view p)) (export_rule (view p) before) before after (Ok n)
    → import_text (take n after) ≡ accepted (stripped (view p))
exported_holds p before after n w =
    let g : Graph = view p in
    let (inside, one, long) = accepted-export g before n (sym w.answer) in
    ap import_text (front_of (export_text g) (export_rule g before) before after n w long) ∙ export-import g inside one

-- "Exported text imports as the plan stripped of its final and counted marks", over any old plan that is within the limits
pub export-then-import : (p old : Plan) (before after : List ℕ) (n : ℕ) (e : Edited) → within (view old) ≡ true
    → Write (export_text (view p)) (export_rule (view p) before) before after (Ok n)
    → Turn old (import (take n after)) e → (e.answer ≡ Accepted) × (view e.plan ≡ stripped (view p))
export-then-import p old before after n e h w x =
    comes_to_lem old (step (view old) (import (take n after))) (stripped (view p)) e x (import_given (view old) (take n after) h ∙ exported_holds p before after n w)

-- and from nothing
pub export-then-held : (p : Plan) (before after : List ℕ) (n : ℕ) (e : Edited) → Write (export_text (view p)) (export_rule (view p) before) before after (Ok n)
    → HeldIn Text (take n after) e → (e.answer ≡ Accepted) × (view e.plan ≡ stripped (view p))
export-then-held p before after n e w x = comes_to_lem no_plan (import_text (take n after)) (stripped (view p)) e x (exported_holds p before after n w)

-- what an accepted import says: the text holds the new plan
pub accepted-import : (old : Plan) (text : List ℕ) (e : Edited) → Turn old (import text) e → e.answer ≡ Accepted
    → import_text text ≡ accepted (view e.plan)
accepted-import old text e x a =
    let m = came-to old (step (view old) (import text)) e x a in
    sym (import_given (view old) text (within-old old Text text (view e.plan) m)) ∙ m

-- the plan of a text exports as those octets, into any buffer that has room
pub text-then-export : (text : List ℕ) (g : Graph) (before after : List ℕ) (w : Written) → import_text text ≡ accepted g
    → Write (export_text g) (export_rule g before) before after w → length text ≤ length before
    → (w ≡ Ok (length text)) × (after ≡ text ++ drop (length text) before)
unfolding export_rule
text-then-export text g before after w r y room =
    let i : export_text g ≡ text = import-export text g r in
    puts (export_text g) text (export_rule g before) before after w y i
    (rw (import-within text g r, import-start text g r, i, le-ltb (length before) (length text) room))

-- every text imported exports as those octets, into any buffer that has room
pub import-then-export : (old : Plan) (text : List ℕ) (e : Edited) (before after : List ℕ) (w : Written) → Turn old (import text) e
    → e.answer ≡ Accepted → Write (export_text (view e.plan)) (export_rule (view e.plan) before) before after w → length text ≤ length before
    → (w ≡ Ok (length text)) × (after ≡ text ++ drop (length text) before)
import-then-export old text e before after w x a y room = text-then-export text (view e.plan) before after w (accepted-import old text e x a) y room

-- ---- no plan

-- "any plan value beside the number has 0 states, all else zero, and every call refuses it by 0"
pub no-plan : within (view no_plan) ≡ false
no-plan = sym (limits-view no_plan (states-out 0 0 no_plan.marks no_plan.teams no_plan.from no_plan.to no_plan.low no_plan.high refl))
