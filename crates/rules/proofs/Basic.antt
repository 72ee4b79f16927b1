-- Facts that the definitions give at once; proof files are checked in the order of their names, so a wrong definition is refused here first.
-- No row is numbered 13, and no two alike. The known octets are the version 1 image of their plan, and the known record is that plan's. Then what each event does, on small plans; the table on small calls in
-- which more than one row holds, where the first one answers, by its number; and what a promise rules out. Last, what callers cite of single calls.
-- Assumes nothing.
use mathlib.Core.Bool.{true, false, true≢false}
use mathlib.Core.List.{List, [], ◌∷◌, map}
use mathlib.Core.Path.{◌≡◌, refl, sym, ap, ◌∙◌}
use Prim.Native.Nat.{ℕ, ◌<◌}
use Prim.Native.String.{String}
use native.Mathlib.Omega.{arith}
use borrow.Author.Tests.{eqb-false}
use lib.Dec.{ltb, lit<}
use lib.ListN.{length, get_or, drop, replicate}
use Rattle.field.specs.Field.{pack, octets_of, bits, bits_of, bits_of_all, width_of_all, number, field_at}
use Rattle.text.specs.Text.{octets as textOctets, leading, digits, value_after, value}
use Rattle.aldebaran.specs.Form.{written as writtenForm, and_then, read_word, is_digit, front, is_numeral, read_number, read_form}
use Rattle.aldebaran.specs.Text.{Holding, first_form, line_form, line_text, lines_text, text_of, read_lines, whole, read_text}
use Rattle.graph.specs.declared.Asked.{Asked}
use Rattle.graph.specs.declared.Asked.TheVariants.{One, LeastCountFor, GreatestCountFor}
use Rattle.graph.specs.declared.Which.TheVariants.{LeastDelay}
use Rattle.graph.specs.Class.{name_ok}
use Rattle.graph.specs.Figure.{Figure, NONE, cost_for}
use Rattle.graph.specs.Known.{P1, P3, P4, P6, open_and_stranded, plan, join as to-join}
use Rattle.graph.specs.Compute.{any, figure_for}
use Rattle.graph.specs.Graph.{Graph, Transition, state_with, states, marks_of, start, final, counted, transition, from, to, low, high}
use Rattle.rules.specs.declared.Refusal.{Refusal}
use Rattle.rules.specs.declared.Refusal.TheVariants.{PlanLimits, ImageShort, ImageLong, Version, StateCount, TransitionCount, SpareBits, StateNumber, Duration, ListFull}
use Rattle.rules.specs.declared.Refusal.TheVariants.{TransitionNumber, BufferLength, MarksValue, StartCount, TextForm, FromState, ToState, TeamNumber}
use Rattle.std.proofs.Common.{Err}
use Rattle.rules.specs.declared.Format.{Format}
use Rattle.rules.specs.declared.Format.TheVariants.{Image, Text}
use Rattle.rules.specs.Aldebaran.{plan_of, holding_rows, text_rows, graph_in_text, import_text, passing, export_text, export_rows, stripped}
use Rattle.rules.specs.Calls.{Call, mark, team, join, unjoin, read, import, replacing, held_in, step, rows_of, run, run_fresh}
use Rattle.rules.specs.Image.{image_by, image, image_fields, fields_of_each, header_rows, image_rows, read_image, graph_in, tabulate}
use Rattle.rules.specs.Limits.{within, all, state_count_ok}
use Rattle.rules.specs.Quotations.{record_octets, record_fields, record_rows, quote_rows, quote_rule, record_rule, all_rows, held_rows, lent_quote_rows, lent_held_rows}
use Rattle.rules.specs.Quotations.{Shows, Quotes, LeastQuoted}
use Rattle.rules.specs.Refusal.{Result, accepted, refused, code, number as number_of}
use Rattle.rules.specs.Rules.{fresh_rows, write_rows, fresh_rule, write_rule, fresh_graph, with_mark, with_team, with_transition, without, written}
use Rattle.rules.specs.Table.{first, by_number, each}

-- ---- the numbers of the table

-- "take it out of the table" (document 02, E8): no row is numbered 13; and none above 18
pub numbered : (r : Refusal) → (number_of r < 19) × (number_of r ≡ 13 → ⊥)
numbered PlanLimits = (lit< tt, eqb-false _ 13 refl)
numbered ImageShort = (lit< tt, eqb-false _ 13 refl)
numbered ImageLong = (lit< tt, eqb-false _ 13 refl)
numbered Version = (lit< tt, eqb-false _ 13 refl)
numbered StateCount = (lit< tt, eqb-false _ 13 refl)
numbered TransitionCount = (lit< tt, eqb-false _ 13 refl)
numbered SpareBits = (lit< tt, eqb-false _ 13 refl)
numbered StateNumber = (lit< tt, eqb-false _ 13 refl)
numbered Duration = (lit< tt, eqb-false _ 13 refl)
numbered ListFull = (lit< tt, eqb-false _ 13 refl)
numbered TransitionNumber = (lit< tt, eqb-false _ 13 refl)
numbered BufferLength = (lit< tt, eqb-false _ 13 refl)
numbered MarksValue = (lit< tt, eqb-false _ 13 refl)
numbered StartCount = (lit< tt, eqb-false _ 13 refl)
numbered TextForm = (lit< tt, eqb-false _ 13 refl)
numbered FromState = (lit< tt, eqb-false _ 13 refl)
numbered ToState = (lit< tt, eqb-false _ 13 refl)
numbered TeamNumber = (lit< tt, eqb-false _ 13 refl)

-- and no two rows have the same number: in the list of the rows by their numbers, with another in the place of 13, each stands at its own
refusals : List Refusal
refusals =
    PlanLimits ∷ ImageShort ∷ ImageLong ∷ Version ∷ StateCount ∷ TransitionCount ∷ SpareBits ∷ StateNumber ∷ Duration ∷ ListFull
    ∷ TransitionNumber ∷ BufferLength ∷ MarksValue ∷ PlanLimits ∷ StartCount ∷ TextForm ∷ FromState ∷ ToState ∷ TeamNumber ∷ []

at_its_number : (r : Refusal) → get_or refusals (number_of r) PlanLimits ≡ r
unfolding refusals
at_its_number PlanLimits = refl
at_its_number ImageShort = refl
at_its_number ImageLong = refl
at_its_number Version = refl
at_its_number StateCount = refl
at_its_number TransitionCount = refl
at_its_number SpareBits = refl
at_its_number StateNumber = refl
at_its_number Duration = refl
at_its_number ListFull = refl
at_its_number TransitionNumber = refl
at_its_number BufferLength = refl
at_its_number MarksValue = refl
at_its_number StartCount = refl
at_its_number TextForm = refl
at_its_number FromState = refl
at_its_number ToState = refl
at_its_number TeamNumber = refl

pub one_number : (j k : Refusal) → number_of j ≡ number_of k → j ≡ k
one_number j k e = sym (at_its_number j) ∙ ap (λ (n : ℕ). get_or refusals n PlanLimits) e ∙ at_its_number k

-- so no call answers 13
pub not_13 : {A : Type 0} (o : Result A) → code o ≡ 13 → ⊥
not_13 (accepted a) e = omega arith
not_13 (refused r) e = (numbered r).1 e

-- ---- P1 and the 28 octets of "Plans with known figures"

unfoldable pub octets : List ℕ
octets =
    0x10 ∷ 0x10 ∷ 0x01 ∷ 0x00 ∷ 0x80 ∷ 0x20 ∷ 0x20 ∷ 0x40 ∷ 0x00 ∷ 0x00 ∷ 0x40 ∷ 0x28 ∷ 0x14 ∷ 0x00 ∷ 0x80 ∷ 0x80 ∷ 0x18 ∷ 0x0F ∷ 0x00 ∷ 0x80
    ∷ 0xC0 ∷ 0x10 ∷ 0x1E ∷ 0x01 ∷ 0x00 ∷ 0xC0 ∷ 0x20 ∷ 0x19 ∷ []

pub image_of_plan : image_by 1 P1.plan ≡ octets
unfolding octets image_by image_fields fields_of_each pack octets_of bits_of bits_of_all width_of_all number
image_of_plan = refl

-- "Write always produces version 2, so only version 2 images come back octet for octet" (document 02, E4): the first octet is another
pub written_of_plan : image P1.plan ≡ 0x20 ∷ drop 1 octets
unfolding octets image_by image_fields fields_of_each pack octets_of bits_of bits_of_all width_of_all number
written_of_plan = refl

-- version 2, "for each state start, final, counted and the team": states of every class
abbrev pub teams : Graph
teams = record { state_list = state_with 4 0 ∷ state_with 1 9 ∷ state_with 0 10 ∷ state_with 7 20 ∷ state_with 2 31 ∷ []; transitions = [] }

pub image_of_teams : image teams ≡ 0x20 ∷ 0x14 ∷ 0x00 ∷ 0x00 ∷ 0x80 ∷ 0x29 ∷ 0x0A ∷ 0xF4 ∷ 0x5F ∷ []
unfolding image_by image_fields fields_of_each pack octets_of bits_of bits_of_all width_of_all number
image_of_teams = refl

-- and back; by version 1 its five bits are spare, and 6
pub teams_of_image : graph_in (0x20 ∷ 0x14 ∷ 0x00 ∷ 0x00 ∷ 0x80 ∷ 0x29 ∷ 0x0A ∷ 0xF4 ∷ 0x5F ∷ []) ≡ teams
unfolding graph_in tabulate field_at bits bits_of number
teams_of_image = refl

-- "The record of this plan is (hex) 00 00 1C 00 03 C0 00 00 40 00 02"
pub record_of_plan : record_octets P1.plan ≡ 0x00 ∷ 0x00 ∷ 0x1C ∷ 0x00 ∷ 0x03 ∷ 0xC0 ∷ 0x00 ∷ 0x00 ∷ 0x40 ∷ 0x00 ∷ 0x02 ∷ []
unfolding record_octets record_fields figure_for any marks_of start final counted transition from to low high pack octets_of bits_of bits_of_all width_of_all number
record_of_plan = refl

-- "a kind of 2 bits .. and a figure of 20 bits, zero unless the kind is 0": NONE, STRANDED, NONE, STRANDED; and 1, ENDLESS, 0, ENDLESS
pub record_of_P3 : record_octets P3.plan ≡ 0x40 ∷ 0x00 ∷ 0x02 ∷ 0x00 ∷ 0x00 ∷ 0x04 ∷ 0x00 ∷ 0x00 ∷ 0x20 ∷ 0x00 ∷ 0x00 ∷ []
unfolding record_octets record_fields figure_for any marks_of start final counted transition from to low high pack octets_of bits_of bits_of_all width_of_all number
record_of_P3 = refl

pub record_of_P4 : record_octets P4.plan ≡ 0x00 ∷ 0x00 ∷ 0x07 ∷ 0x00 ∷ 0x00 ∷ 0x00 ∷ 0x00 ∷ 0x00 ∷ 0x30 ∷ 0x00 ∷ 0x00 ∷ []
unfolding record_octets record_fields figure_for any marks_of start final counted transition from to low high pack octets_of bits_of bits_of_all width_of_all number
record_of_P4 = refl

-- with an open high beside a dead end: 1, ENDLESS, 0, STRANDED (document 02, E2)
pub record_of_open : record_octets open_and_stranded.plan ≡ 0x00 ∷ 0x00 ∷ 0x07 ∷ 0x00 ∷ 0x00 ∷ 0x00 ∷ 0x00 ∷ 0x00 ∷ 0x20 ∷ 0x00 ∷ 0x00 ∷ []
unfolding record_octets record_fields figure_for any marks_of start final counted transition from to low high pack octets_of bits_of bits_of_all width_of_all number
record_of_open = refl

-- ---- the events

abbrev one_way : Transition
one_way = to-join 0 1 5 20

abbrev back : Transition
back = to-join 1 0 2 3

-- "n states, all marks 0, no transitions"
pub fresh-is : fresh_graph 2 ≡ plan (0 ∷ 0 ∷ []) []
fresh-is = refl

-- "that state's value becomes it", and nothing else changes
pub mark-is : with_mark (plan (1 ∷ 2 ∷ 3 ∷ []) (one_way ∷ [])) 1 4 ≡ plan (1 ∷ 4 ∷ 3 ∷ []) (one_way ∷ [])
mark-is = refl

-- "mark leaves" the team, and team the marks (document 02, E4)
pub mark-leaves : (with_mark teams 3 1).state_list ≡ state_with 4 0 ∷ state_with 1 9 ∷ state_with 0 10 ∷ state_with 1 20 ∷ state_with 2 31 ∷ []
mark-leaves = refl

pub team-is : (with_team teams 3 5).state_list ≡ state_with 4 0 ∷ state_with 1 9 ∷ state_with 0 10 ∷ state_with 7 5 ∷ state_with 2 31 ∷ []
team-is = refl

-- "the transition goes to the end of the list"
pub join_is : with_transition (plan (4 ∷ 2 ∷ []) (one_way ∷ [])) back ≡ plan (4 ∷ 2 ∷ []) (one_way ∷ back ∷ [])
join_is = refl

-- "that transition goes, and later ones move down by one"
pub unjoin-is : without (plan (4 ∷ 2 ∷ []) (one_way ∷ back ∷ one_way ∷ back ∷ [])) 1 ≡ plan (4 ∷ 2 ∷ []) (one_way ∷ one_way ∷ back ∷ [])
unjoin-is = refl

-- "after a refused call the same plan again": a mark, then one that is refused
pub run-refused : (run_fresh 1 (mark 0 4 ∷ mark 0 8 ∷ [])).last ≡ plan (4 ∷ []) []
unfolding run within all
run-refused = refl

-- "Each call is handed the plan that the one before it left": a transition that was joined can be taken out, once
pub run_in_turn : map code (run_fresh 2 (join one_way ∷ unjoin 0 ∷ unjoin 0 ∷ [])).answers ≡ 256 ∷ 256 ∷ 10 ∷ []
unfolding run within all
run_in_turn = refl

-- team and mark in one list, refused ones included: the team stays where a mark comes after it; a read of version 1, or an import, clears the teams (E4)
abbrev teamed : List Call
teamed = team 0 31 ∷ mark 0 4 ∷ team 1 3 ∷ team 0 32 ∷ team 0 259 ∷ []

pub run-teams : (map code (run_fresh 1 teamed).answers ≡ 256 ∷ 256 ∷ 7 ∷ 18 ∷ 18 ∷ []) × ((run_fresh 1 teamed).last.state_list ≡ state_with 4 31 ∷ [])
unfolding run within all
run-teams = (refl, refl)

pub run_clears : ((run_fresh 1 (team 0 31 ∷ read (0x10 ∷ 0x04 ∷ 0x00 ∷ 0x00 ∷ 0x80 ∷ []) ∷ [])).last ≡ plan (4 ∷ []) [])
    × ((run_fresh 1 (team 0 31 ∷ import (textOctets "des (0, 0, 1)\n") ∷ [])).last ≡ plan (4 ∷ []) [])
    × ((run_fresh 1 (team 0 31 ∷ read (0x20 ∷ 0x04 ∷ 0x00 ∷ 0x00 ∷ 0x9E ∷ []) ∷ [])).last.state_list ≡ state_with 4 30 ∷ [])
unfolding run within all image_rows header_rows by_number graph_in tabulate field_at bits bits_of number textOctets value_after value and_then read_word is_digit front is_numeral read_number read_form first_form line_form read_lines whole read_text text_rows holding_rows each graph_in_text plan_of
run_clears = (refl, refl, refl)

-- "number 7 remains for mark and for an import's initial state" (document 02, E3): in one list, a mark, three joins, a read and two imports
pub run_ends : map code (run_fresh 1 (mark 1 0 ∷ join (to-join 1 1 5 3) ∷ join (to-join 0 1 5 3) ∷ join (to-join 0 0 5 3) ∷ read (image (plan (4 ∷ []) (to-join 0 1 5 3 ∷ [])))
    ∷ import (textOctets "des (1, 1, 1)\n(1, \"5..3\", 1)\n") ∷ import (textOctets "des (0, 1, 1)\n(1, \"5..3\", 1)\n") ∷ [])).answers
    ≡ 7 ∷ 16 ∷ 17 ∷ 8 ∷ 17 ∷ 7 ∷ 16 ∷ []
unfolding run within all image_rows header_rows by_number image_by image_fields fields_of_each pack octets_of bits_of bits_of_all width_of_all number field_at bits textOctets value_after value and_then read_word is_digit front is_numeral read_number read_form first_form line_form read_lines whole read_text text_rows holding_rows each
run_ends = refl

-- "An image refused at its last transition must still leave the old plan." (document 02, E6): a mark, and then a read of two states whose second transition has a low above its high
abbrev last-refused : List Call
last-refused = mark 1 2 ∷ read (image (plan (4 ∷ 2 ∷ []) (one_way ∷ to-join 0 1 5 3 ∷ []))) ∷ []

pub run-last : (map code (run_fresh 2 last-refused).answers ≡ 256 ∷ 8 ∷ []) × ((run_fresh 2 last-refused).last ≡ plan (0 ∷ 2 ∷ []) [])
unfolding run within all image_rows header_rows by_number image_by image_fields fields_of_each pack octets_of bits_of bits_of_all width_of_all number field_at bits
run-last = (refl, refl)

-- "and returns its length"
pub write-length : write_rule P1.plan (replicate 30 0) ≡ accepted 28
unfolding write_rule within all
write-length = refl

-- "later octets stay"
pub later_octets : written (1 ∷ 2 ∷ []) (7 ∷ 8 ∷ 9 ∷ []) (accepted 2) ≡ 1 ∷ 2 ∷ 9 ∷ []
later_octets = refl

-- ---- the table

-- the number that a call's rows answer, on a plan of one state
abbrev answer : Call → ℕ
answer call = code (first (rows_of (fresh_graph 1) call))

-- "0 comes before the rest in every call": on a plan of no states, each in a call of which a later row holds too
abbrev no-states : Graph
no-states = fresh_graph 0

pub limits-first : (code (first (rows_of no-states (mark 0 8))) ≡ 0) × (code (first (rows_of no-states (team 0 32))) ≡ 0) × (code (first (rows_of no-states (join one_way))) ≡ 0)
    × (code (first (rows_of no-states (unjoin 0))) ≡ 0) × (code (first (rows_of no-states (read []))) ≡ 0)
    × (code (first (write_rows no-states [])) ≡ 0) × (code (first (record_rows no-states [])) ≡ 0)
    × (code (first (rows_of no-states (import []))) ≡ 0) × (code (first (export_rows no-states [])) ≡ 0)
unfolding within image_rows header_rows
limits-first = (refl, refl, refl, refl, refl, refl, refl, refl, refl)

-- and a quotation of a plan whose one state has a marks value of 8, or a team of 32
pub quote-limits-first : (code (first (quote_rows (One LeastDelay) (plan (8 ∷ []) []) [])) ≡ 0)
    × (code (first (quote_rows (LeastCountFor 32) (record { state_list = state_with 0 32 ∷ []; transitions = [] }) [])) ≡ 0)
unfolding within all
quote-limits-first = (refl, refl)

-- "A team above 31 returns 18, after 7 and before 11" (document 02, E4): in team, and in the counts for a class
pub team_7_18 : (answer (team 1 32) ≡ 7) × (answer (team 0 32) ≡ 18) × (answer (team 0 259) ≡ 18) × (answer (team 0 31) ≡ 256)
unfolding within all
team_7_18 = (refl, refl, refl, refl)

pub quote_18_11 : (code (first (quote_rows (LeastCountFor 32) (fresh_graph 1) [])) ≡ 18) × (code (first (quote_rows (GreatestCountFor 259) (fresh_graph 1) [])) ≡ 18)
    × (code (first (quote_rows (LeastCountFor 31) (fresh_graph 1) [])) ≡ 11) × (code (first (quote_rows (GreatestCountFor 31) (fresh_graph 1) (0 ∷ []))) ≡ 256)
unfolding within all
quote_18_11 = (refl, refl, refl, refl)

pub fresh_513 : (code (first (fresh_rows 0)) ≡ 4) × (code (first (fresh_rows 512)) ≡ 256) × (code (first (fresh_rows 513)) ≡ 4)
fresh_513 = (refl, refl, refl)

-- "In mark: 7, 12."
pub mark_7_12 : (answer (mark 1 8) ≡ 7) × (answer (mark 0 8) ≡ 12) × (answer (mark 0 7) ≡ 256)
unfolding within all
mark_7_12 = (refl, refl, refl)

-- "a bad from returns 16, then a bad to 17, both before 8" (document 02, E3): both ends bad, the from alone, the to alone, each with a low above its high; then that
-- alone, and a high of 2,048
pub join_16_17_8 : (answer (join (to-join 1 1 5 3)) ≡ 16) × (answer (join (to-join 1 0 5 3)) ≡ 16) × (answer (join (to-join 0 1 5 3)) ≡ 17)
    × (answer (join (to-join 0 0 5 3)) ≡ 8) × (answer (join (to-join 0 0 3 2048)) ≡ 8)
unfolding within all
join_16_17_8 = (refl, refl, refl, refl, refl)

-- "High 2,047 joins", which by document 02's E2 is no limit
pub join_2047 : answer (join (to-join 0 0 3 2047)) ≡ 256
unfolding within all
join_2047 = refl

-- "In join": 9 last. A full list, and a transition from no state; to no state; with a low above its high; and a full list alone
abbrev full : Graph
full = record { state_list = (fresh_graph 1).state_list; transitions = replicate 2048 (to-join 0 0 1 1) }

pub join_9 : (code (first (rows_of full (join (to-join 1 0 1 1)))) ≡ 16) × (code (first (rows_of full (join (to-join 0 1 1 1)))) ≡ 17)
    × (code (first (rows_of full (join (to-join 0 0 5 3)))) ≡ 8) × (code (first (rows_of full (join (to-join 0 0 1 1)))) ≡ 9)
unfolding within all
join_9 = (refl, refl, refl, refl)

pub unjoin_10 : answer (unjoin 0) ≡ 10
unfolding within all
unjoin_10 = refl

-- "Order in read": under 4 octets; a version of 3 and no state; no state and 4,095 transitions; 4,095 transitions and a pad bit set
pub read_1 : answer (read (0x20 ∷ [])) ≡ 1
unfolding within all image_rows header_rows
read_1 = refl

pub read_3_4 : answer (read (0x30 ∷ 0x00 ∷ 0x00 ∷ 0x00 ∷ [])) ≡ 3
unfolding within all image_rows header_rows field_at bits bits_of number
read_3_4 = refl

pub read_4_5 : answer (read (0x10 ∷ 0x03 ∷ 0xFF ∷ 0xC1 ∷ [])) ≡ 4
unfolding within all image_rows header_rows field_at bits bits_of number
read_4_5 = refl

pub read_5_6 : answer (read (0x10 ∷ 0x07 ∷ 0xFF ∷ 0xC1 ∷ [])) ≡ 5
unfolding within all image_rows header_rows field_at bits bits_of number
read_5_6 = refl

-- a pad bit set, and octets missing; octets missing; an octet too many, and a spare bit set
pub read_6_1 : answer (read (0x10 ∷ 0x04 ∷ 0x00 ∷ 0x01 ∷ [])) ≡ 6
unfolding within all image_rows header_rows field_at bits bits_of number
read_6_1 = refl

pub read_1_counts : answer (read (0x10 ∷ 0x04 ∷ 0x00 ∷ 0x00 ∷ [])) ≡ 1
unfolding within all image_rows header_rows field_at bits bits_of number
read_1_counts = refl

pub read_2_6 : answer (read (0x10 ∷ 0x04 ∷ 0x00 ∷ 0x00 ∷ 0x01 ∷ 0x00 ∷ [])) ≡ 2
unfolding within all image_rows header_rows field_at bits bits_of number
read_2_6 = refl

-- "then states by number, 6; then transitions": a spare bit of the state, and a transition to no state
pub read_6_17 : answer (read (0x10 ∷ 0x04 ∷ 0x00 ∷ 0x40 ∷ 0x01 ∷ 0x00 ∷ 0x00 ∷ 0x40 ∷ 0x00 ∷ 0x00 ∷ [])) ≡ 6
unfolding within all image_rows header_rows by_number field_at bits bits_of number
read_6_17 = refl

-- an image of one state whose last bit is set, by its version (document 02, E4): "other versions return 3", and in version 1 it is a spare bit, in version 2 team 1; the
-- pad's ground stays in both
abbrev version : ℕ → ℕ
version first = answer (read (first ∷ 0x04 ∷ 0x00 ∷ 0x00 ∷ 0x01 ∷ []))

pub read_versions : (version 0x00 ≡ 3) × (version 0x10 ≡ 6) × (version 0x20 ≡ 256) × (version 0x30 ≡ 3) × (version 0xF0 ≡ 3)
unfolding within all image_rows header_rows by_number field_at bits bits_of number
read_versions = (refl, refl, refl, refl, refl)

pub read-pad : answer (read (0x20 ∷ 0x04 ∷ 0x00 ∷ 0x01 ∷ 0x01 ∷ [])) ≡ 6
unfolding within all image_rows header_rows by_number field_at bits bits_of number
read-pad = refl

-- the number that an image of two states answers, by its transitions: "In .. read .. a bad from returns 16, then a bad to 17, both before 8", in the same four cases
abbrev reads : List Transition → ℕ
reads ts = answer (read (image (plan (4 ∷ 2 ∷ []) ts)))

pub read_16_17_8 : (reads (to-join 2 2 5 3 ∷ []) ≡ 16) × (reads (to-join 2 1 5 3 ∷ []) ≡ 16) × (reads (to-join 0 2 5 3 ∷ []) ≡ 17) × (reads (to-join 0 1 5 3 ∷ []) ≡ 8)
unfolding within all image_rows header_rows by_number image_by image_fields fields_of_each pack octets_of bits_of bits_of_all width_of_all number field_at bits
read_16_17_8 = (refl, refl, refl, refl)

-- "transitions by number": the first one's low above its high, or the first one to no state, and the second one from no state
pub read_by_number : (reads (to-join 0 1 5 3 ∷ to-join 2 1 1 1 ∷ []) ≡ 8) × (reads (to-join 0 2 1 1 ∷ to-join 2 1 1 1 ∷ []) ≡ 17)
unfolding within all image_rows header_rows by_number image_by image_fields fields_of_each pack octets_of bits_of bits_of_all width_of_all number field_at bits
read_by_number = (refl, refl)

-- ---- texts

-- "Import marks only the initial state, as start", and the transitions are the lines'
pub import-is : graph_in_text (textOctets "des (1, 2, 2)\n(0, \"5..20\", 1)\n(1, \"2..3\", 0)\n") ≡ plan (0 ∷ 4 ∷ []) (one_way ∷ back ∷ [])
unfolding textOctets value_after value and_then read_word is_digit front is_numeral read_number read_form first_form line_form read_lines whole read_text graph_in_text plan_of
import-is = refl

-- the number that a text answers, over a plan of one state
abbrev imports : String → ℕ
imports text = answer (import (textOctets text))

-- "tested over the whole text before 4, 5, 7": no state and 513 states, with a leading zero in the last line, without its line feed, and with text after it
pub import_15_4 : (imports "des (0, 1, 0)\n(0, \"05..20\", 1)\n" ≡ 15) × (imports "des (0, 1, 513)\n(0, \"5..20\", 1)" ≡ 15) × (imports "des (0, 1, 513)\n(0, \"5..20\", 1)\n(0" ≡ 15)
    × (imports "des (0, 1, 513)\n(0, \"5..20\", 1)\n" ≡ 4)
unfolding within all textOctets value_after value and_then read_word is_digit front is_numeral read_number read_form first_form line_form read_lines whole read_text text_rows holding_rows each
import_15_4 = (refl, refl, refl, refl)

-- "its count of lines included": one line too few, and one too many
pub import_15_count : (imports "des (0, 2, 2)\n(0, \"5..20\", 1)\n" ≡ 15) × (imports "des (0, 0, 2)\n(0, \"5..20\", 1)\n" ≡ 15) × (imports "des (0, 1, 2)\n(0, \"5..20\", 1)\n" ≡ 256)
unfolding within all textOctets value_after value and_then read_word is_digit front is_numeral read_number read_form first_form line_form read_lines whole read_text text_rows holding_rows each
import_15_count = (refl, refl, refl)

-- "4, 5, 7 for the initial state, and then" the lines': no state, too many lines and an initial state that is none, with lines from no state; then without the first; then
-- without the first two; then the lines alone
abbrev holding : ℕ → ℕ → List Transition → Holding
holding initial n ts = record { initial = initial; states = n; transitions = ts }

pub import_4_5_7 : (code (first (holding_rows (holding 1 0 (replicate 2049 (to-join 1 1 5 3))))) ≡ 4)
    × (code (first (holding_rows (holding 1 1 (replicate 2049 (to-join 1 1 5 3))))) ≡ 5)
    × (code (first (holding_rows (holding 1 1 (replicate 2048 (to-join 1 1 5 3))))) ≡ 7)
    × (code (first (holding_rows (holding 0 1 (replicate 2048 (to-join 1 1 5 3))))) ≡ 16)
unfolding holding_rows each
import_4_5_7 = (refl, refl, refl, refl)

-- the number that a text of two states answers, by its lines, in the same cases; and "line by line"
abbrev lines : List Transition → ℕ
lines ts = code (first (holding_rows (holding 0 2 ts)))

pub import_16_17_8 : (lines (to-join 2 2 5 3 ∷ []) ≡ 16) × (lines (to-join 2 1 5 3 ∷ []) ≡ 16) × (lines (to-join 0 2 5 3 ∷ []) ≡ 17) × (lines (to-join 0 1 5 3 ∷ []) ≡ 8)
unfolding holding_rows each
import_16_17_8 = (refl, refl, refl, refl)

pub import_by_line : (lines (to-join 0 1 5 3 ∷ to-join 2 0 1 1 ∷ []) ≡ 8) × (lines (to-join 0 2 1 1 ∷ to-join 2 1 1 1 ∷ []) ≡ 17)
unfolding holding_rows each
import_by_line = (refl, refl)

-- the text of a plan, its one start as the initial state; no other mark is seen there
abbrev one-start : Graph
one-start = plan (3 ∷ 6 ∷ []) (one_way ∷ back ∷ [])

pub export_is : export_text one-start ≡ textOctets "des (1, 2, 2)\n(0, \"5..20\", 1)\n(1, \"2..3\", 0)\n"
unfolding textOctets leading digits writtenForm first_form line_form line_text lines_text text_of start marks_of passing export_text
export_is = refl

pub stripped-teams : stripped teams ≡ plan (4 ∷ 0 ∷ 0 ∷ 4 ∷ 0 ∷ []) []
stripped-teams = refl

pub stripped-is : stripped one-start ≡ plan (0 ∷ 4 ∷ []) (one_way ∷ back ∷ [])
stripped-is = refl

-- "refuses a plan without exactly one start by 14, then a buffer below the text's length by 11": no start and two, with no room; one start and an octet too few, and just enough
pub export_14_11 : (code (first (export_rows (plan (3 ∷ []) []) [])) ≡ 14) × (code (first (export_rows (plan (4 ∷ 6 ∷ []) []) [])) ≡ 14)
    × (code (first (export_rows (plan (4 ∷ []) []) (replicate 13 0))) ≡ 11) × (code (first (export_rows (plan (4 ∷ []) []) (replicate 14 0))) ≡ 256)
unfolding within all leading digits writtenForm first_form line_form line_text lines_text text_of start marks_of passing export_text textOctets
export_14_11 = (refl, refl, refl, refl)

-- the known octets
pub read_known : first (rows_of (fresh_graph 1) (read octets)) ≡ accepted tt
unfolding within all image_rows header_rows by_number octets field_at bits bits_of number
read_known = refl

-- "lent buffer below the image's length, 11 octets, n places": one too few, and just enough
pub write_27 : (code (first (write_rows P1.plan (replicate 27 0))) ≡ 11) × (code (first (write_rows P1.plan (replicate 28 0))) ≡ 256)
unfolding within all
write_27 = (refl, refl)

pub quote_3 : (code (first (quote_rows (One LeastDelay) P1.plan (replicate 3 0))) ≡ 11) × (code (first (quote_rows (One LeastDelay) P1.plan (replicate 4 0))) ≡ 256)
unfolding within all
quote_3 = (refl, refl)

pub record_10 : (code (first (record_rows P1.plan (replicate 10 0))) ≡ 11) × (code (first (record_rows P1.plan (replicate 11 0))) ≡ 256)
unfolding within all
record_10 = (refl, refl)

-- the answer's places, after the walk's: one too few, just enough, and 0 before both
pub lent-quote_3 : (code (first (lent_quote_rows (One LeastDelay) P1.plan (replicate 4 0) (replicate 3 0))) ≡ 11)
    × (code (first (lent_quote_rows (One LeastDelay) P1.plan (replicate 4 0) (replicate 4 0))) ≡ 256) × (code (first (lent_quote_rows (One LeastDelay) (fresh_graph 0) [] [])) ≡ 0)
    × (code (first (lent_quote_rows (LeastCountFor 32) P1.plan (replicate 4 0) [])) ≡ 18)
unfolding within all
lent-quote_3 = (refl, refl, refl, refl)

-- all four, of a plan and of an image: too few places for the walks, and the plan's or the image's ground before that
pub all_few : (code (first (all_rows P1.plan (replicate 4 0))) ≡ 11) × (code (first (all_rows (fresh_graph 0) [])) ≡ 0)
unfolding within all
all_few = (refl, refl)

pub held_few : (code (first (held_rows octets (replicate 4 0))) ≡ 11) × (code (first (held_rows (0x10 ∷ 0x10 ∷ 0x01 ∷ []) [])) ≡ 1)
unfolding within all image_rows header_rows by_number octets field_at bits bits_of number
held_few = (refl, refl)

pub lent-held_few : (code (first (lent_held_rows octets (replicate 2048 0) (replicate 15 0))) ≡ 11) × (code (first (lent_held_rows octets (replicate 2048 0) (replicate 16 0))) ≡ 256)
    × (code (first (lent_held_rows (0x10 ∷ 0x10 ∷ 0x01 ∷ []) [] [])) ≡ 1)
unfolding within all image_rows header_rows by_number octets field_at bits bits_of number
lent-held_few = (refl, refl, refl)

-- ---- what the promises rule out

-- "later places stay": a walk of one transition, and the second place touched
pub touched : (f : Figure) (j : ℕ) → Shows P6.plan (cost_for LeastDelay P6.plan) f 1 j (9 ∷ 9 ∷ []) (0 ∷ 8 ∷ []) → ⊥
touched f j x = let e : ◌≡◌ {A = ℕ} 8 9 = ap (λ (l : List ℕ). get_or l 0 0) x.later in omega arith

-- "a refusal changes neither the plan nor any lent buffer": a quotation with too few places, and one of them touched
pub refused_and_touched : Quotes (One LeastDelay) P1.plan (9 ∷ []) (8 ∷ []) (Err BufferLength) → ⊥
unfolding quote_rule within all
refused_and_touched x = let e : ◌≡◌ {A = ℕ} 8 9 = ap (λ (l : List ℕ). get_or l 0 0) (x.kept BufferLength refl) in omega arith

-- "NONE exactly when no start leads to an answer": P6's first transition is a route
pub none_with_a_route : (k j : ℕ) (before after : List ℕ) → LeastQuoted P6.plan (cost_for LeastDelay P6.plan) NONE k j before after → ⊥
unfolding start final from to
none_with_a_route k j before after x = x.none.0 refl 0 (0 ∷ [], (refl, (record { listed = lit< tt; source = refl }, refl)))

-- ---- single calls

pub fresh_done : (n : ℕ) → state_count_ok n ≡ true → fresh_rule n ≡ accepted (fresh_graph n)
unfolding fresh_rule
fresh_done n h = rw h

pub fresh-refused : (n : ℕ) → state_count_ok n ≡ false → fresh_rule n ≡ refused StateCount
unfolding fresh_rule
fresh-refused n h = rw h

-- over a plan within the limits, the octets alone decide
pub read_given : (g : Graph) (os : List ℕ) → within g ≡ true → step g (read os) ≡ read_image os
unfolding read_image
read_given g os w = rw w

pub import_given : (g : Graph) (text : List ℕ) → within g ≡ true → step g (import text) ≡ import_text text
unfolding import_text
import_given g text w = rw w

pub replacing_given : (g : Graph) (format : Format) (octets : List ℕ) → within g ≡ true → step g (replacing format octets) ≡ held_in format octets
replacing_given g Image octets w = read_given g octets w
replacing_given g Text octets w = import_given g octets w

-- over one that is not, nothing is looked at
pub replacing-refused : (g : Graph) (format : Format) (octets : List ℕ) → within g ≡ false → step g (replacing format octets) ≡ refused PlanLimits
replacing-refused g Image octets w = rw w
replacing-refused g Text octets w = rw w

module _ (g : Graph) (b : List ℕ) where
  pub quote-limits : (asked : Asked) → within g ≡ false → quote_rule asked g b ≡ refused PlanLimits
  unfolding quote_rule
  quote-limits asked w = rw w

  pub quote-unnamed : (asked : Asked) → within g ≡ true → name_ok asked ≡ false → quote_rule asked g b ≡ refused TeamNumber
  unfolding quote_rule
  quote-unnamed (One which) w h = absurd (true≢false h)
  quote-unnamed (LeastCountFor k) w h = rw (w, h)
  quote-unnamed (GreatestCountFor k) w h = rw (w, h)

  pub quote_done : (asked : Asked) → within g ≡ true → name_ok asked ≡ true → ltb (length b) (states g) ≡ false → quote_rule asked g b ≡ accepted tt
  unfolding quote_rule
  quote_done (One which) w h l = rw (w, l)
  quote_done (LeastCountFor k) w h l = rw (w, h, l)
  quote_done (GreatestCountFor k) w h l = rw (w, h, l)

  pub record_limits : within g ≡ false → record_rule g b ≡ refused PlanLimits
  unfolding record_rule
  record_limits w = rw w

  pub record_short : within g ≡ true → ltb (length b) 11 ≡ true → record_rule g b ≡ refused BufferLength
  unfolding record_rule
  record_short w h = rw (w, h)

  pub record_done : within g ≡ true → ltb (length b) 11 ≡ false → record_rule g b ≡ accepted 11
  unfolding record_rule
  record_done w h = rw (w, h)
