-- `header_grounds::grounds` meets its contract: each test is the next ground of the header's rule, in the rule's order.
-- Assumes nothing.
use Prim.Native.Nat.{ℕ, ◌+◌, ◌*◌, ◌≤◌}
use mathlib.Core.Bool.{true, false}
use mathlib.Core.List.{List}
use mathlib.Core.Path.{◌≡◌, sym, ap, ap₂, ◌∙◌}
use native.Mathlib.Omega.{arith}
use borrow.Author.Tests.{lt-ltb, le-ltb, le-leb, lt-leb, leb-true, eq-eqb, ne_eqb}
use lib.Dec.{leb, ltb, eqb}
use lib.ListN.{length}
use Rattle.field.specs.declared.Four.{Four}
use Rattle.rules.specs.Limits.{state_count_ok}
use Rattle.rules.specs.Image.{header_rows, image_length, version_ok, version_of, state_count_of, transition_count_of, pad_of}
use Rattle.rules.proofs.Results.{and_true}
use Rattle.header_grounds.proofs.grounds.Goals as goal
use Rattle.header_grounds.proofs.grounds.Goals.{Else-pad-ne0}
use Rattle.field.specs.Field.{four_at}

-- the fields are those of the header, which is there
record Fields (os : List ℕ) (f : Four) : Type 0 where
  there : ltb (length os) 4 ≡ false
  version : f.first ≡ version_of os
  states : f.second ≡ state_count_of os
  transitions : f.third ≡ transition_count_of os
  pad : f.fourth ≡ pad_of os

fields : (os : List ℕ) (f : Four) → 4 ≤ length os → f ≡ four_at os 0 4 10 12 6 → Fields os f
fields os f h e =
    record {
      there = le-ltb (length os) 4 h;
      version = ap (λ (f : Four). f.first) e;
      states = ap (λ (f : Four). f.second) e;
      transitions = ap (λ (f : Four). f.third) e;
      pad = ap (λ (f : Four). f.fourth) e;
    }

-- what is known once all fields have been tested: the tests' values, the length that the counts give, and that the state count is at most 512
record Tested (os : List ℕ) (f : Four) : Type 0 where
  there : ltb (length os) 4 ≡ false
  version : version_ok (version_of os) ≡ true
  states : state_count_ok (state_count_of os) ≡ true
  transitions : leb (transition_count_of os) 2048 ≡ true
  pad : eqb (pad_of os) 0 ≡ true
  needed : 4 + f.second + 5 * f.third ≡ image_length (state_count_of os) (transition_count_of os)
  few : f.second ≤ 512

tested : (c : Else-pad-ne0) → Tested c.args.octets.now c.args.fields
tested c =
    let os = c.args.octets.now in
    let f = fields os c.args.fields c.requires.0 c.requires.1 in
    let v : version_ok (version_of os) ≡ true = ap version_ok (sym f.version) ∙ sym c.version_ok.ensures ∙ c.if-not-version_ok.false in
    let s : state_count_ok (state_count_of os) ≡ true = ap state_count_ok (sym f.states) ∙ sym c.state_count_ok.ensures ∙ c.if-not-state_count_ok.false in
    let t : leb (transition_count_of os) 2048 ≡ true = ap (λ (x : ℕ). leb x 2048) (sym f.transitions) ∙ le-leb c.args.fields.third 2048 (omega arith) in
    let p : eqb (pad_of os) 0 ≡ true = eq-eqb (pad_of os) 0 (sym f.pad ∙ c.if-pad-ne0.false) in
    let n = c.args.fields.second in
    let h : state_count_ok n ≡ true = ap state_count_ok f.states ∙ s in
    record {
      there = f.there;
      version = v;
      states = s;
      transitions = t;
      pad = p;
      needed = ap₂ (λ (x y : ℕ). 4 + x + 5 * y) f.states f.transitions;
      few = leb-true n 512 (and_true (leb 1 n) (leb n 512) h).1;
    }

pub returns-then-not-version_ok : goal.returns-then-not-version_ok
unfolding header_rows
returns-then-not-version_ok c =
    let os = c.args.octets.now in
    let f = fields os c.args.fields c.requires.0 c.requires.1 in
    let v : version_ok (version_of os) ≡ false = ap version_ok (sym f.version) ∙ sym c.version_ok.ensures ∙ c.if-not-version_ok.true in
    rw (f.there, v)

pub returns-then-not-state_count_ok : goal.returns-then-not-state_count_ok
unfolding header_rows
returns-then-not-state_count_ok c =
    let os = c.args.octets.now in
    let f = fields os c.args.fields c.requires.0 c.requires.1 in
    let v : version_ok (version_of os) ≡ true = ap version_ok (sym f.version) ∙ sym c.version_ok.ensures ∙ c.if-not-version_ok.false in
    let s : state_count_ok (state_count_of os) ≡ false = ap state_count_ok (sym f.states) ∙ sym c.state_count_ok.ensures ∙ c.if-not-state_count_ok.true in
    rw (f.there, v, s)

pub returns-then-m-gt2048 : goal.returns-then-m-gt2048
unfolding header_rows
returns-then-m-gt2048 c =
    let os = c.args.octets.now in
    let f = fields os c.args.fields c.requires.0 c.requires.1 in
    let v : version_ok (version_of os) ≡ true = ap version_ok (sym f.version) ∙ sym c.version_ok.ensures ∙ c.if-not-version_ok.false in
    let s : state_count_ok (state_count_of os) ≡ true = ap state_count_ok (sym f.states) ∙ sym c.state_count_ok.ensures ∙ c.if-not-state_count_ok.false in
    let t : leb (transition_count_of os) 2048 ≡ false = ap (λ (x : ℕ). leb x 2048) (sym f.transitions) ∙ lt-leb c.args.fields.third 2048 (omega arith) in
    rw (f.there, v, s, t)

pub returns-then-pad-ne0 : goal.returns-then-pad-ne0
unfolding header_rows
returns-then-pad-ne0 c =
    let os = c.args.octets.now in
    let f = fields os c.args.fields c.requires.0 c.requires.1 in
    let v : version_ok (version_of os) ≡ true = ap version_ok (sym f.version) ∙ sym c.version_ok.ensures ∙ c.if-not-version_ok.false in
    let s : state_count_ok (state_count_of os) ≡ true = ap state_count_ok (sym f.states) ∙ sym c.state_count_ok.ensures ∙ c.if-not-state_count_ok.false in
    let t : leb (transition_count_of os) 2048 ≡ true = ap (λ (x : ℕ). leb x 2048) (sym f.transitions) ∙ le-leb c.args.fields.third 2048 (omega arith) in
    let p : eqb (pad_of os) 0 ≡ false = ne_eqb (pad_of os) 0 (λ e. c.if-pad-ne0.true (f.pad ∙ e)) in
    rw (f.there, v, s, t, p)

pub returns-then-octets-needed : goal.returns-then-octets-needed
unfolding header_rows
returns-then-octets-needed c =
    let os = c.args.octets.now in
    let N = image_length (state_count_of os) (transition_count_of os) in
    let k = tested (goal.at.returns-then-octets-needed c).Else-pad-ne0 in
    let z : c.size-needed.result ≡ image_length (state_count_of os) (transition_count_of os) = c.size-needed.ensures ∙ k.needed in
    let l : ltb (length os) N ≡ true = ap (λ (x : ℕ). ltb (length os) x) (sym z) ∙ lt-ltb _ _ c.if-octets-needed.true in
    rw (k.there, k.version, k.states, k.transitions, k.pad, l)

pub returns-then-needed-octets : goal.returns-then-needed-octets
unfolding header_rows
returns-then-needed-octets c =
    let os = c.args.octets.now in
    let k = tested (goal.at.returns-then-needed-octets c).Else-pad-ne0 in
    let z : c.size-needed.result ≡ image_length (state_count_of os) (transition_count_of os) = c.size-needed.ensures ∙ k.needed in
    let l : ltb (length os) (image_length (state_count_of os) (transition_count_of os)) ≡ false = ap (λ (x : ℕ). ltb (length os) x) (sym z) ∙ le-ltb _ _ c.if-octets-needed.false in
    let g : ltb (image_length (state_count_of os) (transition_count_of os)) (length os) ≡ true = ap (λ (x : ℕ). ltb x (length os)) (sym z) ∙ lt-ltb _ _ c.if-needed-octets.true in
    rw (k.there, k.version, k.states, k.transitions, k.pad, l, g)

pub returns : goal.returns
unfolding header_rows
returns c =
    let os = c.args.octets.now in
    let k = tested (goal.at.returns c).Else-pad-ne0 in
    let z : c.size-needed.result ≡ image_length (state_count_of os) (transition_count_of os) = c.size-needed.ensures ∙ k.needed in
    let l : ltb (length os) (image_length (state_count_of os) (transition_count_of os)) ≡ false = ap (λ (x : ℕ). ltb (length os) x) (sym z) ∙ le-ltb _ _ c.if-octets-needed.false in
    let g : ltb (image_length (state_count_of os) (transition_count_of os)) (length os) ≡ false = ap (λ (x : ℕ). ltb x (length os)) (sym z) ∙ le-ltb _ _ c.if-needed-octets.false in
    rw (k.there, k.version, k.states, k.transitions, k.pad, l, g)
