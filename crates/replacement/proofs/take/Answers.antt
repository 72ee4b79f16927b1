-- `replacement::take`: the old plan's limits are the first row; past it the octets alone decide, and of an image the bits are counted that its reader took. Assumes nothing.
use Prim.Native.Nat.{◌≤◌}
use mathlib.Core.Path.{◌≡◌, sym, ◌∙◌}
use native.Mathlib.Omega.{arith}
use Rattle.std.proofs.lemmas.Result.{IfOk-weaker}
use Rattle.arrays.specs.declared.Counts.{Counts}
use Rattle.image.specs.Read.{states_in, transitions_in}
use Rattle.rules.proofs.Basic.{read_given, import_given}
use Rattle.taken.proofs.Taken.{read-bits}
use Rattle.replacement.proofs.take.Goals as goal

pub returns-in-Image : goal.returns-in-Image
returns-in-Image c =
    let if1 = c.if-not-limited in
    let e = c.fill.ensures.read in
    let os = c.args.octets.now in
    let r = e.room in
    rw c.in-Image.is
    (record {
      rule = λ old w. e.rule ∙ sym (read_given old os (w ∙ if1.false));
      counts = IfOk-weaker c.fill.result (λ (k : Counts). (k.states ≡ states_in os) × (k.transitions ≡ transitions_in os)) (λ (k : Counts). (k.states ≤ 512) × (k.transitions ≤ 2048)) (λ k x. (omega (arith, x.0, e.states), omega (arith, x.1, e.transitions))) e.counts;
      states = (r.0, r.1);
      transitions = (r.2, r.3, r.4, r.5);
      bits = λ old w. omega (arith, e.bits, read-bits old os (w ∙ if1.false));
    })

pub returns-in-Text : goal.returns-in-Text
returns-in-Text c =
    let e = c.fill-in-Text.ensures in
    let os = c.args.octets.now in
    let r = e.room in
    rw c.in-Text.is
    (record {
      rule = λ old w. e.rule ∙ sym (import_given old os (w ∙ c.if-not-limited.false));
      counts = e.counts;
      states = (r.0, r.1);
      transitions = (omega (arith, r), omega (arith, r), omega (arith, r), omega (arith, r));
      bits = λ old w. omega arith;
    })
