-- `answers::put_quotes`: four copies of four numbers, one behind another, are the sixteen at the front (`four_copied` of arrays). All four quotes are small, and
-- each bound is given by all of them: a quote in another one's places is then refused for its places. Assumes nothing.
use native.Mathlib.Omega.{arith}
use Rattle.graph.specs.declared.Which.TheVariants.{LeastDelay, GreatestDelay, LeastCount, GreatestCount}
use Rattle.answers.proofs.put_quotes.Goals as goal

pub put_quote-requires-clause-small_quote : goal.put_quote-requires-clause-small_quote
put_quote-requires-clause-small_quote c =
    let s = c.requires.four_small in
    omega (arith, s LeastDelay, s GreatestDelay, s LeastCount, s GreatestCount)

pub put_quote-requires-2-clause-small_quote : goal.put_quote-requires-2-clause-small_quote
put_quote-requires-2-clause-small_quote c =
    let s = c.requires.four_small in
    omega (arith, s LeastDelay, s GreatestDelay, s LeastCount, s GreatestCount)

pub put_quote-requires-3-clause-small_quote : goal.put_quote-requires-3-clause-small_quote
put_quote-requires-3-clause-small_quote c =
    let s = c.requires.four_small in
    omega (arith, s LeastDelay, s GreatestDelay, s LeastCount, s GreatestCount)

pub put_quote-requires-4-clause-small_quote : goal.put_quote-requires-4-clause-small_quote
put_quote-requires-4-clause-small_quote c =
    let s = c.requires.four_small in
    omega (arith, s LeastDelay, s GreatestDelay, s LeastCount, s GreatestCount)
