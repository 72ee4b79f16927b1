-- `conversion::of_seed`: refused as the numbers are, or the plan written (proofs/Converting.antt). Assumes nothing.
use Rattle.std.proofs.lemmas.Result.{err_from_is_err_and}
use Rattle.conversion.proofs.Converting.{seed-refused, seed-put}
use Rattle.conversion.proofs.of_seed.Goals as goal

pub returns : goal.returns
returns c =
    let a = c.args in
    seed-put a.seed a.n a.m a.buffer.now c.generate-made.result c.generate-made.ensures c.in_ok-made.was _ c.write.result c.write.ensures

pub returns-in_err-made : goal.returns-in_err-made
returns-in_err-made c =
    let a = c.args in
    let p = err_from_is_err_and c.from_residual.result c.from_residual.ensures.1 in rw (p.1, p.2) (seed-refused a.seed a.n a.m a.buffer.now c.generate-made.result c.generate-made.ensures c.in_err-made.field-0.0 c.in_err-made.was)
