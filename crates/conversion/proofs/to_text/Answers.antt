-- `conversion::to_text`: refused as the image is, or its plan exported (proofs/Converting.antt). Assumes nothing.
use Rattle.std.proofs.lemmas.Result.{err_from_is_err_and}
use Rattle.conversion.proofs.Converting.{text-refused, text-put}
use Rattle.conversion.proofs.to_text.Goals as goal

pub returns : goal.returns
returns c = text-put c.args.image.now c.args.buffer.now c.held-held.result c.held-held.ensures c.in_ok-held.was _ c.export.result c.export.ensures

pub returns-in_err-held : goal.returns-in_err-held
returns-in_err-held c = let p = err_from_is_err_and c.from_residual.result c.from_residual.ensures.1 in rw (p.1, p.2) (text-refused c.args.image.now c.args.buffer.now c.held-held.result c.held-held.ensures c.in_err-held.field-0.0 c.in_err-held.was)
