-- `conversion::to_image`: refused as the text is, or its plan written (proofs/Converting.antt). Assumes nothing.
use Rattle.std.proofs.lemmas.Result.{err_from_is_err_and}
use Rattle.conversion.proofs.Converting.{image-refused, image-put}
use Rattle.conversion.proofs.to_image.Goals as goal

pub returns : goal.returns
returns c = image-put c.args.text.now c.args.buffer.now c.fresh-fresh.result c.fresh-fresh.ensures c.replace-imported.result c.replace-imported.ensures c.in_ok-imported.was _ c.write.result c.write.ensures

pub returns-in_err-imported : goal.returns-in_err-imported
returns-in_err-imported c = let p = err_from_is_err_and c.from_residual.result c.from_residual.ensures.1 in rw (p.1, p.2) (image-refused c.args.text.now c.args.buffer.now c.fresh-fresh.result c.fresh-fresh.ensures c.replace-imported.result c.replace-imported.ensures c.in_err-imported.field-0.0 c.in_err-imported.was)
