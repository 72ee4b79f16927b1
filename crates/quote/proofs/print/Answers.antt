-- `print`: what is printed lies within the buffer (lines' `prints-within`), so it can be lent to be written out. Assumes nothing.
use Rattle.std.proofs.Common.{sym}
use lib.Seq.{length-take-le}
use Rattle.lines.proofs.Prints.{prints-within}
use Rattle.quote.proofs.print.Goals as goal

pub slice_bounds-buffer-end : goal.slice_bounds-buffer-end
slice_bounds-buffer-end c = prints-within _ _ _ _ (c.answer-answer.ensures.printed _ c.in-Ok.is)

pub slice_bounds-answer-end-in-Ok : goal.slice_bounds-answer-end-in-Ok
slice_bounds-answer-end-in-Ok c = sym (length-take-le _ _ (prints-within _ _ _ _ (c.answer-answer.ensures.printed _ c.in-Ok.is)))
