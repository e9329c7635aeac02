-- `text_print::Writer::put` meets its contract: the text stands in its part of the bytes. Assumes nothing.
use Rattle.std.proofs.Common.{refl}
use Rattle.text_print.specs.Written.{placed}
use Rattle.text_print.proofs.Writer.put.Goals as goal

pub returns : goal.returns
returns c = record { lent = refl; written = record { bytes = placed _ _ _ _ c.copy_from_slice.ensures.after c.requires; place = refl } }
