-- `analyse::main`: what is written lies inside its array. Assumes nothing.
use Rattle.std.proofs.Common.{sym, length-take-le}
use Rattle.analyse.specs.Input.{stands_inside}
use Rattle.analyse.proofs.main.Goals as goal

pub slice_bounds-out-end : goal.slice_bounds-out-end
slice_bounds-out-end c = stands_inside _ _ c.reply-length.ensures

pub slice_bounds-write_all-end-2 : goal.slice_bounds-write_all-end-2
slice_bounds-write_all-end-2 c = sym (length-take-le c.reply-length.result c.reply-length.new.out (stands_inside _ _ c.reply-length.ensures))
