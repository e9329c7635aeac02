-- The loop of `text_lines::values`: what was read, and what is still to be read, is the whole row.
use Rattle.std.proofs.Common.{◌≡◌, ◌+◌, length}
use Rattle.text_lines.proofs.Turns.{Reached}
use Rattle.text_lines.proofs.values.Given as goal

abbrev pub invariant-loop-value : goal.invariant-loop-value
invariant-loop-value l = (l.more + l.value-index ≡ length l.z) × Reached l.fn.text l.left (length l.fn.z) l.value-index l.more l.z
