-- The loop of `text_pieces::digits`: the digits that are left, after those that were read, say what all say.
use Rattle.std.proofs.Common.{◌≡◌, ◌≤◌, length}
use Rattle.scheme.specs.Text.Pieces.{digits}
use Rattle.text_pieces.specs.Told.{greatest_u64, saturated}
use Rattle.text_pieces.proofs.digits.Given as goal

abbrev pub invariant-loop-digit : goal.invariant-loop-digit
invariant-loop-digit l = (l.value ≤ greatest_u64) × (saturated (digits l.value l.left) ≡ saturated (digits l.fn.first l.fn.text))

abbrev pub decreases-loop-digit : goal.decreases-loop-digit
decreases-loop-digit l = length l.left
