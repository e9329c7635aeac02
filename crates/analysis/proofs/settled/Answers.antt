-- `analysis::settled` meets its contract: a refusal found before anything is written, or the scans. Assumes nothing.
use Rattle.std.proofs.Common.{sym}
use Rattle.scheme.proofs.Accepted.{formed_sound}
use Rattle.analysis.proofs.settled.Goals as goal

pub run-requires : goal.run-requires
run-requires c = (formed_sound _ c.requires.0 (sym c.in_ok-of_request.ensures), c.requires.1)
