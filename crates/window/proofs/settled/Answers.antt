-- `window::settled` meets its contract: past the tests the request is sound. Assumes nothing.
use Rattle.std.proofs.Common.{refl, sym}
use Rattle.scheme.proofs.Accepted.{formed_sound}
use Rattle.window.proofs.settled.Goals as goal

pub work-requires : goal.work-requires
work-requires c = (formed_sound _ c.requires.0 (sym c.in_ok-of_request.ensures), c.requires.1, refl, c.requires.2)
