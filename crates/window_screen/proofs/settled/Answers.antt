-- `window_screen::settled` meets its contract: past the tests the request is sound, and the work is done in either way. Assumes nothing.
use Rattle.std.proofs.Common.{refl, sym}
use Rattle.scheme.proofs.Accepted.{same_shape, formed_sound}
use Rattle.window_screen.proofs.settled.Goals as goal

pub points_of_cuts-requires : goal.points_of_cuts-requires
points_of_cuts-requires c =
    let q = formed_sound _ c.requires.0 (sym c.in_ok-of_request.ensures) in
    (same_shape q.shape _ refl, q.plan, c.requires.1)

pub whole_at_each-requires : goal.whole_at_each-requires
whole_at_each-requires c = (formed_sound _ c.requires.0 (sym c.in_ok-of_request.ensures), c.requires.1, c.requires.2)

pub by_cuts-requires : goal.by_cuts-requires
by_cuts-requires c = (formed_sound _ c.requires.0 (sym c.in_ok-of_request.ensures), c.requires.1, c.requires.2)
