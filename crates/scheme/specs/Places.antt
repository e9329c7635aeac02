-- An answer as one number loses nothing: a place is below 65,536, so that the refusal and its place can be read back from it.
use Rattle.std.specs.Prelude.{◌/◌, ◌%◌, ◌<◌, ◌≡◌}
use Rattle.scheme.specs.Refusals.{Refusal, number_of, place_of, as_one}

abbrev pub Small : Refusal → Type 0
Small r = place_of r < 65536

-- refusal and place, read back from the one number
abbrev pub Tells : Refusal → Type 0
Tells r = (as_one r / 65536 ≡ number_of r) × (as_one r % 65536 ≡ place_of r)
