-- Documents 01 and 02 as a scheme: its pieces keep the laws, and its run goes by them.
use Rattle.scheme.specs.Refusals.{Window}
use Rattle.scheme.specs.Axes.{Axis}

-- the part of the grid along two stretches of its axes
abbrev pub part : Axis → Axis → Window
part a b = record { columns = a.span; rows = b.span }
