-- The judging of a scan: the E test of each row, and then the buddy check of all at once. Laws that serve wherever rows are judged.
use Rattle.scheme.specs.Difference.{Row}
use Rattle.scheme.specs.Accepted.{no_station}

-- where there is no row n, there is no accepted one
abbrev pub no_row : Row
no_row = record { station = no_station; verdict = 1 }
