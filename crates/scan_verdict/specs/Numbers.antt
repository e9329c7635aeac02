-- A verdict before the first scan, as the definitions count it.
use Rattle.std.specs.Prelude.{ℕ}
use Rattle.scan_verdict.specs.declared.Verdict.{Verdict}
use Rattle.scan_verdict.specs.declared.Verdict.TheVariants.{Accepted, Missing, OutOfService, FromTheFuture, TooOld, OffTheGrid}

abbrev pub number_of : Verdict → ℕ
number_of Accepted = 0
number_of Missing = 1
number_of OutOfService = 2
number_of FromTheFuture = 3
number_of TooOld = 4
number_of OffTheGrid = 5
