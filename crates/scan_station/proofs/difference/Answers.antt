-- `scan_station::difference` meets its contract: observation and value are small, and so is their difference. Assumes nothing.
use Rattle.std.proofs.Common.{arith, ap, sym, ◌≤◌, ◌∙◌, eq-eqb, ℤ, nat_abs, ◌-ℤ◌, w32, w64}
use Rattle.integers.specs.Sizes.{size_minus}
use Rattle.integers.specs.Words.{bits_back}
use Rattle.scheme.specs.Most.{most_difference}
use Rattle.request.specs.Tables.{station_of}
use Rattle.scan_station.specs.Judge.{diff_of, difference_is}
use Rattle.scan_station.proofs.difference.Goals as goal

pub returns : goal.returns
unfolding diff_of
returns c =
    let heard = c.requires.4 c.if-verdict-ne0.false in
    let v : ℤ = c.value_for.result in
    let o : ℤ = c.args.station.value in
    let d : nat_abs (o -ℤ v) ≤ most_difference = omega (arith, size_minus o v, heard.value, c.value_for.ensures.1) in
    rw (
      bits_back w32 o (omega (arith, heard.value)),
      bits_back w64 o (omega (arith, heard.value)),
      bits_back w64 v (omega (arith, c.value_for.ensures.1)),
      bits_back w64 (o -ℤ v) (omega (arith, d)),
      eq-eqb _ _ c.if-verdict-ne0.false,
    )
    (ap (λ (x : ℤ). o -ℤ x) c.value_for.ensures.0 ∙ sym (difference_is _ _ _ _ (station_of c.args.station)), d)
