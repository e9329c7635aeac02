-- `scan_station::value_for` meets its contract: both fields are read at the station's place on the grid. Assumes nothing.
use Rattle.std.proofs.Common.{arith, rules, ℕ, ◌≤◌, ◌≡◌, sym, ◌∙◌, List, length, ℤ, pos, nat_abs, w32, w64, to_z, of_z}
use Rattle.integers.specs.Words.{bits_back}
use Rattle.scheme.specs.Units.{Station, field_of}
use Rattle.scheme.specs.Rounding.{rounded}
use Rattle.scheme.specs.Value.{place, sum_at, value_at}
use Rattle.scheme.specs.Most.{most_field}
use Rattle.scheme.specs.Accepted.{Shaped}
use Rattle.scheme.specs.Bounds.{Small}
use Rattle.request.specs.Tables.{station_of}
use Rattle.scan_station.specs.Judge.{value_size}
use Rattle.scan_station.proofs.value_for.Goals as goal

-- of the one field or the other
module _ (z : List ℤ) (nx ny : ℕ) (s : Station) (shape : Shaped nx ny (length z)) (small : Small z) (r : ℤ) (i j : ℕ) (i-is : i ≡ place nx s.x) (j-is : j ≡ place ny s.y)
    (e : r ≡ rounded (sum_at nx ny (field_of (pos 0) nx z) i j) 4096) where
  here : r ≡ value_at nx ny (field_of (pos 0) nx z) s
  unfolding value_at
  here = cc

  found : (to_z w64 (of_z w64 r) ≡ value_at nx ny (field_of (pos 0) nx z) s) × (nat_abs (to_z w64 (of_z w64 r)) ≤ most_field)
  found =
      let size : nat_abs r ≤ most_field = rw here (value_size z nx ny shape small s) in
      rw (bits_back w64 r (omega (arith, size))) (here, size)

pub returns-then-near_grid : goal.returns-then-near_grid
returns-then-near_grid c =
    let s = station_of c.args.station in
    let x-is : to_z w32 (of_z w32 s.x) ≡ s.x = search rules in
    let y-is : to_z w32 (of_z w32 s.y) ≡ s.y = search rules in
    let on = rw (x-is, y-is) at c.near_grid.ensures in
    rw (sym on ∙ c.if-near_grid.true)
    (found c.args.z.now c.args.nx c.args.ny s c.requires.1 c.requires.3 _ _ _ (rw x-is at c.place-px.ensures) (rw y-is at c.place-py.ensures) c.value_at.ensures)

pub returns-else-near_grid : goal.returns-else-near_grid
returns-else-near_grid c =
    let s = station_of c.args.station in
    let x-is : to_z w32 (of_z w32 s.x) ≡ s.x = search rules in
    let y-is : to_z w32 (of_z w32 s.y) ≡ s.y = search rules in
    let on = rw (x-is, y-is) at c.near_grid.ensures in
    rw (sym on ∙ c.if-near_grid.false)
    (found c.args.guess.now c.args.nx c.args.ny s c.requires.0 c.requires.2 _ _ _ (rw x-is at c.place-px.ensures) (rw y-is at c.place-py.ensures) c.value_at-else-near_grid.ensures)
