-- `text_answer::reply_to` meets its contract: the fronts of the results are as long as the grid and the station list. Assumes nothing.
use Rattle.std.proofs.Common.{arith, ℕ, ◌*◌, ◌≤◌, ◌≡◌, mul-le-mul, sym, ◌∙◌, length, take}
use Rattle.std.proofs.Math.ListN.{replicate, length-replicate}
use lib.IntN.{ℤ, pos}
use Rattle.lists.specs.Tab.{length-tab}
use Rattle.scheme.specs.Units.{most_stations}
use Rattle.scheme.specs.Most.{most_points}
use Rattle.request.specs.Tables.{station_in}
use Rattle.text_answer.specs.Answered.{front_long}
use Rattle.text_answer.proofs.reply_to.Goals as goal

points_front : (n : ℕ) → n ≤ most_points → n ≡ length (take n (replicate 4096 (pos 0)))
points_front n h = front_long n most_points (replicate 4096 (pos 0)) h (omega (arith, length-replicate {A = ℤ} 4096 (pos 0)))

support_front : (n : ℕ) → n ≤ most_points → n ≡ length (take n (replicate {A = ℕ} 4096 0))
support_front n h = front_long n most_points (replicate {A = ℕ} 4096 0) h (omega (arith, length-replicate {A = ℕ} 4096 0))

verdict_front : (n : ℕ) → n ≤ most_stations → n ≡ length (take n (replicate {A = ℕ} 512 0))
verdict_front n h = front_long n most_stations (replicate {A = ℕ} 512 0) h (omega (arith, length-replicate {A = ℕ} 512 0))

pub slice_bounds-verdict-end : goal.slice_bounds-verdict-end
slice_bounds-verdict-end c =
    let ss = c.args.request.now.stations.now in
    omega (arith, length-tab (length ss) (station_in ss), c.requires.0.few_stations)

pub slice_bounds-answered-end-3 : goal.slice_bounds-answered-end-3
slice_bounds-answered-end-3 c =
    let ss = c.args.request.now.stations.now in
    verdict_front (length ss) (omega (arith, length-tab (length ss) (station_in ss), c.requires.0.few_stations))

pub answered-requires : goal.answered-requires
answered-requires c =
    let t = c.args.request.now.terms in
    let ss = c.args.request.now.stations.now in
    let points : t.nx * t.ny ≤ most_points = mul-le-mul c.requires.0.shape.few_columns c.requires.0.shape.few_rows in
    let stations : length ss ≤ most_stations = omega (arith, length-tab (length ss) (station_in ss), c.requires.0.few_stations) in (
      c.requires.0,
      record {
        grid_long = sym (points_front (t.nx * t.ny) points);
        support_long = sym (support_front (t.nx * t.ny) points);
        verdict_long = sym (verdict_front (length ss) stations) ∙ sym (length-tab (length ss) (station_in ss));
      },
      c.requires.1,
    )
