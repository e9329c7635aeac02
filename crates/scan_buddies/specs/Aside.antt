-- The buddy check over stations: what each survivor hears of the others, and its verdict after that.
use Rattle.std.specs.Prelude.{ℕ, ◌*◌, ◌≤◌, ◌<◌, ◌≡◌, cond, ◌&&◌, List, eqb, length, get_or, ℤ, pos, nat_abs, ◌-ℤ◌}
use Rattle.integers.specs.Parts.{up, dn}
use Rattle.lists.specs.Sums.{up_to}
use Rattle.scheme.specs.Units.{Station, most_stations, most_beyond, most_scans, most_limit, most_buddy_radius}
use Rattle.scheme.specs.Verdicts.{is_accepted}
use Rattle.scheme.specs.Weight.{inside}
use Rattle.scheme.specs.Buddies.{Heard, silence, both, after_buddies}
use Rattle.scheme.specs.Most.{most_along}
use Rattle.request.specs.declared.Station.{Station as Row}
use Rattle.request.specs.Tables.{station_in}

-- what station j says to station k
unfoldable pub said : (radius : ℕ) (stations : List Row) (st : List ℕ) (ds : List ℤ) (k j : ℕ) → Heard
said radius stations st ds k j =
    let other = station_in stations j in
    let itself = station_in stations k in
    cond (eqb j k) silence
    (cond (is_accepted (get_or st j 0) && inside (radius * radius) (other.x -ℤ itself.x) (other.y -ℤ itself.y)) (record { count = 1; sum = get_or ds j (pos 0) }) silence)

-- what station k hears of all
unfoldable pub heard_at : (radius : ℕ) (stations : List Row) (st : List ℕ) (ds : List ℤ) (k : ℕ) → Heard
heard_at radius stations st ds k = up_to silence both (length stations) (said radius stations st ds k)

-- and its verdict after that
unfoldable pub aside_at : (scan radius limit : ℕ) (stations : List Row) (st : List ℕ) (ds : List ℤ) (k : ℕ) → ℕ
aside_at scan radius limit stations st ds k = after_buddies scan limit (get_or ds k (pos 0)) (heard_at radius stations st ds k) (get_or st k 0)

-- where a survivor may be along an axis: -256..4288
pub record OnAxis (x : ℤ) : Type 0 where
  pub low : dn x ≤ most_beyond
  pub high : up x ≤ most_along

-- a survivor: where it may stand, and its difference
pub record Standing (s : Station) (d : ℤ) : Type 0 where
  pub x : OnAxis s.x
  pub y : OnAxis s.y
  pub d_small : nat_abs d ≤ most_limit

abbrev pub AllStanding : (stations : List Row) (ds : List ℤ) (st : List ℕ) → Type 0
AllStanding stations ds st = (k : ℕ) → k < length stations → get_or st k 0 ≡ 0 → Standing (station_in stations k) (get_or ds k (pos 0))

-- what setting aside needs
pub record AsideReady (st : List ℕ) (ds : List ℤ) (stations : List Row) (radius scan : ℕ) : Type 0 where
  pub few : length stations ≤ most_stations
  pub len_st : length st ≡ length stations
  pub radius_most : radius ≤ most_buddy_radius
  pub scan_few : scan ≤ most_scans
  pub standing : AllStanding stations ds st
