-- The scans of a plan, one after the other, are the run of the definitions.
use Rattle.std.specs.Prelude.{ℕ, ◌+◌, ◌-◌, ◌*◌, ◌≤◌, ◌<◌, ◌^◌, ◌≡◌, false, length, ℤ, pos, nat_abs}
use Rattle.std.proofs.Common.{arith, add-one, ◌∙◌}
use Rattle.std.proofs.Math.Nat.{pow-le-pow_right}
use Rattle.std.proofs.Math.Path.{sym, ap, subst}
use mathlib.Core.List.{List, map}
use Rattle.std.proofs.Math.ListN.{get_or}
use Rattle.lists.specs.Tab.{tab, length-tab, get_or_tab, map-tab, tab_get_or}
use Rattle.scheme.specs.Units.{is_no_wind, most_scans, Request}
use Rattle.scheme.specs.Difference.{Row}
use Rattle.scheme.specs.Scan.{after_within, after, at_end, analysis}
use Rattle.scheme.specs.Promises.{slices}
use Rattle.scheme.specs.Accepted.{no_station, Stationed}
use Rattle.scheme.proofs.Accepted.{same_shape}
use Rattle.scheme.proofs.Bounds.{first_guess_small, after-within}
use Rattle.scheme.specs.Streaks.{Fair}
use Rattle.scheme.proofs.Support.{support_small}
use Rattle.scheme.proofs.Stored.{length-stored, stored_all}
use Rattle.request.specs.declared.Terms.{Terms}
use Rattle.request.specs.declared.Station.{Station}
use Rattle.request.specs.Tables.{no_row, station_in, request_in}
use Rattle.scan_along.specs.Streak.{wind_in}
use Rattle.scan_start.specs.Reached.{row_in, Reached}
use Rattle.scans.specs.Scanned.{Scanned, scan_holds, scan_heard}
use Rattle.scans.specs.Ready.{most_before, ScanReady}

module _ {t : Terms} {guess : List ℤ} {stations : List Station} {m : ℕ} {z : List ℤ} {sup st : List ℕ}
    (now : Reached t guess stations m z sup st) where
  abbrev q : Request
  q = request_in t guess stations

  pub z_long : length z ≡ t.nx * t.ny
  z_long = ap length now.holds.field ∙ length-stored t.nx t.ny (after q m).field

  pub sup_long : length sup ≡ t.nx * t.ny
  sup_long = ap length now.holds.support ∙ length-stored t.nx t.ny (after q m).support

  -- a wind is in range or missing
  winds : (k : ℕ) → k < length stations → is_no_wind (wind_in (get_or stations k no_row)) ≡ false → Fair (wind_in (get_or stations k no_row))
  winds k h =
      let e : get_or q.stations k no_station ≡ station_in stations k = get_or_tab (length stations) (station_in stations) k no_station h in
      (subst Stationed e (now.sound.stations k (omega (arith, h, length-tab (length stations) (station_in stations))))).wind

  -- a further scan
  module _ (turn : m < t.scans) where
    pub few_scans : m < most_scans
    few_scans = omega (arith, now.sound.plan.scans_few)

    pub bit_small : 2 ^ m ≤ 32
    bit_small = pow-le-pow_right {n = 2} (omega arith) {i = m} {j = most_scans - 1} (omega (arith, few_scans))

    pub scan_ready : ScanReady t guess stations m z sup st
    scan_ready =
        record {
          guess_shape = now.sound.shape;
          guess_small = first_guess_small q now.sound;
          shape = same_shape now.sound.shape (length z) z_long;
          both = sup_long ∙ sym z_long;
          low = low;
          free = free;
          few = omega (arith, length-tab (length stations) (station_in stations), now.sound.few_stations);
          len_st = now.holds.long;
          entry = (few_scans, now.sound.plan.scan m turn);
          checks = now.sound.plan.checks;
          heard = now.heard;
          known = now.sound.plan.known;
          winds = winds;
        }
      where
        low : (k : ℕ) → nat_abs (get_or z k (pos 0)) ≤ most_before
        low k =
            rw now.holds.field
            (stored_all (λ (v : ℤ). nat_abs v ≤ most_before) (pos 0) t.nx t.ny (after q m).field (omega arith)
            (λ i j. omega (arith, after-within q now.sound m (omega arith) i j, few_scans)) k)

        free : (k : ℕ) → get_or sup k 0 + 2 ^ m < 256
        free k =
            rw now.holds.support
            (stored_all (λ (b : ℕ). b + 2 ^ m < 256) 0 t.nx t.ny (after q m).support (omega (arith, bit_small))
            (λ i j. omega (arith, support_small q i j m, bit_small)) k)

    pub next : {z' : List ℤ} {sup' st' : List ℕ} {ds : List ℤ} → Scanned t guess stations m z sup st z' sup' st' ds → Reached t guess stations (m + 1) z' sup' st'
    unfolding after_within
    next {z' = z'} {sup' = sup'} {st' = st'} {ds = ds} did =
        subst (λ (n : ℕ). Reached t guess stations n z' sup' st') (sym (add-one m))
        (record {
          sound = now.sound;
          holds = scan_holds t guess stations now.sound.shape m (after q m) z sup st now.holds z' sup' st' ds did;
          heard = scan_heard t guess stations now.sound.shape m (after q m) z sup st now.holds z' sup' st' ds did now.heard;
        })

-- after the last scan they hold the analysis
module _ {t : Terms} {guess : List ℤ} {stations : List Station} {z : List ℤ} {sup st : List ℕ} where
  pub whole : Reached t guess stations t.scans z sup st → slices z sup st ≡ analysis (request_in t guess stations)
  unfolding analysis
  whole r = cc (r.holds.field, r.holds.support, verdicts)
    where
      verdicts : st ≡ map (λ (o : Row). o.verdict) (at_end (request_in t guess stations)).rows
      verdicts =
          sym
          (ap (map (λ (o : Row). o.verdict)) r.holds.rows
          ∙ map-tab (λ (o : Row). o.verdict) (length stations) (row_in stations st)
          ∙ ap (λ (n : ℕ). tab n (λ k. get_or st k 0)) (sym r.holds.long)
          ∙ tab_get_or st 0)
