-- What loading makes of a call: terms and stations that hold the request that it asks, up to plan entries that are not read.
use Rattle.std.specs.Prelude.{ℕ, ◌≤◌, ◌<◌, ◌≡◌, refl, List, length, get_or, ℤ, pos}
use Rattle.std.proofs.Common.{arith, ap, ◌∙◌}
use Rattle.std.proofs.lemmas.List.{length-map}
use Rattle.lists.specs.Tab.{tab, tab_same, length-tab}
use Rattle.scheme.specs.Units.{station_at, stations_of, most_scans, wind_mode, Columns, Plan, Request, Call, asked}
use Rattle.scheme.specs.Refusals.{Window, Screen, windows_of}
use Rattle.scheme.specs.Scan.{analysis}
use Rattle.scheme.specs.Reach.{whole_at, whole_at_each}
use Rattle.scheme.specs.Accepted.{Shaped, Equal, Ruled, from_six, Formed}
use Rattle.scheme.specs.Entries.{with_plan, UpToCount}
use Rattle.scheme.proofs.Entries.{entries_past_the_count_change_no_analysis, entries_past_the_count_change_no_window, same_from_six}
use Rattle.request.specs.declared.Terms.{Terms}
use Rattle.request.specs.declared.Entry.{Entry}
use Rattle.request.specs.declared.Station.{Station as Row}
use Rattle.request.specs.declared.Window.{Window as Ends}
use Rattle.request.specs.Tables.{no_row, station_in, stations_in, plan_in, request_in, no_ends, window_no, windows_in, turn_same}

-- entry m of a plan's columns
abbrev pub entry_at : Plan → ℕ → Entry
entry_at p m = record { radius = get_or p.radius m (pos 0); limit = get_or p.limit m (pos 0) }

-- what terms say
pub record Termed (t : Terms) (c : Call) : Type 0 where
  pub nx_is : t.nx ≡ c.nx
  pub ny_is : t.ny ≡ c.ny
  pub plan : UpToCount c.plan (plan_in t)
  pub entries : length t.entries ≡ most_scans
  pub time_is : t.time ≡ c.T
  pub age_is : t.age ≡ c.A

-- the stations that are loaded
abbrev pub row_at : Columns → ℕ → Row
row_at c k =
    record {
      x = get_or c.x k (pos 0);
      y = get_or c.y k (pos 0);
      value = get_or c.value k (pos 0);
      observed = get_or c.observed k 0;
      from = get_or c.from k 0;
      until = get_or c.until k 0;
      wind = record { u = get_or c.wind_u k (pos 0); v = get_or c.wind_v k (pos 0) };
    }

pub loads : (c : Columns) (ss : List Row) → length ss ≡ length c.x → ((k : ℕ) → k < length ss → get_or ss k no_row ≡ row_at c k)
    → stations_in ss ≡ stations_of c
unfolding stations_of station_at
loads c ss e same = ap (λ (n : ℕ). tab n (station_in ss)) e ∙ tab_same (length c.x) _ _ (λ k h. rw (same k (omega (arith, e))))

-- the windows that are loaded
abbrev pub ends_at : Screen → ℕ → Ends
ends_at s k = record { left = get_or s.left k 0; right = get_or s.right k 0; top = get_or s.top k 0; bottom = get_or s.bottom k 0 }

pub windows_loaded : (s : Screen) (ws : List Ends) → length ws ≡ length s.left → ((k : ℕ) → k < length ws → get_or ws k no_ends ≡ ends_at s k)
    → windows_in ws ≡ windows_of s
unfolding windows_of
windows_loaded s ws e same = ap (λ (n : ℕ). tab n (window_no ws)) e ∙ tab_same (length s.left) _ _ (λ k h. rw (same k (omega (arith, e))))

-- ---- terms, first guess and stations that hold a request: all of it but plan entries past the count

pub record Held (t : Terms) (guess : List ℤ) (stations : List Row) (q : Request) : Type 0 where
  pub nx_is : t.nx ≡ q.nx
  pub ny_is : t.ny ≡ q.ny
  pub guess_is : guess ≡ q.first_guess
  pub stations_are : stations_in stations ≡ q.stations
  pub plan : UpToCount q.plan (plan_in t)
  pub time_is : t.time ≡ q.T
  pub age_is : t.age ≡ q.A

-- it is refused, analysed and queried as that request is
module _ {t : Terms} {guess : List ℤ} {stations : List Row} {q : Request} (h : Held t guess stations q) where
  as_held : request_in t guess stations ≡ with_plan q (plan_in t)
  as_held = rw (h.nx_is, h.ny_is, h.guess_is, h.stations_are, h.time_is, h.age_is)

  pub same_refusal : from_six (request_in t guess stations) ≡ from_six q
  same_refusal = ap from_six as_held ∙ same_from_six q (plan_in t) h.plan

  pub same_analysis : analysis (request_in t guess stations) ≡ analysis q
  same_analysis = ap analysis as_held ∙ entries_past_the_count_change_no_analysis q (plan_in t) h.plan

  pub same_window : (w : Window) → whole_at (request_in t guess stations) w ≡ whole_at q w
  same_window w = ap (λ (p : Request). whole_at p w) as_held ∙ entries_past_the_count_change_no_window q (plan_in t) h.plan w

  pub same_screen : (ws : List Ends) → whole_at_each (request_in t guess stations) (windows_in ws) ≡ whole_at_each q (windows_in ws)
  same_screen ws = turn_same _ _ ws (λ k h. same_window (window_no ws k))

-- ---- a call that is loaded

module _ (t : Terms) (c : Call) (stations : List Row) (says : Termed t c) (rows : stations_in stations ≡ stations_of c.stations) where
  pub held : Held t c.first_guess stations (asked c)
  held =
      record {
        nx_is = says.nx_is;
        ny_is = says.ny_is;
        guess_is = refl;
        stations_are = rows;
        plan = says.plan;
        time_is = says.time_is;
        age_is = says.age_is;
      }

  -- it passes the rows before 6 as the call does
  pub formed : Shaped c.nx c.ny (length c.first_guess) → Equal c.stations → 1 ≤ c.plan.scans → c.plan.scans ≤ most_scans → c.plan.mode ≤ wind_mode
      → Ruled c.plan.rule → Formed (request_in t c.first_guess stations)
  unfolding stations_of
  formed shape equal some few known ruled =
      let s = says.plan.scans in
      let long : length (stations_in stations) ≡ length c.stations.x = ap length rows ∙ length-tab (length c.stations.x) (station_at c.stations) in
      record {
        shape = rw (says.nx_is, says.ny_is) shape;
        few_stations = omega (arith, long, equal.few);
        scans_some = omega (arith, s);
        scans_few = omega (arith, s);
        radii = omega (arith, s, says.entries, length-map t.entries (λ (e : Entry). e.radius));
        limits = omega (arith, s, says.entries, length-map t.entries (λ (e : Entry). e.limit));
        known = rw says.plan.mode known;
        ruled = rw says.plan.rule ruled;
      }
