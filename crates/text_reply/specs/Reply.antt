-- What is answered to a text.
use Rattle.std.specs.Prelude.{ℕ, ◌*◌, ◌^◌, ◌≤◌, ◌<◌, ◌≡◌, refl, List, length, take, ℤ, pos}
use Rattle.std.proofs.Common.{arith, ap, mul-le-mul, mul_comm, sym, ◌∙◌, lt-ltb, le-ltb, length-take-le, get_or-take}
use Rattle.std.proofs.lemmas.List.{length-map}
use Rattle.lists.specs.Tab.{length-tab}
use Rattle.scheme.specs.Units.{most_stations}
use Rattle.scheme.specs.Text.{most_bytes, request_lines, first_two, reply_text, in_form, answer_text}
use Rattle.scheme.specs.Most.{most_points}
use Rattle.scheme.specs.Accepted.{Formed}
use Rattle.request.specs.declared.Entry.{Entry}
use Rattle.request.specs.declared.Station.{Station as Row}
use Rattle.request.specs.declared.Terms.{Terms}
use Rattle.request.specs.Tables.{station_in, radii_in, limits_in, request_in}
use Rattle.request.specs.Loaded.{Held, same_refusal, same_analysis}
use Rattle.text_request.specs.Told.{request_read, Fits, Says}
use Rattle.text_answer.specs.Answered.{two_short, five_accepts}

module _ (text : List ℕ) where
  pub over : 65536 < length text → answer_text text ≡ first_two 10 0
  unfolding answer_text
  over h = rw (lt-ltb 65536 (length text) h)

  pub as_read : length text ≤ 65536 → answer_text text ≡ in_form (request_lines (1, text))
  unfolding answer_text
  as_read h = rw (le-ltb 65536 (length text) h)

-- ---- a request that was read, its first guess and its stations the fronts of what was lent

module _ (guess : List ℤ) (stations : List Row) (t : Terms) (n : ℕ) (points : length guess ≡ most_points) (room : length stations ≡ most_stations) (fits : Fits t n) where
  pub inside : t.ny * t.nx ≤ length guess
  inside = omega (arith, mul-le-mul fits.few_rows fits.few_columns)

  abbrev front : List ℤ
  front = take (t.ny * t.nx) guess

  abbrev rows : List Row
  rows = take n stations

  long : length rows ≡ n
  long = length-take-le n stations (omega (arith, fits.stations_few))

  radii_long : length (radii_in t.entries) ≡ length t.entries
  radii_long = length-map t.entries (λ (e : Entry). e.radius)

  limits_long : length (limits_in t.entries) ≡ length t.entries
  limits_long = length-map t.entries (λ (e : Entry). e.limit)

  -- the terms, the first guess and the stations hold it
  held : Held t front rows (request_read t n guess stations)
  held =
      record {
        nx_is = refl;
        ny_is = refl;
        guess_is = refl;
        stations_are = refl;
        plan =
            record {
              scans = refl;
              smooth = refl;
              mode = refl;
              rule = refl;
              buddies = refl;
              radii = λ m l. sym (get_or-take t.scans (radii_in t.entries) m (pos 0) l);
              limits = λ m l. sym (get_or-take t.scans (limits_in t.entries) m (pos 0) l);
            };
        time_is = refl;
        age_is = refl;
      }

  pub formed : Formed (request_in t front rows)
  formed =
      record {
        shape =
            record {
              two_columns = fits.two_columns;
              few_columns = fits.few_columns;
              two_rows = fits.two_rows;
              few_rows = fits.few_rows;
              whole = length-take-le (t.ny * t.nx) guess inside ∙ mul_comm t.ny t.nx;
            };
        few_stations = omega (arith, fits.stations_few, long, length-tab (length rows) (station_in rows));
        scans_some = fits.scans_some;
        scans_few = fits.scans_few;
        radii = omega (arith, fits.scans_few, fits.entries, radii_long);
        limits = omega (arith, fits.scans_few, fits.entries, limits_long);
        known = omega (arith, fits.round);
        ruled = fits.ruled;
      }

  -- and so does the request itself
  formed_read : Formed (request_read t n guess stations)
  formed_read =
      record {
        shape = formed.shape;
        few_stations = formed.few_stations;
        scans_some = formed.scans_some;
        scans_few = formed.scans_few;
        radii = omega (arith, length-take-le t.scans (radii_in t.entries) formed.radii);
        limits = omega (arith, length-take-le t.scans (limits_in t.entries) formed.limits);
        known = formed.known;
        ruled = fits.ruled;
      }

  same_reply : reply_text (request_read t n guess stations) ≡ reply_text (request_in t front rows)
  unfolding reply_text
  same_reply =
      rw (
        five_accepts (request_read t n guess stations) formed_read,
        five_accepts (request_in t front rows) formed,
        same_refusal held,
        same_analysis held,
      )

  pub said : (text : List ℕ) {after : ℕ} (says : Says text guess stations t n after) → in_form (request_lines (1, text)) ≡ reply_text (request_in t front rows)
  said text says = ap in_form says.said ∙ same_reply

-- ---- what is written

pub two_fit : (number place room : ℕ) → number < 2 ^ 32 → place < 2 ^ 32 → room ≡ most_bytes → length (first_two number place) ≤ room
two_fit number place room h k e = omega (arith, two_short number place h k)
