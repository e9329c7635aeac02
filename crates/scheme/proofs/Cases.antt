-- A line for each refusal of each call with its place, each verdict, each kind of reading, and the edges of age, service, radius, size and line: what the
-- theorems leave open is fixed here, by computation.
use Rattle.std.specs.Prelude.{◌<◌, ◌≡◌, refl, true, length, pos, negsuc}
use mathlib.Core.List.{List, [], ◌∷◌, flatten}
use Rattle.std.proofs.Common.{lt-ltb, le-ltb, eq-eqb, arith}
use Rattle.std.proofs.lemmas.List.{length-map}
use Rattle.lists.specs.Tab.{tab}
use Rattle.lists.specs.Sums.{total}
use Rattle.lists.specs.Parted.{each_from, each}
use Rattle.lists.specs.First.{first, first_from, or_next}
use Rattle.scheme.specs.Units.{is_missing, missing_mark, stored, field_of, most_stations, is_no_wind, Station, no_end, station_at, stations_of, equation_rule, R, E, B, L, guess}
use Rattle.scheme.specs.Refusals.{in_order, refused_with, refused_at, bad_shape, bad_window, windows_of, bad_screen, bad_lengths, bad_columns, bad_scans, rising, bad_scan, bad_buddies, bad_guess, bad_wind, bad_station, from_five, analysis_refusal, window_refusal, screen_refusal, summary_refusal, reading_refusal}
use Rattle.scheme.specs.Verdicts.{serves, out_of_service, near_axis, off_grid, first_that_fits, before_scans}
use Rattle.scheme.specs.Rounding.{rounded}
use Rattle.scheme.specs.Value.{place, cell, corners, sum_at, value_at}
use Rattle.scheme.specs.Difference.{difference, after_test, tested}
use Rattle.scheme.specs.Buddies.{says, heard, is_odd, after_buddies, beside_others}
use Rattle.scheme.specs.Weight.{weight, stretched, blows, weight_at}
use Rattle.scheme.specs.Correction.{gift, share, divisor, correction, backed_by}
use Rattle.scheme.specs.Smoothing.{inner, smoothed}
use Rattle.scheme.specs.Scan.{start, all_judged, rows_judged, sums_at, corrected, scan, after_within, analysis}
use Rattle.scheme.specs.Reach.{on_span}
use Rattle.scheme.specs.Readings.{is_backed, reading_in, reading, numbers_of, lowest, highest, units_of, summary}
use Rattle.scheme.specs.Text.{request_lines, first_two, analysis_text, reply_text, answer_text}
use Rattle.scheme.specs.Text.Pieces.{word, digits, positive, natural, between, count, unsigned, negative, signed, values}
use Rattle.scheme.specs.Text.Lines.{number, grid_line, entry_line, row_line, observation, end, station_line}
use Rattle.scheme.specs.Text.Order.{lines, rows, nothing_after}
use Rattle.scheme.specs.Text.Printed.{spelled, decimal, integer, cells, keyed, grid_lines}
use Rattle.scheme.proofs.Accepted.{columns_good}
use Rattle.scheme.specs.Calls.{columns_of}
use Rattle.scheme.proofs.Calls.{equal_columns}
use Rattle.scheme.specs.Cases.{Borders, LoneStations, Numbers, Posts, Readings, Refusals, Rims, Streaks, Texts, Verdicts, clustered, levelled, mast, odd, three_with}

-- ---- a call on a grid of two by two, to be damaged

-- ---- what the calls refuse, and what they do not

-- more rows than 512, in equal columns
too_many : (ss : List Station) → most_stations < length ss → bad_columns (columns_of ss) ≡ true
unfolding bad_columns
too_many ss h =
    rw (
      length-map ss (λ (s : Station). s.x),
      length-map ss (λ (s : Station). s.y),
      length-map ss (λ (s : Station). s.value),
      length-map ss (λ (s : Station). s.observed),
      length-map ss (λ (s : Station). s.from),
      length-map ss (λ (s : Station). s.until),
      length-map ss (λ (s : Station). s.wind.u),
      length-map ss (λ (s : Station). s.wind.v),
      eq-eqb (length ss) (length ss) refl,
      lt-ltb most_stations (length ss) h,
    )

refusals : Refusals
unfolding analysis_refusal window_refusal screen_refusal from_five in_order refused_with refused_at first first_from or_next bad_shape bad_window windows_of bad_screen total bad_lengths bad_columns bad_scans bad_scan rising bad_buddies bad_guess bad_station bad_wind is_no_wind stations_of station_at is_missing tab
refusals =
    record {
      not_refused = (refl, refl, refl, refl);
      as_one = refl;
      one_column = (refl, refl, refl, refl);
      one_row = (refl, refl, refl, refl);
      many_columns = (refl, refl, refl, refl);
      many_rows = (refl, refl, refl, refl);
      long_guess = (refl, refl, refl, refl);
      left_past_right = refl;
      top_past_bottom = refl;
      past_the_right = refl;
      past_the_bottom = refl;
      last_point = refl;
      short_right = refl;
      short_top = refl;
      long_bottom = refl;
      seventeen_windows = refl;
      sixteen_windows = refl;
      unequal_before_bad = refl;
      bad_window_by_index = refl;
      first_of_two_windows = refl;
      bad_window_before_lengths = refl;
      together = refl;
      last_window_alone = refl;
      long_screen_support = refl;
      no_windows_no_points = refl;
      short_grid = refl;
      short_support = refl;
      short_verdicts = refl;
      short_tile = refl;
      short_tile_support = refl;
      unequal = (refl, refl, refl, refl);
      short_winds = (refl, refl, refl, refl);
      long_winds = (refl, refl, refl, refl);
      many = λ ss e. too_many ss (omega arith);
      most = λ ss e. columns_good (columns_of ss) (equal_columns ss (omega arith));
      no_scans = (refl, refl, refl, refl);
      seven_scans = (refl, refl, refl, refl);
      six_scans = (refl, refl, refl, refl);
      short_radii = (refl, refl, refl, refl);
      short_limits = (refl, refl, refl, refl);
      third_mode = (refl, refl, refl, refl);
      mode_before_radius = (refl, refl, refl, refl);
      mode_before_wind = (refl, refl, refl, refl);
      columns_before_mode = (refl, refl, refl, refl);
      second_rule = (refl, refl, refl, refl);
      rule_0 = (refl, refl, refl, refl);
      third_rule = (refl, refl, refl, refl);
      rule_before_radius = (refl, refl, refl, refl);
      columns_before_rule = (refl, refl, refl, refl);
      no_radius = (refl, refl, refl, refl);
      wide_radius = (refl, refl, refl, refl);
      widest_radius = (refl, refl, refl, refl);
      first_of_two_scans = (refl, refl, refl, refl);
      rises = (refl, refl, refl, refl);
      negative_limit = (refl, refl, refl, refl);
      large_limit = (refl, refl, refl, refl);
      largest_limit = (refl, refl, refl, refl);
      no_B = (refl, refl, refl, refl);
      least_B = (refl, refl, refl, refl);
      most_B = (refl, refl, refl, refl);
      past_B = (refl, refl, refl, refl);
      negative_L = (refl, refl, refl, refl);
      past_L = (refl, refl, refl, refl);
      off_unread = (refl, refl, refl, refl);
      scan_before_check = (refl, refl, refl, refl);
      check_before_guess = (refl, refl, refl, refl);
      high_guess = (refl, refl, refl, refl);
      low_guess = (refl, refl, refl, refl);
      edge_guess = (refl, refl, refl, refl);
      first_of_two_guesses = (refl, refl, refl, refl);
      missing_guess = (refl, refl, refl, refl);
      high_value = (refl, refl, refl, refl);
      missing_value = (refl, refl, refl, refl);
      next_to_the_mark = (refl, refl, refl, refl);
      far_x = (refl, refl, refl, refl);
      far_y = (refl, refl, refl, refl);
      edge_place = (refl, refl, refl, refl);
      no_service = (refl, refl, refl, refl);
      first_of_two_rows = (refl, refl, refl, refl);
      u_past_100 = (refl, refl, refl, refl);
      v_past_100 = (refl, refl, refl, refl);
      u_missing = (refl, refl, refl, refl);
      v_missing = (refl, refl, refl, refl);
      both_missing = (refl, refl, refl, refl);
      strongest_wind = (refl, refl, refl, refl);
    }

-- ---- verdicts before the first scan, on a grid of two by two at minute 1000, with readings of up to 60 minutes

verdicts : Verdicts
unfolding before_scans first_that_fits is_missing out_of_service serves off_grid near_axis after_test
verdicts =
    record {
      fine = refl;
      missing = refl;
      a_proper_value = refl;
      read_before_service = refl;
      read_when_put_up = refl;
      taken_down_by_T = refl;
      taken_down_after_T = refl;
      put_up_after_T = refl;
      read_when_taken_down = refl;
      no_end = refl;
      two_before_three = refl;
      read_at_T = refl;
      read_after_T = refl;
      of_the_greatest_age = refl;
      too_old = refl;
      any_age = refl;
      far_corner = refl;
      posts_at_corners = (refl, refl);
      past_columns = refl;
      past_rows = refl;
      before_columns = refl;
      before_rows = refl;
      rejected_in_the_first = refl;
      rejected_in_the_last = refl;
      at_no_limit = refl;
      rejected_before = refl;
    }

-- ---- readings and summaries

readings : Readings
unfolding reading reading_refusal summary_refusal refused_with bad_shape reading_in near_axis place is_backed cell sum_at corners field_of numbers_of summary units_of lowest highest
readings =
    record {
      backed = refl;
      first_guess = refl;
      far_corner = refl;
      off-grid = refl;
      before_grid = refl;
      refused = refl;
      refused_shape = refl;
      kind_of_off_grid = refl;
      kind_of_first_guess = refl;
      kind_of_backed = refl;
      kind_of_refused = refl;
      summarised = refl;
      summary_refused = refl;
    }

-- ---- texts

texts : Texts
unfolding answer_text reply_text request_lines lines rows flatten nothing_after grid_line entry_line row_line station_line number observation end word digits positive natural between count unsigned negative signed values from_five in_order refused_with refused_at first first_from or_next bad_scans bad_scan rising bad_buddies bad_guess bad_station bad_wind is_no_wind is_missing analysis_text first_two grid_lines keyed cells integer decimal spelled analysis stored tab after_within scan start rows_judged all_judged each each_from beside_others heard says is_odd after_buddies B L sums_at corrected guess field_of R E before_scans first_that_fits out_of_service serves off_grid near_axis tested after_test difference value_at place sum_at cell corners rounded total share gift weight_at blows weight divisor correction backed_by
texts =
    record {
      longest = λ text e. rw (le-ltb 65536 (length text) (omega arith));
      too_long = λ text e. rw (lt-ltb 65536 (length text) (omega arith));
      empty = refl;
      absent = refl;
      unended = refl;
      surplus = refl;
      doubled = refl;
      no_age = refl;
      narrow = refl;
      wide = refl;
      no_scans = refl;
      seven_scans = refl;
      leading_zero = refl;
      past_u32 = refl;
      missing_in_a_row = refl;
      many_stations = refl;
      rule_0 = refl;
      third_rule = refl;
      rule_before_smooth = refl;
      rule_twice = refl;
      rule_after_scans = refl;
      buddy_before_scans = refl;
      buddy_among_scans = refl;
      buddy_twice = refl;
      buddy_after_a_row = refl;
      buddy_of_one = refl;
      buddy_past_i32 = refl;
      no_radius = refl;
      past_B = refl;
      past_L = refl;
      high_guess = refl;
      no_service = refl;
      no_stations = refl;
      age_left_out = refl;
      rule_1 = refl;
      rule_2 = refl;
      rule_left_out = refl;
      buddies_on = refl;
      buddies_off = refl;
    }

-- ---- the border of a smoothed grid of three by three keeps its values

borders : Borders
unfolding smoothed inner
borders = record { border_keeps = λ z. (refl, refl, refl, refl) }

-- ---- posts beyond the border

posts : Posts
unfolding analysis stored tab after_within scan start rows_judged all_judged each each_from beside_others heard says is_odd after_buddies B L sums_at corrected guess field_of R E before_scans first_that_fits is_missing out_of_service serves off_grid near_axis tested after_test difference value_at place sum_at cell corners rounded total share gift weight_at blows weight divisor correction backed_by on_span
posts =
    record {
      west_of_the_grid = refl;
      on_the_border = refl;
      nearest_place = λ z. refl;
      field_as_found = λ guess. refl;
      kept_at_the_border = (refl, refl);
      kept_on_the_edge = (refl, refl);
      not_beside_the_edge = (refl, refl);
      not_past_the_other_border = (refl, refl);
    }

-- ---- the rim of a radius

rims : Rims
unfolding analysis stored tab after_within scan start rows_judged all_judged each each_from beside_others heard says is_odd after_buddies B L sums_at corrected guess field_of R E before_scans first_that_fits is_missing out_of_service serves off_grid near_axis tested after_test difference value_at place sum_at cell corners rounded total share gift weight_at blows weight divisor correction backed_by
rims = record { weighed_by_ten_thousandths = refl; inside_without_weight = refl }

-- ---- streaks along the wind

streaks : Streaks
unfolding analysis stored tab after_within scan start rows_judged all_judged each each_from beside_others heard says is_odd after_buddies B L sums_at corrected guess field_of R E before_scans first_that_fits is_missing is_no_wind out_of_service serves off_grid near_axis tested after_test difference value_at place sum_at cell corners rounded total share gift weight_at blows stretched weight divisor correction backed_by
streaks =
    record {
      along_the_rows = (refl, refl, refl, refl, refl, refl);
      round_elsewhere = (refl, refl, refl, refl);
      past_64_bits = (refl, refl, refl);
      two-masts = (refl, refl);
      rim_along_the_wind = refl;
    }

-- ---- a lone station, by both rules

lone_stations : LoneStations
unfolding analysis stored tab after_within scan start rows_judged all_judged each each_from beside_others heard says is_odd after_buddies B L sums_at corrected guess field_of R E before_scans first_that_fits is_missing is_no_wind out_of_service serves off_grid near_axis tested after_test difference value_at place sum_at cell corners rounded total share gift weight_at blows stretched weight divisor correction backed_by
lone_stations =
    record {
      by_both_rules = (refl, refl);
      below_the_guess = refl;
      lone_without_weight = refl;
      beside_one_without_weight = refl;
      beside_one_rejected = refl;
      beside_one_dead = refl;
      along_the_wind = refl;
    }

-- ---- clusters of buddies

pub record Clusters : Type 0 where
  -- n·L met exactly, exceeded by the least, and by so much that the two are set aside with the third
  pub met : (analysis (clustered equation_rule 30 40 (three_with (odd (pos 0) (pos 10) 40)))).verdict ≡ 0 ∷ 0 ∷ 0 ∷ []
  pub by_one_more : (analysis (clustered equation_rule 30 39 (three_with (odd (pos 0) (pos 10) 40)))).verdict ≡ 0 ∷ 0 ∷ 21 ∷ []
  pub all_three : (analysis (clustered equation_rule 30 19 (three_with (odd (pos 0) (pos 10) 40)))).verdict ≡ 21 ∷ 21 ∷ 21 ∷ []
  -- one neighbour is not enough
  pub one_neighbour : (analysis (clustered equation_rule 30 0 (odd (pos 0) (pos 0) 0 ∷ odd (pos 10) (pos 0) 60 ∷ []))).verdict ≡ 0 ∷ 0 ∷ []
  -- a third at distance B is none, and one unit nearer is
  pub at_B : (analysis (clustered equation_rule 100 0 (odd (pos 0) (pos 0) 0 ∷ odd (pos 0) (pos 0) 0 ∷ odd (pos 60) (pos 80) 40 ∷ []))).verdict ≡ 0 ∷ 0 ∷ 0 ∷ []
  pub nearer : (analysis (clustered equation_rule 100 0 (odd (pos 0) (pos 0) 0 ∷ odd (pos 0) (pos 0) 0 ∷ odd (pos 60) (pos 79) 40 ∷ []))).verdict ≡ 21 ∷ 21 ∷ 21 ∷ []
  -- all at one place, with B = 1
  pub one_place : (analysis (clustered equation_rule 1 20 (odd (pos 5) (pos 5) 0 ∷ odd (pos 5) (pos 5) 40 ∷ odd (pos 5) (pos 5) 0 ∷ []))).verdict ≡ 0 ∷ 21 ∷ 0 ∷ []
  -- one that the E test has rejected in this scan, or that is dead, is no neighbour
  pub beside_one_rejected : (analysis (clustered equation_rule 30 0 (three_with (odd (pos 0) (pos 10) 65)))).verdict ≡ 0 ∷ 0 ∷ 11 ∷ []
  pub beside_one_dead : (analysis (clustered equation_rule 30 0 (odd (pos 0) (pos 0) 0 ∷ odd (pos 10) (pos 0) 60 ∷ mast (pos 0) (pos 10) missing_mark 1000 0 no_end ∷ []))).verdict
      ≡ 0 ∷ 0 ∷ 1 ∷ []
  -- posts by their true places: 40 apart, with one nearest place on the grid
  pub posts_apart : (analysis (clustered equation_rule 30 0 (odd (negsuc 39) (pos 0) 0 ∷ odd (pos 0) (pos 0) 40 ∷ odd (pos 0) (pos 0) 40 ∷ []))).verdict ≡ 0 ∷ 0 ∷ 0 ∷ []
  pub posts_near : (analysis (clustered equation_rule 41 20 (odd (negsuc 39) (pos 0) 0 ∷ odd (pos 0) (pos 0) 40 ∷ odd (pos 0) (pos 0) 40 ∷ []))).verdict ≡ 21 ∷ 0 ∷ 0 ∷ []
  -- all are judged against the same survivors: no station's verdict changes another's
  pub two_odd_ones : (analysis (clustered equation_rule 30 24 (odd (pos 0) (pos 0) 0 ∷ odd (pos 0) (pos 0) 0 ∷ odd (pos 0) (pos 0) 0 ∷ odd (pos 0) (pos 0) 40 ∷ odd (pos 0) (pos 0) 40 ∷ []))).verdict
      ≡ 0 ∷ 0 ∷ 0 ∷ 21 ∷ 21 ∷ []
  -- who is set aside has no weight: the grid of the two that stay, and under rule 2 the other is a lone one
  pub without_the_third : analysis (clustered equation_rule 30 39 (three_with (odd (pos 0) (pos 10) 40)))
      ≡ levelled (pos 640 ∷ pos 640 ∷ pos 640 ∷ pos 640 ∷ []) (1 ∷ 1 ∷ 1 ∷ 1 ∷ []) (0 ∷ 0 ∷ 21 ∷ [])

clusters : Clusters
unfolding analysis stored tab after_within scan start rows_judged all_judged each each_from beside_others heard says is_odd after_buddies B L sums_at corrected guess field_of R E before_scans first_that_fits is_missing out_of_service serves off_grid near_axis tested after_test difference value_at place sum_at cell corners rounded total share gift weight_at blows weight divisor correction backed_by
clusters =
    record {
      met = refl;
      by_one_more = refl;
      all_three = refl;
      one_neighbour = refl;
      at_B = refl;
      nearer = refl;
      one_place = refl;
      beside_one_rejected = refl;
      beside_one_dead = refl;
      posts_apart = refl;
      posts_near = refl;
      two_odd_ones = refl;
      without_the_third = refl;
    }

-- ---- the numbers that the names of Most stand for

-- ---- the table

pub record Cases : Type 0 where
  pub refused_so : Refusals
  pub judged_so : Verdicts
  pub read_so : Readings
  pub answered_so : Texts
  pub smoothed_so : Borders
  pub heard_so : Posts
  pub weighed_so : Rims
  pub streaked_so : Streaks
  pub alone_so : LoneStations
  pub set_aside_so : Clusters
  pub numbers : Numbers

pub cases : Cases
cases =
    record {
      refused_so = refusals;
      judged_so = verdicts;
      read_so = readings;
      answered_so = texts;
      smoothed_so = borders;
      heard_so = posts;
      weighed_so = rims;
      streaked_so = streaks;
      alone_so = lone_stations;
      set_aside_so = clusters;
      numbers = record { most-field = refl; most-difference = refl; most-weights = refl; most-pulls = refl; most-reach = refl };
    }
