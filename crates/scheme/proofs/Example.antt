-- Document 01's own example, with its plan of one scan or with that scan twice, under either rule: as a request and as text, and what it answers.
use Rattle.std.specs.Prelude.{ℕ, zero, suc, ◌≡◌, refl, pos}
use Rattle.std.proofs.Common.{arith}
use mathlib.Core.List.{flatten}
use Rattle.lists.specs.Tab.{tab}
use Rattle.lists.specs.Sums.{total, up_to}
use Rattle.lists.specs.Parted.{each_from, each}
use Rattle.lists.specs.First.{first, first_from, or_next}
use Rattle.scheme.specs.Units.{is_missing, stored, field_of, is_no_wind, station_at, stations_of, equation_rule, listing_rule, R, E, B, L, guess}
use Rattle.scheme.specs.Refusals.{in_order, refused_with, refused_at, bad_shape, bad_window, windows_of, bad_screen, bad_lengths, bad_columns, bad_scans, rising, bad_scan, bad_buddies, bad_guess, bad_wind, bad_station, from_five, analysis_refusal, window_refusal, screen_refusal}
use Rattle.scheme.specs.Verdicts.{serves, out_of_service, near_axis, off_grid, first_that_fits, before_scans}
use Rattle.scheme.specs.Rounding.{rounded}
use Rattle.scheme.specs.Value.{place, cell, corners, sum_at, value_at}
use Rattle.scheme.specs.Difference.{difference, after_test, tested}
use Rattle.scheme.specs.Buddies.{says, heard, is_odd, after_buddies, beside_others}
use Rattle.scheme.specs.Weight.{weight, blows, weight_at}
use Rattle.scheme.specs.Correction.{gift, share, divisor, correction, backed_by}
use Rattle.scheme.specs.Smoothing.{pattern_row, pattern_sum, inner, smoothed}
use Rattle.scheme.specs.Scan.{start, all_judged, rows_judged, sums_at, corrected, scan, after_within, at_end, analysis}
use Rattle.scheme.specs.Reach.{window_of, whole_at}
use Rattle.scheme.specs.Accepted.{Ruled}
use Rattle.scheme.specs.Text.{request_lines, first_two, analysis_text, reply_text, answer_text}
use Rattle.scheme.specs.Text.Pieces.{word, digits, positive, natural, between, count, unsigned, negative, signed, values}
use Rattle.scheme.specs.Text.Lines.{number, grid_line, entry_line, row_line, observation, end, station_line}
use Rattle.scheme.specs.Text.Order.{lines, rows, nothing_after}
use Rattle.scheme.specs.Text.Printed.{spelled, decimal, integer, cells, keyed, grid_lines}
use Rattle.scheme.specs.Example.{Accepts, Analysed, Answered, Cheated, Screened, Tiled, lone}

-- ---- the request

-- ---- its text

-- ---- what it answers. Under rule 2 the five points that only the first mast reaches move by less than all of its difference

-- ---- all of it by computation

-- what holds under each of the rules holds under both
pub under_both : (P : ℕ → Type 0) → P equation_rule → P listing_rule → (rule : ℕ) → Ruled rule → P rule
under_both P one two zero r = absurd (omega (arith, r.0))
under_both P one two (suc zero) r = one
under_both P one two (suc (suc zero)) r = two
under_both P one two (suc (suc (suc n))) r = absurd (omega (arith, r.1))

pub example_accepted : (rule : ℕ) → Ruled rule → Accepts rule
unfolding analysis_refusal window_refusal from_five in_order refused_with refused_at first first_from or_next bad_shape bad_window bad_lengths bad_columns bad_scans bad_scan rising bad_buddies bad_guess bad_station bad_wind is_no_wind stations_of station_at is_missing tab
example_accepted = under_both Accepts ((refl, refl), (refl, refl), (refl, refl)) ((refl, refl), (refl, refl), (refl, refl))

pub example_analysis : (rule : ℕ) → Ruled rule → Analysed rule
unfolding analysis stored tab after_within scan start rows_judged all_judged each each_from beside_others heard says is_odd after_buddies B L sums_at corrected smoothed pattern_sum pattern_row inner up_to guess field_of R E before_scans first_that_fits is_missing out_of_service serves off_grid near_axis tested after_test difference value_at place sum_at cell corners rounded total share gift weight_at blows weight divisor correction backed_by
example_analysis = under_both Analysed (refl, refl, refl) (refl, refl, refl)

pub example_window : (rule : ℕ) → Ruled rule → Tiled rule
unfolding whole_at window_of stored tab after_within scan start rows_judged all_judged each each_from beside_others heard says is_odd after_buddies B L sums_at corrected smoothed pattern_sum pattern_row inner up_to guess field_of R E before_scans first_that_fits is_missing out_of_service serves off_grid near_axis tested after_test difference value_at place sum_at cell corners rounded total share gift weight_at blows weight divisor correction backed_by
example_window = under_both Tiled (refl, refl, refl) (refl, refl, refl)

pub example_screen : (rule : ℕ) → Ruled rule → Screened rule
unfolding screen_refusal from_five in_order refused_with refused_at first first_from or_next bad_shape bad_window bad_screen bad_lengths bad_columns bad_scans bad_scan rising bad_buddies bad_guess bad_station bad_wind is_no_wind stations_of station_at windows_of total whole_at window_of stored tab after_within scan start rows_judged all_judged each each_from beside_others heard says is_odd after_buddies B L sums_at corrected smoothed pattern_sum pattern_row inner up_to guess field_of R E before_scans first_that_fits is_missing out_of_service serves off_grid near_axis tested after_test difference value_at place sum_at cell corners rounded share gift weight_at blows weight divisor correction backed_by
example_screen = under_both Screened (refl, refl) (refl, refl)

pub example_cheated : (rule : ℕ) → Ruled rule → Cheated rule
unfolding window_of stored tab after_within scan start rows_judged all_judged each each_from beside_others heard says is_odd after_buddies B L sums_at corrected smoothed pattern_sum pattern_row inner up_to guess field_of R E before_scans first_that_fits is_missing out_of_service serves off_grid near_axis tested after_test difference value_at place sum_at cell corners rounded total share gift weight_at blows weight divisor correction backed_by
example_cheated = under_both Cheated (refl, refl, refl, refl) (refl, refl, refl, refl)

pub example_text : (rule : ℕ) → Ruled rule → Answered rule
unfolding answer_text reply_text request_lines lines rows flatten nothing_after grid_line entry_line row_line station_line number observation end word digits positive natural between count unsigned negative signed values from_five in_order refused_with refused_at first first_from or_next bad_scans bad_scan rising bad_buddies bad_guess bad_station bad_wind is_no_wind is_missing analysis_text first_two grid_lines keyed cells integer decimal spelled analysis stored tab after_within scan start rows_judged all_judged each each_from beside_others heard says is_odd after_buddies B L sums_at corrected smoothed pattern_sum pattern_row inner up_to guess field_of R E before_scans first_that_fits out_of_service serves off_grid near_axis tested after_test difference value_at place sum_at cell corners rounded total share gift weight_at blows weight divisor correction backed_by
example_text = under_both Answered (refl, refl, refl) (refl, refl, refl)

-- ---- So with smoothing a point without support may change: with one mast in the corner, whose radius reaches no other point, the middle does

pub smoothing_may_move_an_unsupported_point : ((at_end lone).support 1 1 ≡ 0) × (guess lone 1 1 ≡ pos 640) × ((at_end lone).field 1 1 ≡ pos 636)
unfolding after_within scan start rows_judged all_judged each each_from beside_others heard says is_odd after_buddies B L sums_at corrected smoothed pattern_sum pattern_row inner up_to guess field_of tab R E before_scans first_that_fits is_missing out_of_service serves off_grid near_axis tested after_test difference value_at place sum_at cell corners rounded total share gift weight_at blows weight divisor correction backed_by
smoothing_may_move_an_unsupported_point = (refl, refl, refl)
