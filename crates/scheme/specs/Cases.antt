-- A line for each refusal of each call with its place, each verdict, each kind of reading, and the edges of age, service, radius, size and line: what the
-- theorems leave open is fixed here, by computation.
use Rattle.std.specs.Prelude.{ℕ, ◌+◌, ◌≡◌, Bool, true, false, length, ℤ, pos, negsuc}
use mathlib.Core.List.{List, [], ◌∷◌, ◌++◌}
use Rattle.lists.specs.Tab.{tab}
use Rattle.lists.specs.First.{first}
use Rattle.scheme.specs.declared.Reading.TheVariants.{Backed, FirstGuess, OffGrid, Refused}
use Rattle.scheme.specs.Units.{missing_mark, Field, field_of, Wind, no_wind, Station, no_end, Columns, most_beyond, round_mode, wind_mode, equation_rule, listing_rule, no_buddies, Request, Call, asking}
use Rattle.scheme.specs.Refusals.{Refusal, accepted, refused, as_one, Span, Window, window_at, Screen, bad_columns, analysis_refusal, window_refusal, screen_refusal}
use Rattle.scheme.specs.Verdicts.{before_scans}
use Rattle.scheme.specs.Difference.{difference, after_test}
use Rattle.scheme.specs.Weight.{weight_at}
use Rattle.scheme.specs.Smoothing.{smoothed}
use Rattle.scheme.specs.Scan.{Analysis, analysis}
use Rattle.scheme.specs.Reach.{on_span}
use Rattle.scheme.specs.Readings.{double, positive_zero, reading, numbers_of, summary}
use Rattle.scheme.specs.Text.{request_lines, in_form, answer_text}
use Rattle.scheme.specs.Text.Pieces.{ascii}
use Rattle.scheme.specs.Calls.{columns_of}
use Rattle.scheme.specs.Promises.{four_columns}
use Rattle.scheme.specs.Most.{most_field, most_difference, most_weights, most_pulls, most_reach}

abbrev pub mast : (x y value : ℤ) (observed from until : ℕ) → Station
mast x y value observed from until = record { x = x; y = y; value = value; observed = observed; from = from; until = until; wind = no_wind }

-- a mast with a wind
abbrev pub blowing : (u v : ℤ) → Station
blowing u v = record { x = pos 0; y = pos 0; value = pos 0; observed = 1000; from = 0; until = no_end; wind = record { u = u; v = v } }

abbrev pub good : Station
good = mast (pos 0) (pos 0) (pos 0) 1000 0 no_end

abbrev pub two : Station → Columns
two s = columns_of (good ∷ s ∷ [])

abbrev pub level : List ℤ
level = pos 0 ∷ pos 0 ∷ pos 0 ∷ pos 0 ∷ []

abbrev pub at64 : List ℤ
at64 = pos 64 ∷ pos 64 ∷ []

abbrev pub at0 : List ℤ
at0 = pos 0 ∷ pos 0 ∷ []

-- of that shape and first guess, with these stations, and with this plan
abbrev pub shaped_so : (nx ny : ℕ) → List ℤ → Call
shaped_so nx ny z = asking nx ny z (two good) 2 at64 at0 false round_mode equation_rule no_buddies 1000 60

abbrev pub stationed_in : (mode : ℕ) → Columns → Call
stationed_in mode c = asking 2 2 level c 2 at64 at0 false mode equation_rule no_buddies 1000 60

abbrev pub stationed : Columns → Call
stationed = stationed_in round_mode

abbrev pub ruled_by : (rule : ℕ) → Columns → (radius : List ℤ) → Call
ruled_by rule c radius = asking 2 2 level c 2 radius at0 false round_mode rule no_buddies 1000 60

abbrev pub planned : ℕ → (radius limit : List ℤ) → Call
planned scans radius limit = asking 2 2 level (two good) scans radius limit false round_mode equation_rule no_buddies 1000 60

-- with that buddy check, in a plan of those radii on that first guess
abbrev pub checked : (on : Bool) (radius limit : ℤ) (radii : List ℤ) → List ℤ → Call
checked on radius limit radii z = asking 2 2 z (two good) 2 radii at0 false round_mode equation_rule (record { on = on; radius = radius; limit = limit }) 1000 60

abbrev pub checked_by : (on : Bool) (radius limit : ℤ) → Call
checked_by on radius limit = checked on radius limit at64 level

-- the whole window
abbrev pub all : Window
all = window_at 0 1 0 1

-- a screen of that window twice, and one of none
abbrev pub all_twice : Screen
all_twice = four_columns (0 ∷ 0 ∷ []) (1 ∷ 1 ∷ []) (0 ∷ 0 ∷ []) (1 ∷ 1 ∷ [])

abbrev pub no_windows : Screen
no_windows = four_columns [] [] [] []

-- a screen of so many points, the first of all
abbrev pub points : ℕ → Screen
points n = four_columns (tab n (λ k. 0)) (tab n (λ k. 0)) (tab n (λ k. 0)) (tab n (λ k. 0))

-- each call refuses it so, with results of the right length
abbrev pub EachRefuses : Call → Refusal → Type 0
EachRefuses c r = (analysis_refusal c 4 4 2 ≡ r) × (window_refusal c all 4 4 ≡ r) × (screen_refusal c all_twice 8 8 ≡ r) × (screen_refusal c no_windows 0 0 ≡ r)

-- a screen of right shape else
abbrev pub Screened : Screen → (grid support : ℕ) → Refusal → Type 0
Screened s grid support r = screen_refusal (shaped_so 2 2 level) s grid support ≡ r

pub record Refusals : Type 0 where
  pub not_refused : EachRefuses (shaped_so 2 2 level) accepted
  pub as_one : as_one (refused 7 4095) ≡ 462847
  -- 1: the edges of 2..64, and the length of the first guess
  pub one_column : EachRefuses (shaped_so 1 4 level) (refused 1 0)
  pub one_row : EachRefuses (shaped_so 4 1 level) (refused 1 0)
  pub many_columns : EachRefuses (shaped_so 65 2 level) (refused 1 0)
  pub many_rows : EachRefuses (shaped_so 2 65 level) (refused 1 0)
  pub long_guess : EachRefuses (shaped_so 2 2 (pos 0 ∷ level)) (refused 1 0)
  -- 2: the ends of a window
  pub left_past_right : window_refusal (shaped_so 2 2 level) (window_at 1 0 0 1) 4 4 ≡ refused 2 0
  pub top_past_bottom : window_refusal (shaped_so 2 2 level) (window_at 0 1 1 0) 4 4 ≡ refused 2 0
  pub past_the_right : window_refusal (shaped_so 2 2 level) (window_at 0 2 0 1) 6 6 ≡ refused 2 0
  pub past_the_bottom : window_refusal (shaped_so 2 2 level) (window_at 0 1 0 2) 6 6 ≡ refused 2 0
  pub last_point : window_refusal (shaped_so 2 2 level) (window_at 1 1 1 1) 1 1 ≡ accepted
  -- 2 of a screen: unequal or over sixteen first, with place 16; then the first bad window
  pub short_right : Screened (four_columns (0 ∷ 0 ∷ []) (1 ∷ []) (0 ∷ 0 ∷ []) (1 ∷ 1 ∷ [])) 8 8 (refused 2 16)
  pub short_top : Screened (four_columns (0 ∷ 0 ∷ []) (1 ∷ 1 ∷ []) (0 ∷ []) (1 ∷ 1 ∷ [])) 8 8 (refused 2 16)
  pub long_bottom : Screened (four_columns (0 ∷ 0 ∷ []) (1 ∷ 1 ∷ []) (0 ∷ 0 ∷ []) (1 ∷ 1 ∷ 1 ∷ [])) 8 8 (refused 2 16)
  pub seventeen_windows : Screened (points 17) 17 17 (refused 2 16)
  pub sixteen_windows : Screened (points 16) 16 16 accepted
  pub unequal_before_bad : Screened (four_columns (2 ∷ []) (2 ∷ []) (0 ∷ []) []) 1 1 (refused 2 16)
  pub bad_window_by_index : Screened (four_columns (0 ∷ 0 ∷ 1 ∷ []) (1 ∷ 0 ∷ 0 ∷ []) (0 ∷ 0 ∷ 0 ∷ []) (1 ∷ 0 ∷ 1 ∷ [])) 8 8 (refused 2 2)
  pub first_of_two_windows : Screened (four_columns (0 ∷ 0 ∷ 1 ∷ []) (1 ∷ 2 ∷ 0 ∷ []) (0 ∷ 0 ∷ 0 ∷ []) (1 ∷ 0 ∷ 1 ∷ [])) 8 8 (refused 2 1)
  pub bad_window_before_lengths : Screened (four_columns (0 ∷ []) (0 ∷ []) (0 ∷ []) (2 ∷ [])) 0 0 (refused 2 0)
  -- 3 of a screen: all windows together
  pub together : Screened (four_columns (0 ∷ 0 ∷ []) (1 ∷ 0 ∷ []) (0 ∷ 0 ∷ []) (1 ∷ 1 ∷ [])) 6 6 accepted
  pub last_window_alone : Screened (four_columns (0 ∷ 0 ∷ []) (1 ∷ 0 ∷ []) (0 ∷ 0 ∷ []) (1 ∷ 1 ∷ [])) 2 2 (refused 3 0)
  pub long_screen_support : Screened (four_columns (0 ∷ 0 ∷ []) (1 ∷ 0 ∷ []) (0 ∷ 0 ∷ []) (1 ∷ 1 ∷ [])) 6 7 (refused 3 0)
  pub no_windows_no_points : Screened no_windows 0 1 (refused 3 0)
  -- 3: the results' lengths, before 4
  pub short_grid : analysis_refusal (shaped_so 2 2 level) 3 4 2 ≡ refused 3 0
  pub short_support : analysis_refusal (shaped_so 2 2 level) 4 3 2 ≡ refused 3 0
  pub short_verdicts : analysis_refusal (shaped_so 2 2 level) 4 4 1 ≡ refused 3 0
  pub short_tile : window_refusal (shaped_so 2 2 level) (window_at 0 0 0 1) 1 2 ≡ refused 3 0
  pub short_tile_support : window_refusal (shaped_so 2 2 level) (window_at 0 0 0 1) 2 1 ≡ refused 3 0
  -- 4: unequal columns, and more than 512
  pub unequal : EachRefuses (stationed (record { x = at0; y = at0; value = at0; observed = 0 ∷ 0 ∷ []; from = 0 ∷ 0 ∷ []; until = 1 ∷ []; wind_u = at0; wind_v = at0 })) (refused 4 0)
  pub short_winds : EachRefuses (stationed (record { x = at0; y = at0; value = at0; observed = 0 ∷ 0 ∷ []; from = 0 ∷ 0 ∷ []; until = 1 ∷ 1 ∷ []; wind_u = []; wind_v = at0 })) (refused 4 0)
  pub long_winds : EachRefuses (stationed (record { x = at0; y = at0; value = at0; observed = 0 ∷ 0 ∷ []; from = 0 ∷ 0 ∷ []; until = 1 ∷ 1 ∷ []; wind_u = at0; wind_v = pos 0 ∷ at0 })) (refused 4 0)
  pub many : (ss : List Station) → length ss ≡ 513 → bad_columns (columns_of ss) ≡ true
  pub most : (ss : List Station) → length ss ≡ 512 → bad_columns (columns_of ss) ≡ false
  -- 5: the count, and the columns of the plan
  pub no_scans : EachRefuses (planned 0 [] []) (refused 5 0)
  pub seven_scans : EachRefuses (planned 7 (tab 7 (λ m. pos 64)) (tab 7 (λ m. pos 0))) (refused 5 0)
  pub six_scans : EachRefuses (planned 6 (tab 6 (λ m. pos 64)) (tab 6 (λ m. pos 0))) accepted
  pub short_radii : EachRefuses (planned 3 at64 (pos 0 ∷ at0)) (refused 5 0)
  pub short_limits : EachRefuses (planned 3 (pos 64 ∷ at64) at0) (refused 5 0)
  -- and another mode, before 6 and 8
  pub third_mode : EachRefuses (stationed_in 2 (two good)) (refused 5 0)
  pub mode_before_radius : EachRefuses (asking 2 2 level (two good) 2 at0 at0 false 2 equation_rule no_buddies 1000 60) (refused 5 0)
  pub mode_before_wind : EachRefuses (stationed_in 2 (two (blowing (pos 101) (pos 0)))) (refused 5 0)
  pub columns_before_mode : EachRefuses (stationed_in 2 (record { x = at0; y = at0; value = at0; observed = 0 ∷ 0 ∷ []; from = 0 ∷ 0 ∷ []; until = 1 ∷ 1 ∷ []; wind_u = []; wind_v = [] })) (refused 4 0)
  -- and after it another rule
  pub second_rule : EachRefuses (ruled_by 2 (two good) at64) accepted
  pub rule_0 : EachRefuses (ruled_by 0 (two good) at64) (refused 5 0)
  pub third_rule : EachRefuses (ruled_by 3 (two good) at64) (refused 5 0)
  pub rule_before_radius : EachRefuses (ruled_by 3 (two good) at0) (refused 5 0)
  pub columns_before_rule : EachRefuses (ruled_by 3 (record { x = at0; y = at0; value = at0; observed = 0 ∷ 0 ∷ []; from = 0 ∷ 0 ∷ []; until = 1 ∷ 1 ∷ []; wind_u = []; wind_v = [] }) at64) (refused 4 0)
  -- 6: R and E, at their scan
  pub no_radius : EachRefuses (planned 2 (pos 64 ∷ pos 0 ∷ []) at0) (refused 6 1)
  pub wide_radius : EachRefuses (planned 2 (pos 1025 ∷ pos 64 ∷ []) at0) (refused 6 0)
  pub widest_radius : EachRefuses (planned 2 (pos 1024 ∷ pos 1 ∷ []) at0) accepted
  pub first_of_two_scans : EachRefuses (planned 2 (pos 0 ∷ pos 0 ∷ []) at0) (refused 6 0)
  pub rises : EachRefuses (planned 2 (pos 64 ∷ pos 65 ∷ []) at0) (refused 6 1)
  pub negative_limit : EachRefuses (planned 2 at64 (pos 0 ∷ negsuc 0 ∷ [])) (refused 6 1)
  pub large_limit : EachRefuses (planned 2 at64 (pos 2000001 ∷ pos 0 ∷ [])) (refused 6 0)
  pub largest_limit : EachRefuses (planned 2 at64 (pos 2000000 ∷ pos 0 ∷ [])) accepted
  -- and after the scans B and L, with place 6; off, neither is read
  pub no_B : EachRefuses (checked_by true (pos 0) (pos 0)) (refused 6 6)
  pub least_B : EachRefuses (checked_by true (pos 1) (pos 0)) accepted
  pub most_B : EachRefuses (checked_by true (pos 512) (pos 2000000)) accepted
  pub past_B : EachRefuses (checked_by true (pos 513) (pos 0)) (refused 6 6)
  pub negative_L : EachRefuses (checked_by true (pos 1) (negsuc 0)) (refused 6 6)
  pub past_L : EachRefuses (checked_by true (pos 1) (pos 2000001)) (refused 6 6)
  pub off_unread : EachRefuses (checked_by false (negsuc 0) (pos 2000001)) accepted
  pub scan_before_check : EachRefuses (checked true (pos 0) (pos 0) (pos 64 ∷ pos 65 ∷ []) level) (refused 6 1)
  pub check_before_guess : EachRefuses (checked true (pos 0) (pos 0) at64 (missing_mark ∷ pos 0 ∷ pos 0 ∷ pos 0 ∷ [])) (refused 6 6)
  -- 7: the first guess, at its point
  pub high_guess : EachRefuses (shaped_so 2 2 (pos 0 ∷ pos 0 ∷ pos 1000001 ∷ pos 0 ∷ [])) (refused 7 2)
  pub low_guess : EachRefuses (shaped_so 2 2 (pos 0 ∷ pos 0 ∷ pos 0 ∷ negsuc 1000000 ∷ [])) (refused 7 3)
  pub edge_guess : EachRefuses (shaped_so 2 2 (pos 1000000 ∷ negsuc 999999 ∷ pos 0 ∷ pos 0 ∷ [])) accepted
  pub first_of_two_guesses : EachRefuses (shaped_so 2 2 (pos 0 ∷ pos 1000001 ∷ pos 1000001 ∷ pos 0 ∷ [])) (refused 7 1)
  pub missing_guess : EachRefuses (shaped_so 2 2 (missing_mark ∷ pos 0 ∷ pos 0 ∷ pos 0 ∷ [])) (refused 7 0)
  -- 8: a station, at its row
  pub high_value : EachRefuses (stationed (two (mast (pos 0) (pos 0) (pos 1000001) 0 0 1))) (refused 8 1)
  pub missing_value : EachRefuses (stationed (two (mast (pos 0) (pos 0) missing_mark 0 0 1))) accepted
  pub next_to_the_mark : EachRefuses (stationed (two (mast (pos 0) (pos 0) (negsuc 2147483646) 0 0 1))) (refused 8 1)
  pub far_x : EachRefuses (stationed (two (mast (negsuc 1000000) (pos 0) (pos 0) 0 0 1))) (refused 8 1)
  pub far_y : EachRefuses (stationed (two (mast (pos 0) (pos 1000001) (pos 0) 0 0 1))) (refused 8 1)
  pub edge_place : EachRefuses (stationed (two (mast (negsuc 999999) (pos 1000000) (pos 0) 0 0 1))) accepted
  pub no_service : EachRefuses (stationed (two (mast (pos 0) (pos 0) (pos 0) 0 no_end no_end))) (refused 8 1)
  pub first_of_two_rows : EachRefuses (stationed (columns_of (mast (pos 0) (pos 0) (pos 0) 0 1 1 ∷ mast (pos 0) (pos 0) (pos 0) 0 1 1 ∷ []))) (refused 8 0)
  -- its wind, in both modes
  pub u_past_100 : EachRefuses (stationed (two (blowing (pos 101) (pos 0)))) (refused 8 1)
  pub v_past_100 : EachRefuses (stationed_in wind_mode (two (blowing (pos 0) (negsuc 100)))) (refused 8 1)
  pub u_missing : EachRefuses (stationed_in wind_mode (two (blowing missing_mark (pos 0)))) (refused 8 1)
  pub v_missing : EachRefuses (stationed (two (blowing (pos 0) missing_mark))) (refused 8 1)
  pub both_missing : EachRefuses (stationed_in wind_mode (two good)) accepted
  pub strongest_wind : EachRefuses (stationed_in wind_mode (two (blowing (negsuc 99) (pos 100)))) accepted

abbrev pub verdict : Station → ℕ
verdict s = before_scans most_beyond 2 2 1000 60 s

-- a good reading of another minute, of a mast with another service, and at another place
abbrev pub observed_at : ℕ → Station
observed_at minute = mast (pos 0) (pos 0) (pos 0) minute 0 no_end

abbrev pub serving : (observed from until : ℕ) → Station
serving observed from until = mast (pos 0) (pos 0) (pos 0) observed from until

abbrev pub standing : (x y : ℤ) → Station
standing x y = mast x y (pos 0) 1000 0 no_end

pub record Verdicts : Type 0 where
  pub fine : verdict good ≡ 0
  pub missing : verdict (mast (pos 65) (pos 0) missing_mark 0 1 2) ≡ 1
  pub a_proper_value : verdict (mast (pos 0) (pos 0) (pos 32767) 1000 0 no_end) ≡ 0
  -- 2: from ≤ observed < until and from ≤ T < until
  pub read_before_service : verdict (serving 989 990 no_end) ≡ 2
  pub read_when_put_up : verdict (serving 990 990 no_end) ≡ 0
  pub taken_down_by_T : verdict (serving 990 0 1000) ≡ 2
  pub taken_down_after_T : verdict (serving 990 0 1001) ≡ 0
  pub put_up_after_T : before_scans most_beyond 2 2 989 60 (serving 990 990 no_end) ≡ 2
  pub read_when_taken_down : before_scans most_beyond 2 2 990 60 (serving 1000 0 1000) ≡ 2
  pub no_end : before_scans most_beyond 2 2 4294967295 60 (serving 4294967295 0 no_end) ≡ 0
  pub two_before_three : verdict (serving 1001 0 1001) ≡ 2
  -- 3 and 4
  pub read_at_T : verdict (observed_at 1000) ≡ 0
  pub read_after_T : verdict (observed_at 1001) ≡ 3
  pub of_the_greatest_age : verdict (observed_at 940) ≡ 0
  pub too_old : verdict (observed_at 939) ≡ 4
  pub any_age : before_scans most_beyond 2 2 4294967295 4294967295 (observed_at 0) ≡ 0
  -- 5: a post is off the grid by at most 256 units on each axis
  pub far_corner : verdict (standing (pos 64) (pos 64)) ≡ 0
  pub posts_at_corners : (verdict (standing (pos 320) (pos 320)) ≡ 0) × (verdict (standing (negsuc 255) (negsuc 255)) ≡ 0)
  pub past_columns : verdict (standing (pos 321) (pos 0)) ≡ 5
  pub past_rows : verdict (standing (pos 0) (pos 321)) ≡ 5
  pub before_columns : verdict (standing (negsuc 256) (pos 320)) ≡ 5
  pub before_rows : verdict (standing (pos 0) (negsuc 256)) ≡ 5
  -- 11 to 16: the E test of each scan, and a verdict that stays
  pub rejected_in_the_first : after_test 1 0 (pos 1) 0 ≡ 11
  pub rejected_in_the_last : after_test 6 0 (negsuc 0) 0 ≡ 16
  pub at_no_limit : after_test 1 0 (pos 0) 0 ≡ 0
  pub rejected_before : after_test 2 200 (pos 0) 11 ≡ 11

-- 64 units in its second point, and a support byte there and in the first
abbrev pub ramp : List ℤ
ramp = pos 0 ∷ pos 4096 ∷ pos 0 ∷ negsuc 63 ∷ []

abbrev pub upper : List ℕ
upper = 1 ∷ 32 ∷ 0 ∷ 0 ∷ []

pub record Readings : Type 0 where
  -- on the upper edge the lower corners have no share, and are asked for nothing
  pub backed : reading 2 2 ramp upper (pos 32) (pos 0) ≡ Backed (double (pos 8388608) 262144)
  pub first_guess : reading 2 2 ramp upper (pos 32) (pos 1) ≡ FirstGuess (double (pos 8255488) 262144)
  pub far_corner : reading 2 2 ramp upper (pos 64) (pos 64) ≡ FirstGuess (double (negsuc 262143) 262144)
  pub off-grid : reading 2 2 ramp upper (pos 65) (pos 0) ≡ OffGrid
  pub before_grid : reading 2 2 ramp upper (pos 0) (negsuc 0) ≡ OffGrid
  pub refused : reading 2 2 ramp (1 ∷ []) (pos 0) (pos 0) ≡ Refused
  pub refused_shape : reading 4 1 ramp upper (pos 0) (pos 0) ≡ Refused
  -- the kinds, and their doubles
  pub kind_of_off_grid : numbers_of OffGrid ≡ (0, positive_zero)
  pub kind_of_first_guess : numbers_of (FirstGuess (double (pos 1) 64)) ≡ (1, double (pos 1) 64)
  pub kind_of_backed : numbers_of (Backed (double (pos 1) 64)) ≡ (2, double (pos 1) 64)
  pub kind_of_refused : numbers_of Refused ≡ (3, positive_zero)
  -- lowest, highest and span; refused, three zeros
  pub summarised : summary 2 2 ramp
      ≡ record { refusal = 0; place = 0; units = record { lowest = double (negsuc 63) 64; highest = double (pos 4096) 64; span = double (pos 4160) 64 } }
  pub summary_refused : summary 4 1 ramp ≡ record { refusal = 1; place = 0; units = record { lowest = positive_zero; highest = positive_zero; span = positive_zero } }

-- a request on a grid of two by two, up to its plan, from it to the stations, and the stations
abbrev pub opening : List ℕ
opening = ascii "grid=2,2\ntime=1000\n"

abbrev pub guessed : List ℕ
guessed = ascii "row=0,0\nrow=0,0\n"

abbrev pub stationless : List ℕ
stationless = opening ++ ascii "smooth=0\nscans=1\nscan=1,0\n" ++ guessed ++ ascii "stations=0\n"

-- one mast, and those bytes where the line of the rule stands
abbrev pub lone_text : List ℕ → List ℕ
lone_text rule =
    opening ++ ascii "smooth=0\n" ++ rule ++ ascii "scans=1\nscan=73,64\nrow=640,640\nrow=640,640\nstations=1\nst=20,0,704,1000,0,open\n"

-- three masts near the first point, the last of them warm, and those bytes where the line of the check stands
abbrev pub courtyard_text : List ℕ → List ℕ
courtyard_text check =
    opening ++ ascii "smooth=0\nscans=1\nscan=40,64\n" ++ check ++ ascii "row=640,640\nrow=640,640\nstations=3\nst=0,0,640,1000,0,open\nst=10,0,640,1000,0,open\nst=0,10,680,1000,0,open\n"

pub record Texts : Type 0 where
  -- 10: one byte more than 65,536, and no fewer
  pub longest : (text : List ℕ) → length text ≡ 65536 → answer_text text ≡ in_form (request_lines (1, text))
  pub too_long : (text : List ℕ) → length text ≡ 65537 → answer_text text ≡ ascii "refusal=10\nplace=0\n"
  -- 9: the first line not in form, counted from 1: absent, unended, surplus, of another form
  pub empty : answer_text [] ≡ ascii "refusal=9\nplace=1\n"
  pub absent : answer_text (ascii "grid=2,2\n") ≡ ascii "refusal=9\nplace=2\n"
  pub unended : answer_text (ascii "grid=2,2\ntime=1000") ≡ ascii "refusal=9\nplace=2\n"
  pub surplus : answer_text (stationless ++ ascii "\n") ≡ ascii "refusal=9\nplace=9\n"
  pub doubled : answer_text (opening ++ ascii "age=60\nage=60\n") ≡ ascii "refusal=9\nplace=4\n"
  pub no_age : answer_text (opening ++ ascii "smooth=2\n") ≡ ascii "refusal=9\nplace=3\n"
  pub narrow : answer_text (ascii "grid=1,2\n") ≡ ascii "refusal=9\nplace=1\n"
  pub wide : answer_text (ascii "grid=2,65\n") ≡ ascii "refusal=9\nplace=1\n"
  pub no_scans : answer_text (opening ++ ascii "smooth=0\nscans=0\n") ≡ ascii "refusal=9\nplace=4\n"
  pub seven_scans : answer_text (opening ++ ascii "smooth=0\nscans=7\n") ≡ ascii "refusal=9\nplace=4\n"
  pub leading_zero : answer_text (ascii "grid=02,2\n") ≡ ascii "refusal=9\nplace=1\n"
  pub past_u32 : answer_text (ascii "grid=2,2\ntime=4294967296\n") ≡ ascii "refusal=9\nplace=2\n"
  pub missing_in_a_row : answer_text (opening ++ ascii "smooth=0\nscans=1\nscan=1,0\nrow=M,0\n") ≡ ascii "refusal=9\nplace=6\n"
  pub many_stations : answer_text (opening ++ ascii "smooth=0\nscans=1\nscan=1,0\n" ++ guessed ++ ascii "stations=513\n") ≡ ascii "refusal=9\nplace=8\n"
  -- and a rule of another number, before `smooth`, twice, or after `scans`
  pub rule_0 : answer_text (opening ++ ascii "smooth=0\nrule=0\n") ≡ ascii "refusal=9\nplace=4\n"
  pub third_rule : answer_text (opening ++ ascii "smooth=0\nrule=3\n") ≡ ascii "refusal=9\nplace=4\n"
  pub rule_before_smooth : answer_text (opening ++ ascii "rule=1\nsmooth=0\n") ≡ ascii "refusal=9\nplace=3\n"
  pub rule_twice : answer_text (opening ++ ascii "smooth=0\nrule=1\nrule=1\n") ≡ ascii "refusal=9\nplace=5\n"
  pub rule_after_scans : answer_text (opening ++ ascii "smooth=0\nscans=1\nrule=1\n") ≡ ascii "refusal=9\nplace=5\n"
  -- and a buddy check before the scans, among them, twice, after a row, of one number, or of one that is no i32
  pub buddy_before_scans : answer_text (opening ++ ascii "smooth=0\nbuddy=1,0\n") ≡ ascii "refusal=9\nplace=4\n"
  pub buddy_among_scans : answer_text (opening ++ ascii "smooth=0\nscans=2\nscan=1,0\nbuddy=1,0\n") ≡ ascii "refusal=9\nplace=6\n"
  pub buddy_twice : answer_text (opening ++ ascii "smooth=0\nscans=1\nscan=1,0\nbuddy=1,0\nbuddy=1,0\n") ≡ ascii "refusal=9\nplace=7\n"
  pub buddy_after_a_row : answer_text (opening ++ ascii "smooth=0\nscans=1\nscan=1,0\nrow=0,0\nbuddy=1,0\n") ≡ ascii "refusal=9\nplace=7\n"
  pub buddy_of_one : answer_text (opening ++ ascii "smooth=0\nscans=1\nscan=1,0\nbuddy=1\n") ≡ ascii "refusal=9\nplace=6\n"
  pub buddy_past_i32 : answer_text (opening ++ ascii "smooth=0\nscans=1\nscan=1,0\nbuddy=1,2147483648\n") ≡ ascii "refusal=9\nplace=6\n"
  -- 6, 7 and 8, once the whole text is in form
  pub no_radius : answer_text (opening ++ ascii "smooth=0\nscans=1\nscan=0,0\n" ++ guessed ++ ascii "stations=0\n") ≡ ascii "refusal=6\nplace=0\n"
  pub past_B : answer_text (opening ++ ascii "smooth=0\nscans=1\nscan=1,0\nbuddy=513,0\n" ++ guessed ++ ascii "stations=0\n") ≡ ascii "refusal=6\nplace=6\n"
  pub past_L : answer_text (opening ++ ascii "smooth=0\nscans=1\nscan=1,0\nbuddy=1,2147483647\n" ++ guessed ++ ascii "stations=0\n") ≡ ascii "refusal=6\nplace=6\n"
  pub high_guess : answer_text (opening ++ ascii "smooth=0\nscans=1\nscan=1,0\nrow=0,0\nrow=0,1000001\nstations=0\n") ≡ ascii "refusal=7\nplace=3\n"
  pub no_service : answer_text (opening ++ ascii "smooth=0\nscans=1\nscan=1,0\n" ++ guessed ++ ascii "stations=1\nst=0,0,0,0,1,1\n") ≡ ascii "refusal=8\nplace=0\n"
  -- no stations: the last line is `ver=`
  pub no_stations : answer_text stationless ≡ ascii "refusal=0\nplace=0\nrow=0,0\nrow=0,0\nsup=0,0\nsup=0,0\nver=\n"
  -- left out, the greatest age is 120; `M` and `open`, and the marks as digits
  pub age_left_out : answer_text (opening ++ ascii "smooth=0\nscans=1\nscan=1,0\n" ++ guessed ++ ascii "stations=4\nst=0,0,0,880,0,open\nst=0,0,0,879,0,open\nst=0,0,M,1000,0,4294967295\nst=0,0,-2147483648,1000,0,open\n")
      ≡ ascii "refusal=0\nplace=0\nrow=0,0\nrow=0,0\nsup=1,0\nsup=0,0\nver=0,4,1,1\n"
  -- a mast 20 off the first point, by rule 1, by rule 2, and with the line left out
  pub rule_1 : answer_text (lone_text (ascii "rule=1\n")) ≡ ascii "refusal=0\nplace=0\nrow=704,704\nrow=704,640\nsup=1,1\nsup=1,0\nver=0\n"
  pub rule_2 : answer_text (lone_text (ascii "rule=2\n")) ≡ ascii "refusal=0\nplace=0\nrow=695,670\nrow=645,640\nsup=1,1\nsup=1,0\nver=0\n"
  pub rule_left_out : answer_text (lone_text []) ≡ answer_text (lone_text (ascii "rule=1\n"))
  -- three masts, of which the check sets one aside; and with the line left out
  pub buddies_on : answer_text (courtyard_text (ascii "buddy=30,39\n")) ≡ ascii "refusal=0\nplace=0\nrow=640,640\nrow=640,640\nsup=1,0\nsup=0,0\nver=0,0,21\n"
  pub buddies_off : answer_text (courtyard_text []) ≡ ascii "refusal=0\nplace=0\nrow=653,640\nrow=640,640\nsup=1,0\nsup=0,0\nver=0,0,0\n"

pub record Borders : Type 0 where
  pub border_keeps : (z : Field ℤ) → (smoothed 3 3 z 0 1 ≡ z 0 1) × (smoothed 3 3 z 2 1 ≡ z 2 1) × (smoothed 3 3 z 1 0 ≡ z 1 0) × (smoothed 3 3 z 1 2 ≡ z 1 2)

-- a grid of two by two, level at 640, so many scans of one radius and limit 64, and one mast, at (x, y), that reads 704
abbrev pub asks_of : (scans radius : ℕ) (x y : ℤ) → Request
asks_of scans radius x y =
    asking 2 2 (tab 4 (λ p. pos 640)) (mast x y (pos 704) 1000 0 no_end ∷ []) scans (tab scans (λ m. pos radius)) (tab scans (λ m. pos 64)) false round_mode equation_rule no_buddies 1000 60

abbrev pub from_to : ℕ → ℕ → Span
from_to first last = record { first = first; last = last }

pub record Posts : Type 0 where
  -- its difference is 64 in both scans, though the field has come up to it; and it is 128 off (1, 0), past the radius
  pub west_of_the_grid : analysis (asks_of 2 96 (negsuc 63) (pos 0))
      ≡ record { grid = pos 768 ∷ pos 640 ∷ pos 768 ∷ pos 640 ∷ []; support = 3 ∷ 0 ∷ 3 ∷ 0 ∷ []; verdict = 0 ∷ [] }
  -- on the border it is on the grid: the second scan finds nothing left to correct
  pub on_the_border : analysis (asks_of 2 96 (pos 0) (pos 0))
      ≡ record { grid = pos 704 ∷ pos 704 ∷ pos 704 ∷ pos 704 ∷ []; support = 3 ∷ 3 ∷ 3 ∷ 3 ∷ []; verdict = 0 ∷ [] }
  -- the first guess at the nearest place, interpolated; a field as found on the grid
  pub nearest_place : (z : Field ℤ) → difference 2 2 (field_of (pos 0) 2 ramp) z (standing (pos 32) (pos 320)) ≡ pos 32
  pub field_as_found : (guess : Field ℤ) → difference 2 2 guess (field_of (pos 0) 2 ramp) (standing (pos 32) (pos 64)) ≡ pos 32
  -- a part from the first of three columns to the second keeps what is west of the grid, and nothing past its own edge
  pub kept_at_the_border : (on_span 3 (from_to 0 1) (negsuc 255) ≡ true) × (on_span 3 (from_to 1 2) (pos 384) ≡ true)
  pub kept_on_the_edge : (on_span 3 (from_to 0 1) (pos 64) ≡ true) × (on_span 3 (from_to 1 2) (pos 64) ≡ true)
  pub not_beside_the_edge : (on_span 3 (from_to 0 1) (pos 65) ≡ false) × (on_span 3 (from_to 1 2) (pos 63) ≡ false)
  pub not_past_the_other_border : (on_span 3 (from_to 0 1) (pos 384) ≡ false) × (on_span 3 (from_to 1 2) (negsuc 255) ≡ false)

pub record Rims : Type 0 where
  -- 63 and 9 off (0, 0), so d2 = 4,050 and R² = 4,096: hundredths would give that point no support
  pub weighed_by_ten_thousandths : analysis (asks_of 1 64 (pos 63) (pos 9))
      ≡ record { grid = pos 704 ∷ pos 704 ∷ pos 640 ∷ pos 704 ∷ []; support = 1 ∷ 1 ∷ 0 ∷ 1 ∷ []; verdict = 0 ∷ [] }
  -- 12 and 72 off (0, 0), so d2 = 5,328 and R² = 5,329: inside, and without weight or support all the same
  pub inside_without_weight : analysis (asks_of 1 73 (pos 12) (pos 72))
      ≡ record { grid = pos 640 ∷ pos 640 ∷ pos 704 ∷ pos 704 ∷ []; support = 0 ∷ 0 ∷ 1 ∷ 1 ∷ []; verdict = 0 ∷ [] }

abbrev pub wind : (u v : ℤ) → Wind
wind u v = record { u = u; v = v }

-- a mast of that wind
abbrev pub wind_mast : Wind → (x y value : ℤ) → Station
wind_mast w x y value = record { x = x; y = y; value = value; observed = 1000; from = 0; until = no_end; wind = w }

-- a grid of two by two, level at 640, one scan, limit 64
abbrev pub breezy : (mode radius : ℕ) → List Station → Request
breezy mode radius masts = asking 2 2 (tab 4 (λ p. pos 640)) masts 1 (pos radius ∷ []) (pos 64 ∷ []) false mode equation_rule no_buddies 1000 60

-- two masts, on the first point and on the last, in a wind along the rows
abbrev pub two_masts : List Station
two_masts = wind_mast (wind (pos 10) (pos 0)) (pos 0) (pos 0) (pos 704) ∷ wind_mast (wind (pos 10) (pos 0)) (pos 64) (pos 64) (pos 576) ∷ []

abbrev pub levelled : List ℤ → List ℕ → (verdict : List ℕ) → Analysis
levelled grid support verdict = record { grid = grid; support = support; verdict = verdict }

pub record Streaks : Type 0 where
  -- R = 96, 64 off along the rows: no wind, along, stronger, turned about, askew, across
  pub along_the_rows : (weight_at wind_mode 9216 no_wind (pos 64) (pos 0) ≡ 3846) × (weight_at wind_mode 9216 (wind (pos 10) (pos 0)) (pos 64) (pos 0) ≡ 6363)
      × (weight_at wind_mode 9216 (wind (pos 20) (pos 0)) (pos 64) (pos 0) ≡ 6363) × (weight_at wind_mode 9216 (wind (negsuc 9) (pos 0)) (pos 64) (pos 0) ≡ 6363)
      × (weight_at wind_mode 9216 (wind (pos 10) (pos 10)) (pos 64) (pos 0) ≡ 5428) × (weight_at wind_mode 9216 (wind (pos 0) (pos 10)) (pos 64) (pos 0) ≡ 3846)
  -- calm, at the station itself, at the radius, and in mode 0
  pub round_elsewhere : (weight_at wind_mode 9216 (wind (pos 0) (pos 0)) (pos 64) (pos 0) ≡ 3846) × (weight_at wind_mode 9216 (wind (pos 10) (pos 0)) (pos 0) (pos 0) ≡ 10000)
      × (weight_at wind_mode 9216 (wind (pos 10) (pos 0)) (pos 96) (pos 0) ≡ 0) × (weight_at round_mode 9216 (wind (pos 10) (pos 0)) (pos 64) (pos 0) ≡ 3846)
  -- 10,000(P - Q) past 64 bits, and a fraction that two cuts would make smaller
  pub past_64_bits : (weight_at wind_mode 1048576 (wind (pos 100) (pos 100)) (pos 700) (pos 700) ≡ 3630)
      × (weight_at wind_mode 1048576 (wind (negsuc 99) (pos 100)) (pos 723) (negsuc 723) ≡ 3340) × (weight_at wind_mode 1048576 (wind (pos 100) (pos 99)) (negsuc 1022) (pos 1) ≡ 2022)
  -- each of the other two points hears more of the mast along its row
  pub two-masts : (analysis (breezy round_mode 96 two_masts) ≡ levelled (pos 697 ∷ pos 640 ∷ pos 640 ∷ pos 583 ∷ []) (1 ∷ 1 ∷ 1 ∷ 1 ∷ []) (0 ∷ 0 ∷ []))
      × (analysis (breezy wind_mode 96 two_masts) ≡ levelled (pos 678 ∷ pos 656 ∷ pos 624 ∷ pos 602 ∷ []) (1 ∷ 1 ∷ 1 ∷ 1 ∷ []) (0 ∷ 0 ∷ []))
  -- inside the radius and without weight, as above: along its wind it has some, and supports
  pub rim_along_the_wind : analysis (breezy wind_mode 73 (wind_mast (wind (pos 1) (pos 6)) (pos 12) (pos 72) (pos 704) ∷ []))
      ≡ levelled (pos 704 ∷ pos 640 ∷ pos 704 ∷ pos 704 ∷ []) (1 ∷ 0 ∷ 1 ∷ 1 ∷ []) (0 ∷ [])

-- a grid of two by two, level at 640, one scan, limit 64
abbrev pub ruled : (mode rule radius : ℕ) → List Station → Request
ruled mode rule radius masts = asking 2 2 (tab 4 (λ p. pos 640)) masts 1 (pos radius ∷ []) (pos 64 ∷ []) false mode rule no_buddies 1000 60

-- on the first point, and 20 off it
abbrev pub on_point : Station
on_point = mast (pos 0) (pos 0) (pos 704) 1000 0 no_end

abbrev pub beside : (value : ℤ) → Station
beside value = mast (pos 20) (pos 0) value 1000 0 no_end

-- 12 and 72 off the first point: inside R = 73 there, and without weight
abbrev pub at_the_rim : Station
at_the_rim = mast (pos 12) (pos 72) (pos 704) 1000 0 no_end

pub record LoneStations : Type 0 where
  -- weights 10,000, 3,846, 3,846 and 588 of D = 64, and where it stands all of D under both
  pub by_both_rules : (analysis (ruled round_mode equation_rule 96 (on_point ∷ [])) ≡ levelled (pos 704 ∷ pos 704 ∷ pos 704 ∷ pos 704 ∷ []) (1 ∷ 1 ∷ 1 ∷ 1 ∷ []) (0 ∷ []))
      × (analysis (ruled round_mode listing_rule 96 (on_point ∷ [])) ≡ levelled (pos 704 ∷ pos 665 ∷ pos 665 ∷ pos 644 ∷ []) (1 ∷ 1 ∷ 1 ∷ 1 ∷ []) (0 ∷ []))
  -- the sign of D
  pub below_the_guess : analysis (ruled round_mode listing_rule 73 (beside (pos 576) ∷ [])) ≡ levelled (pos 585 ∷ pos 610 ∷ pos 635 ∷ pos 640 ∷ []) (1 ∷ 1 ∷ 1 ∷ 0 ∷ []) (0 ∷ [])
  -- without weight it is inside: it moves nothing and supports nothing, and beside it no other is a lone one
  pub lone_without_weight : analysis (ruled round_mode listing_rule 73 (at_the_rim ∷ [])) ≡ levelled (pos 640 ∷ pos 640 ∷ pos 699 ∷ pos 660 ∷ []) (0 ∷ 0 ∷ 1 ∷ 1 ∷ []) (0 ∷ [])
  pub beside_one_without_weight : analysis (ruled round_mode listing_rule 73 (at_the_rim ∷ beside (pos 704) ∷ []))
      ≡ levelled (pos 704 ∷ pos 670 ∷ pos 704 ∷ pos 660 ∷ []) (1 ∷ 1 ∷ 1 ∷ 1 ∷ []) (0 ∷ 0 ∷ [])
  -- one that is rejected, or dead, is not inside: the other is a lone one
  pub beside_one_rejected : analysis (ruled round_mode listing_rule 96 (beside (pos 704) ∷ mast (pos 64) (pos 0) (pos 800) 1000 0 no_end ∷ []))
      ≡ levelled (pos 699 ∷ pos 682 ∷ pos 662 ∷ pos 653 ∷ []) (1 ∷ 1 ∷ 1 ∷ 1 ∷ []) (0 ∷ 11 ∷ [])
  pub beside_one_dead : analysis (ruled round_mode listing_rule 96 (beside (pos 704) ∷ mast (pos 64) (pos 0) missing_mark 1000 0 no_end ∷ []))
      ≡ levelled (pos 699 ∷ pos 682 ∷ pos 662 ∷ pos 653 ∷ []) (1 ∷ 1 ∷ 1 ∷ 1 ∷ []) (0 ∷ 1 ∷ [])
  -- along the wind it has weight there, 3,334
  pub along_the_wind : analysis (ruled wind_mode listing_rule 73 (wind_mast (wind (pos 1) (pos 6)) (pos 12) (pos 72) (pos 704) ∷ []))
      ≡ levelled (pos 661 ∷ pos 640 ∷ pos 701 ∷ pos 660 ∷ []) (1 ∷ 0 ∷ 1 ∷ 1 ∷ []) (0 ∷ [])

-- a grid of two by two, level at 640, one scan of radius 96 and limit 64, that B and L
abbrev pub clustered : (rule radius limit : ℕ) → List Station → Request
clustered rule radius limit masts =
    asking 2 2 (tab 4 (λ p. pos 640)) masts 1 (pos 96 ∷ []) (pos 64 ∷ []) false round_mode rule (record { on = true; radius = pos radius; limit = pos limit }) 1000 60

-- a mast there, whose D is so much
abbrev pub odd : (x y : ℤ) (D : ℕ) → Station
odd x y D = mast x y (pos (640 + D)) 1000 0 no_end

-- two that agree, and one whose D is 40 more
abbrev pub three_with : Station → List Station
three_with third = odd (pos 0) (pos 0) 0 ∷ odd (pos 10) (pos 0) 0 ∷ third ∷ []

pub record Numbers : Type 0 where
  pub most-field : most_field ≡ 13000000
  pub most-difference : most_difference ≡ 14000000
  pub most-weights : most_weights ≡ 5120000
  pub most-pulls : most_pulls ≡ 10240000000000
  pub most-reach : most_reach ≡ 150
