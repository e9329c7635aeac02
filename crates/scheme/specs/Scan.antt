-- "One scan", whole, and the run of scans.
use Rattle.std.specs.Prelude.{ℕ, zero, suc, ◌+◌, cond, List, map, ℤ, ◌+ℤ◌}
use Rattle.lists.specs.Sums.{total}
use Rattle.lists.specs.Parted.{each}
use Rattle.scheme.specs.Units.{Station, most_beyond, Field, stored, Plan, R, E, B, L, Request, guess}
use Rattle.scheme.specs.Verdicts.{before_scans}
use Rattle.scheme.specs.Difference.{Row, difference, tested}
use Rattle.scheme.specs.Buddies.{beside_others}
use Rattle.scheme.specs.Correction.{Sums, nothing, plus, share, correction, backed_by}
use Rattle.scheme.specs.Smoothing.{smoothed}

-- what a scan finds, and what it leaves
pub record State : Type 0 where
  pub field : Field ℤ
  pub support : Field ℕ
  pub rows : List Row

-- a row before the first scan, with posts off the grid by at most so much
abbrev pub begins : (beyond nx ny T A : ℕ) → Station → Row
begins beyond nx ny T A s = record { station = s; verdict = before_scans beyond nx ny T A s }

unfoldable pub start : (beyond : ℕ) → Request → State
start beyond q = record { field = guess q; support = λ i j. 0; rows = map (begins beyond q.nx q.ny q.T q.A) q.stations }

-- ---- scan number m + 1, from the state that it finds

-- its differences, from the field as it finds it and the first guess
abbrev pub differences : Request → State → Station → ℤ
differences q found = difference q.nx q.ny (guess q) found.field

-- the rows after its E test, by those differences
abbrev pub all_tested : Plan → (m : ℕ) → (Station → ℤ) → List Row → List Row
all_tested p m D rows = map (tested (m + 1) (E p m) D) rows

-- and after the buddy check: all are judged against the same survivors, at once (document 02, 7)
unfoldable pub all_judged : Plan → (m : ℕ) → (Station → ℤ) → List Row → List Row
all_judged p m D rows = each (beside_others (m + 1) (B p) (L p) D) (all_tested p m D rows)

module _ (q : Request) (m : ℕ) (found : State) where
  -- All stations are judged before any point changes
  unfoldable pub rows_judged : List Row
  rows_judged = all_judged q.plan m (differences q found) found.rows

  unfoldable pub sums_at : Field Sums
  sums_at i j = total nothing plus (share q.plan.mode (R q.plan m) (differences q found) i j) rows_judged

  -- All points change together
  unfoldable pub corrected : Field ℤ
  corrected i j = found.field i j +ℤ correction q.plan.rule (sums_at i j)

  unfoldable pub scan : State
  scan =
      record {
        field = cond q.plan.smooth (smoothed q.nx q.ny corrected) corrected;
        support = λ i j. backed_by m (sums_at i j) (found.support i j);
        rows = rows_judged;
      }

-- ---- the state after the first m scans, and at the end

unfoldable pub after_within : (beyond : ℕ) → Request → ℕ → State
after_within beyond q zero = start beyond q
after_within beyond q (suc m) = scan q m (after_within beyond q m)

-- with posts as far off as they may be (document 02, 1)
abbrev pub after : Request → ℕ → State
after = after_within most_beyond

abbrev pub at_end : Request → State
at_end q = after q q.plan.scans

-- ---- The work gives the analysed grid, the support of each point and a verdict for each station

pub record Analysis : Type 0 where
  pub grid : List ℤ
  pub support : List ℕ
  pub verdict : List ℕ

unfoldable pub analysis : Request → Analysis
analysis q =
    record {
      grid = stored q.nx q.ny (at_end q).field;
      support = stored q.nx q.ny (at_end q).support;
      verdict = map (λ r. r.verdict) (at_end q).rows;
    }
