-- "Verdicts before the first scan".
use Rattle.std.specs.Prelude.{ℕ, suc, ◌+◌, ◌-◌, ◌*◌, Bool, not, cond, ◌&&◌, ◌||◌, List, [], ◌∷◌, leb, ltb, eqb, ℤ, pos, negsuc}
use Rattle.scheme.specs.Units.{Station, is_missing, no_end, step}

-- in service at a minute: from ≤ minute < until (with no end, the upper test holds)
unfoldable pub serves : Station → ℕ → Bool
serves s minute = leb s.from minute && (eqb s.until no_end || ltb minute s.until)

-- 2 out of service, unless from ≤ observed < until and from ≤ T < until
unfoldable pub out_of_service : (T : ℕ) → Station → Bool
out_of_service T s = not (serves s s.observed && serves s T)

-- beyond an axis of n points by at most so many units: -beyond ≤ x ≤ 64(n-1) + beyond
unfoldable pub near_axis : (beyond n : ℕ) → ℤ → Bool
near_axis beyond n (pos x) = leb x (step * (n - 1) + beyond)
near_axis beyond n (negsuc x) = leb (suc x) beyond

abbrev pub near_grid : (beyond nx ny : ℕ) → (x y : ℤ) → Bool
near_grid beyond nx ny x y = near_axis beyond nx x && near_axis beyond ny y

-- on the grid: 0 ≤ x ≤ 64(nx-1) and 0 ≤ y ≤ 64(ny-1). The border is on it
abbrev pub on_grid : (nx ny : ℕ) → (x y : ℤ) → Bool
on_grid = near_grid 0

-- 5 off the grid, by more than so much on either axis (document 02, 1)
unfoldable pub off_grid : (beyond nx ny : ℕ) → Station → Bool
off_grid beyond nx ny s = not (near_grid beyond nx ny s.x s.y)

-- a row that is still accepted
abbrev pub is_accepted : ℕ → Bool
is_accepted verdict = eqb verdict 0

-- The first that fits. A row with none of these starts as accepted
unfoldable pub first_that_fits : List (Bool × ℕ) → ℕ
first_that_fits [] = 0
first_that_fits (f ∷ rest) = cond f.0 f.1 (first_that_fits rest)

-- 1 missing; 2; 3 observed after T; 4 T - observed > A; 5
unfoldable pub before_scans : (beyond nx ny T A : ℕ) → Station → ℕ
before_scans beyond nx ny T A s =
    first_that_fits
    ((is_missing s.value, 1)
    ∷ (out_of_service T s, 2)
    ∷ (ltb T s.observed, 3)
    ∷ (ltb A (T - s.observed), 4)
    ∷ (off_grid beyond nx ny s, 5)
    ∷ [])
