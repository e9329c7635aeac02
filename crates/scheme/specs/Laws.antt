-- What the window theorem asks. A scheme is its pieces, and keeps a few laws, none of which knows of windows or of more than one scan; a run
-- of it on a grid goes from scan to scan by the pieces. Documents 01 and 02 are one scheme (Cressman); a request of document 02 that changes a
-- piece shows its law again, and brings no new theorem.
use Rattle.std.specs.Prelude.{ℕ, ◌≤◌, ◌≡◌, ◌⊎◌, Bool, List, ℤ, nat_abs}
use Rattle.scheme.specs.Units.{Field}
use Rattle.scheme.specs.Axes.{Axis}

pub record Influence (Station Diff : Type 0) : Type 1 where
  pub Sum : Type 0
  pub nil : Sum
  pub plus : Sum → Sum → Sum
  -- a station gives by its offset from the place, along x and y, and only nearer than the range along both
  pub range : ℕ → ℕ
  pub give : ℕ → Station → Diff → ℤ → ℤ → Sum

pub record Scheme : Type 1 where
  pub Station : Type 0
  pub x : Station → ℤ
  pub y : Station → ℤ
  -- a station and its verdict so far
  pub Row : Type 0
  pub station : Row → Station
  pub verdict : Row → ℕ
  -- what stands at a point, a difference, the support of a point
  pub Value : Type 0
  pub Diff : Type 0
  pub Mark : Type 0
  -- does a part of the grid keep the station, and how it counts it
  pub keeps : Axis → Axis → Station → Bool
  pub counted : Axis → Axis → Station → Station
  -- the row before the first scan, on a grid of nx by ny
  pub begins : (nx ny : ℕ) → Station → Row
  -- the difference, from the first guess and the field as the scan finds it
  pub difference : (nx ny : ℕ) → (guess z : Field Value) → Station → Diff
  -- what the others give to a station, and its verdict then, from that before
  pub buddies : Influence Station Diff
  pub judge : ℕ → Diff → buddies.Sum → ℕ → ℕ
  pub judged : ℕ → (Station → Diff) → Row → List Row → Row
  -- what stations give to a point, the value that it makes of the old one, and the support
  pub pull : Influence Station Diff
  pub correct : ℕ → pull.Sum → Value → Value
  pub unmarked : Mark
  pub mark : ℕ → pull.Sum → Mark → Mark
  -- smoothing at an inner point
  pub smooth : Bool
  pub around : Field Value → Field Value

-- nothing adds nothing, nothing is given from beyond the range, and only the offset counts of a position
pub record Ranged (S : Scheme) (I : Influence S.Station S.Diff) : Type 0 where
  pub nil_plus : (t : I.Sum) → I.plus I.nil t ≡ t
  pub far : (m : ℕ) (s : S.Station) (d : S.Diff) (dx dy : ℤ) → (I.range m ≤ nat_abs dx) ⊎ (I.range m ≤ nat_abs dy)
      → I.give m s d dx dy ≡ I.nil
  pub give_counted : (a b : Axis) (m : ℕ) (s : S.Station) (d : S.Diff) (dx dy : ℤ)
      → I.give m (S.counted a b s) d dx dy ≡ I.give m s d dx dy
