-- What lies at most so far off a window: points in steps, positions and stations in units; and what the grid and the cut have in common there.
use Rattle.std.specs.Prelude.{ℕ, ◌+◌, ◌-◌, ◌*◌, ◌≤◌, ◌<◌, ◌≡◌, ℤ, pos, nat_abs, ◌-ℤ◌}
use native.Mathlib.Omega.{arith}
use Rattle.scheme.specs.Units.{Field, step}
use Rattle.scheme.specs.Value.{place}
use Rattle.scheme.proofs.Cells.{place_on}
use Rattle.scheme.specs.Reach.{widened}
use Rattle.scheme.specs.Axes.{Axis, off, len, gap, On, Beside}
use Rattle.scheme.proofs.Axes.{place_most, place_gap}
use Rattle.scheme.specs.Near.{Inside, Side, Spot}

-- the cut along it has at least two points, and lies on the grid
pub cut_two : (w : Side) → (widened w.wider w.n w.window).first < (widened w.wider w.n w.window).last
unfolding widened
cut_two w = omega (arith, w.two, w.ordered, w.inside, w.some)

pub cut_inside : (w : Side) → (widened w.wider w.n w.window).last < w.n
unfolding widened
cut_inside w = omega (arith, w.two)

abbrev pub cut_along : Side → Axis
cut_along w =
    record { n = w.n; span = widened w.wider w.n w.window; two = cut_two w; inside = cut_inside w }

-- ---- along one axis

-- point i of the cut is at most ρ steps off the window
pub record Point (w : Side) (ρ i : ℕ) : Type 0 where
  pub inside : i < len (cut_along w)
  pub low : w.window.first ≤ i + off (cut_along w) + ρ
  pub high : i + off (cut_along w) ≤ w.window.last + ρ

pub point_more : (w : Side) (ρ σ i : ℕ) → ρ ≤ σ → Point w ρ i → Point w σ i
point_more w ρ σ i h p = record { inside = p.inside; low = low (off (cut_along w)) p.low; high = high (off (cut_along w)) p.high }
  where
    low : (o : ℕ) → w.window.first ≤ i + o + ρ → w.window.first ≤ i + o + σ
    low o q = omega arith

    high : (o : ℕ) → i + o ≤ w.window.last + ρ → i + o ≤ w.window.last + σ
    high o q = omega arith

pub spot_more : (w : Side) (u v x : ℕ) → u ≤ v → Spot w u x → Spot w v x
spot_more w u v x h s = record { low = omega (arith, s.low); high = omega (arith, s.high) }

-- a point of the window, as the cut counts it
pub inside_point : (w : Side) (i : ℕ) → Inside w i → Point w 0 (i - off (cut_along w)) × (i - off (cut_along w) + off (cut_along w) ≡ i)
unfolding widened
inside_point w i h = (
  record {
    inside = omega (arith, h.low, h.high, w.inside);
    low = omega (arith, h.low);
    high = omega (arith, h.low, h.high);
  },
  omega (arith, h.low),
)

-- a corner with a share, of a position at most ρ steps off, is at most ρ steps off
pub beside_point : (w : Side) (ρ x i : ℕ) → Spot w (step * ρ) x → Beside (cut_along w) x i → Point w ρ i
beside_point w ρ x i s b =
    record { inside = b.inside; low = low (off (cut_along w)) s.low b.close; high = high (off (cut_along w)) s.high b.close }
  where
    low : (o : ℕ) → step * w.window.first ≤ x + step * ρ → gap (step * (i + o)) x < step → w.window.first ≤ i + o + ρ
    low o l c = omega arith

    high : (o : ℕ) → x ≤ step * w.window.last + step * ρ → gap (step * (i + o)) x < step → i + o ≤ w.window.last + ρ
    high o h c = omega arith

-- a point at most ρ steps off stands at a position at most ρ steps off
pub point_spot : (w : Side) (ρ i : ℕ) → Point w ρ i → Spot w (step * ρ) (place w.n (pos (step * (i + off (cut_along w)))))
point_spot w ρ i p =
    let a = cut_along w in
    rw (place_on w.n (step * (i + off a)) (below (off a) a.span.last a.two a.inside p.inside)) (go (off a) p.low p.high)
  where
    below : (o l : ℕ) → o < l → l < w.n → i < l - o + 1 → step * (i + o) ≤ step * (w.n - 1)
    below o l t f k = omega arith

    go : (o : ℕ) → w.window.first ≤ i + o + ρ → i + o ≤ w.window.last + ρ → Spot w (step * ρ) (step * (i + o))
    go o l h = record { low = omega arith; high = omega arith }

-- a position nearer than r to one that is at most v off is at most v + r off
pub near_spot : (w : Side) (v r : ℕ) (x c : ℤ) → Spot w v (place w.n c) → nat_abs (x -ℤ c) < r → Spot w (v + r) (place w.n x)
near_spot w v r x c s h = go (place w.n x) (place w.n c) s.low s.high (place_gap w.n x c)
  where
    go : (p q : ℕ) → step * w.window.first ≤ q + v → q ≤ step * w.window.last + v → gap p q ≤ nat_abs (x -ℤ c) → Spot w (v + r) p
    go p q l k g = record { low = omega arith; high = omega arith }

-- what is at most `wider` steps off is on the cut
pub spot_on : (w : Side) (u : ℕ) (x : ℤ) → u ≤ step * w.wider → Spot w u (place w.n x) → On (cut_along w) (place w.n x)
unfolding widened
spot_on w u x h s = go (place w.n x) (place_most w.n x) s.low s.high
  where
    go : (p : ℕ) → p ≤ step * (w.n - 1) → step * w.window.first ≤ p + u → p ≤ step * w.window.last + u → On (cut_along w) p
    go p t l k = unfold widened in record { low = omega arith; high = omega arith }

-- ---- along both

-- f of the grid and g of the cut are the same at the points at most ρ steps off the window
unfoldable pub Agree : {A : Type 0} → (across down : Side) → ℕ → Field A → Field A → Type 0
Agree across down ρ f g =
    (i j : ℕ) → Point across ρ i → Point down ρ j → f (i + off (cut_along across)) (j + off (cut_along down)) ≡ g i j

pub agree_less : {A : Type 0} (across down : Side) (ρ σ : ℕ) (f g : Field A) → ρ ≤ σ → Agree across down σ f g → Agree across down ρ f g
unfolding Agree
agree_less across down ρ σ f g h ag i j p r = ag i j (point_more across ρ σ i h p) (point_more down ρ σ j h r)
