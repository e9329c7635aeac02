-- An answer as one number loses nothing: a place is below 65,536, so that the refusal and its place can be read back from it.
use Rattle.std.specs.Prelude.{ℕ, ◌≤◌, ◌<◌, ◌≡◌, refl, Bool, true, false, List, [], ◌∷◌, length, get_or, pos}
use Rattle.std.proofs.Common.{arith, mul-le-mul}
use Rattle.std.proofs.Math.Arith.{digits_div, digits_mod}
use Rattle.lists.specs.Tab.{length-tab}
use Rattle.lists.specs.First.{first, first_in, Search, all_good, bad-at, search, in_places}
use Rattle.scheme.specs.Units.{most_stations, most_scans, Request, Call, asked}
use Rattle.scheme.specs.Refusals.{Refusal, number_of, in_order, refused_if, refused_with, refused_at, bad_shape, Window, bad_window, most_windows, Screen, window_on, windows_of, bad_screen, bad_columns, bad_scans, bad_buddies, bad_guess, bad_station, from_five, analysis_refusal, window_refusal, screen_refusal}
use Rattle.scheme.specs.Accepted.{Shaped, no_station}
use Rattle.scheme.proofs.Accepted.{shaped, equal, scans_fit, rows_of, equal_screen}
use Rattle.scheme.specs.Places.{Small, Tells}

-- a test with one place, and what follows if it does not refuse
small_with : (number place : ℕ) (bad : Bool) (rest : List Refusal) → place < 65536 → (bad ≡ false → Small (in_order rest))
    → Small (in_order (refused_with number place bad ∷ rest))
unfolding in_order refused_with
small_with number place true rest few h = few
small_with number place false rest few h = h refl

small_if : (number : ℕ) (bad : Bool) (rest : List Refusal) → (bad ≡ false → Small (in_order rest)) → Small (in_order (refused_if number bad ∷ rest))
small_if number bad rest h = small_with number 0 bad rest (omega arith) h

-- a test of n places
small_at : (number n : ℕ) (bad : ℕ → Bool) (rest : List Refusal) → n ≤ 65536 → Small (in_order rest) → Small (in_order (refused_at number (first n bad) ∷ rest))
unfolding in_order refused_at
small_at number n bad rest few h = go (search n bad)
  where
    go : Search n bad → Small (in_order (refused_at number (first n bad) ∷ rest))
    go (all_good e g) = rw e h
    go (bad-at k e f) = rw e (omega (arith, f.inside))

-- a test of each element of a list
small_in : {A : Type 0} (number : ℕ) (bad : A → Bool) (o : A) (l : List A) (rest : List Refusal) → length l ≤ 65536 → Small (in_order rest)
    → Small (in_order (refused_at number (first_in bad l) ∷ rest))
small_in number bad o l rest few h = rw (in_places bad o l) (small_at number (length l) (λ k. bad (get_or l k o)) rest few h)

small_none : Small (in_order [])
unfolding in_order
small_none = omega arith

small_from_five : (q : Request) → Shaped q.nx q.ny (length q.first_guess) → length q.stations ≤ most_stations → Small (in_order (from_five q))
unfolding from_five bad_scans
small_from_five q shape few =
    small_if 5 (bad_scans q.plan) _ (λ five.
    small_at 6 q.plan.scans _ _ (omega (arith, scans_fit q.plan.scans (length q.plan.radius) (length q.plan.limit) q.plan.mode q.plan.rule five))
    (small_with 6 most_scans (bad_buddies q.plan) _ (omega arith) (λ six.
    small_in 7 bad_guess (pos 0) q.first_guess _ (omega (arith, shape.whole, mul-le-mul shape.few_columns shape.few_rows))
    (small_in 8 bad_station no_station q.stations [] (omega arith) small_none))))

small_from_four : (c : Call) → Shaped c.nx c.ny (length c.first_guess) → Small (in_order (refused_if 4 (bad_columns c.stations) ∷ from_five (asked c)))
small_from_four c shape =
    small_if 4 (bad_columns c.stations) _ (λ four. small_from_five (asked c) shape (omega (arith, rows_of c.stations, (equal c.stations four).few)))

told : (r : Refusal) → Small r → Tells r
told r h = (digits_div (number_of r) h, digits_mod (number_of r) h)

analysis_small : (c : Call) (grid support verdict : ℕ) → Small (analysis_refusal c grid support verdict)
unfolding analysis_refusal
analysis_small c grid support verdict =
    small_if 1 (bad_shape c.nx c.ny (length c.first_guess)) _ (λ one. small_if 3 _ _ (λ three. small_from_four c (shaped _ _ _ one)))

window_small : (c : Call) (w : Window) (grid support : ℕ) → Small (window_refusal c w grid support)
unfolding window_refusal
window_small c w grid support =
    small_if 1 (bad_shape c.nx c.ny (length c.first_guess)) _ (λ one. small_if 2 (bad_window c.nx c.ny w) _ (λ two.
    small_if 3 _ _ (λ three. small_from_four c (shaped _ _ _ one))))

screen_small : (c : Call) (s : Screen) (grid support : ℕ) → Small (screen_refusal c s grid support)
unfolding screen_refusal windows_of
screen_small c s grid support =
    small_if 1 (bad_shape c.nx c.ny (length c.first_guess)) _ (λ one. small_with 2 most_windows (bad_screen s) _ (omega arith) (λ two.
    small_in 2 (bad_window c.nx c.ny) (window_on s 0) (windows_of s) _ (omega (arith, length-tab (length s.left) (window_on s), (equal_screen s two).few))
    (small_if 3 _ _ (λ three. small_from_four c (shaped _ _ _ one)))))

pub analysis_tells_refusal_and_place : (c : Call) (grid support verdict : ℕ) → Tells (analysis_refusal c grid support verdict)
analysis_tells_refusal_and_place c grid support verdict = told (analysis_refusal c grid support verdict) (analysis_small c grid support verdict)

pub window_tells_refusal_and_place : (c : Call) (w : Window) (grid support : ℕ) → Tells (window_refusal c w grid support)
window_tells_refusal_and_place c w grid support = told (window_refusal c w grid support) (window_small c w grid support)

pub screen_tells_refusal_and_place : (c : Call) (s : Screen) (grid support : ℕ) → Tells (screen_refusal c s grid support)
screen_tells_refusal_and_place c s grid support = told (screen_refusal c s grid support) (screen_small c s grid support)
