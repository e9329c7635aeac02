-- The call that asks a request: its stations in columns. So what is proved of requests is said of calls.
use Rattle.std.specs.Prelude.{ℕ, ◌*◌, ◌≤◌, ◌≡◌, refl, List, [], ◌∷◌, map, length}
use Rattle.std.proofs.Common.{sym, ap, ◌∙◌, arith, eq-eqb}
use Rattle.std.proofs.lemmas.List.{length-map}
use Rattle.lists.specs.Tab.{tab}
use Rattle.scheme.specs.Units.{most_stations, Station, station_at, stations_of, Request, Call, asked}
use Rattle.scheme.specs.Refusals.{in_order, refused_with, from_five, analysis_refusal}
use Rattle.scheme.specs.Accepted.{Shaped, Equal, Sound}
use Rattle.scheme.proofs.Accepted.{shape_good, columns_good, lengths_good, request_good}
use Rattle.scheme.specs.Calls.{Accepts, call_for, columns_of}

-- the rows of a list's columns are the list
pub columns_back : (ss : List Station) → stations_of (columns_of ss) ≡ ss
unfolding stations_of tab station_at
columns_back [] = refl
columns_back (s ∷ ss) = ap (λ (rest : List Station). s ∷ rest) (columns_back ss)

pub asks : (q : Request) → asked (call_for q) ≡ q
asks q = rw (columns_back q.stations)

-- a call of the right shape, with equal columns and results of the right length, is refused as the request that it asks
pub refused_as_asked : (c : Call) (grid support verdict : ℕ) → Shaped c.nx c.ny (length c.first_guess) → Equal c.stations
    → grid ≡ c.nx * c.ny → support ≡ c.nx * c.ny → verdict ≡ length c.stations.x
    → analysis_refusal c grid support verdict ≡ in_order (from_five (asked c))
unfolding analysis_refusal in_order refused_with
refused_as_asked c grid support verdict shape equal g s v =
    rw (shape_good shape, lengths_good (c.nx * c.ny) grid support g s, eq-eqb verdict (length c.stations.x) v, columns_good c.stations equal)

-- the columns of a list are equal
pub equal_columns : (ss : List Station) → length ss ≤ most_stations → Equal (columns_of ss)
equal_columns ss few =
    record {
      y = one (λ s. s.y);
      value = one (λ s. s.value);
      observed = one (λ s. s.observed);
      from = one (λ s. s.from);
      until = one (λ s. s.until);
      wind_u = one (λ s. s.wind.u);
      wind_v = one (λ s. s.wind.v);
      few = omega (arith, length-map ss (λ (s : Station). s.x));
    }
  where
    one : {A : Type 0} (f : Station → A) → length (map f ss) ≡ length (map (λ (s : Station). s.x) ss)
    one f = length-map ss f ∙ sym (length-map ss (λ (s : Station). s.x))

pub sound_accepted : (q : Request) → Sound q → Accepts q
sound_accepted q s =
    refused_as_asked (call_for q) (q.nx * q.ny) (q.nx * q.ny) (length q.stations) s.shape (equal_columns q.stations s.few_stations) refl refl
    (sym (length-map q.stations (λ (t : Station). t.x)))
    ∙ ap (λ (p : Request). in_order (from_five p)) (asks q) ∙ request_good q s
