-- What a station hears, as the code asks for it.
use Rattle.std.specs.Prelude.{ℕ, ◌≤◌, ◌<◌, List, length, get_or, pos}
use Rattle.scheme.specs.Units.{most_buddy_radius}
use Rattle.scheme.specs.Buddies.{Heard}
use Rattle.request.specs.Tables.{station_in}
use Rattle.scan_buddies.specs.declared.Told.{Told}
use Rattle.scan_buddies.specs.declared.Around.{Around}
use Rattle.scan_buddies.specs.Aside.{heard_at, Standing}
use Rattle.scan_buddies.specs.Voices.{told}
use Rattle.scan_buddies.specs.Cells.{cell_at, Survivors, Chains}
use Rattle.scan_buddies.specs.Nine.{voice}

abbrev pub heard_of : Told → Heard
heard_of t = told t.count t.sum

abbrev pub StandingIn : Around → ℕ → Type 0
StandingIn a k = Standing (station_in a.stations.now k) (get_or a.d.now k (pos 0))

abbrev pub SurvivorsIn : Around → List ℕ → Type 0
SurvivorsIn a st = Survivors a.radius a.stations.now a.d.now a.heads.now a.next.now st

-- station k, a survivor, may ask
pub record Asks (a : Around) (k : ℕ) : Type 0 where
  pub inside : k < length a.stations.now
  pub standing : StandingIn a k
  pub radius_most : a.radius ≤ most_buddy_radius
  pub chains : Chains a.radius a.stations.now a.d.now a.heads.now a.next.now

abbrev pub cell_in : Around → List ℕ → ℕ → ℕ
cell_in a st = cell_at a.radius a.stations.now st

abbrev pub voice_in : Around → (k j : ℕ) → Heard
voice_in a k j = voice a.radius a.stations.now a.d.now k j

abbrev pub heard_in : Around → List ℕ → ℕ → Heard
heard_in a st k = heard_at a.radius a.stations.now st a.d.now k
