-- The call that asks a request: its stations in columns. So what is proved of requests is said of calls.
use Rattle.std.specs.Prelude.{◌*◌, ◌≡◌, List, map, length}
use Rattle.scheme.specs.Units.{Station, Columns, Request, Call, with_stations}
use Rattle.scheme.specs.Refusals.{accepted, analysis_refusal}

abbrev pub columns_of : List Station → Columns
columns_of ss =
    record {
      x = map (λ s. s.x) ss;
      y = map (λ s. s.y) ss;
      value = map (λ s. s.value) ss;
      observed = map (λ s. s.observed) ss;
      from = map (λ s. s.from) ss;
      until = map (λ s. s.until) ss;
      wind_u = map (λ s. s.wind.u) ss;
      wind_v = map (λ s. s.wind.v) ss;
    }

abbrev pub call_for : Request → Call
call_for q = with_stations q (columns_of q.stations)

-- a request is accepted if the call that asks it is, with results of the right length
abbrev pub Accepts : Request → Type 0
Accepts q = analysis_refusal (call_for q) (q.nx * q.ny) (q.nx * q.ny) (length q.stations) ≡ accepted
