-- What a call is lent, as the definitions have it.
use Rattle.scheme.specs.Units.{Columns, Plan, Call}
use Rattle.scheme.specs.Refusals.{Screen}
use Rattle.request.specs.declared.Columns.{Columns as LentColumns}
use Rattle.request.specs.declared.Plan.{Plan as LentPlan}
use Rattle.request.specs.declared.Call.{Call as LentCall}
use Rattle.request.specs.declared.Screen.{Screen as LentScreen}
use Rattle.request.specs.Tables.{buddies_of}

abbrev pub columns_of : LentColumns → Columns
columns_of c =
    record {
      x = c.x.now;
      y = c.y.now;
      value = c.value.now;
      observed = c.observed.now;
      from = c.from.now;
      until = c.until.now;
      wind_u = c.wind_u.now;
      wind_v = c.wind_v.now;
    }

abbrev pub plan_of : LentPlan → Plan
plan_of p =
    record { scans = p.scans; radius = p.radius.now; limit = p.limit.now; smooth = p.smooth; mode = p.mode; rule = p.rule; buddies = buddies_of p.buddies }

abbrev pub call_of : LentCall → Call
call_of c =
    record {
      nx = c.nx;
      ny = c.ny;
      first_guess = c.guess.now;
      stations = columns_of c.stations;
      plan = plan_of c.plan;
      T = c.time;
      A = c.age;
    }

abbrev pub screen_of : LentScreen → Screen
screen_of s = record { left = s.left.now; right = s.right.now; top = s.top.now; bottom = s.bottom.now }
