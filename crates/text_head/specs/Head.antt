-- What reading the lines before the scans answers, and the line of the buddy check, as the definitions of the text say it.
use Rattle.std.specs.Prelude.{ℕ, ◌≤◌, ◌≡◌, Bool, List, eqb, Ok, Err}
use Rattle.std.specs.Prelude.{Result as Outcome}
use Rattle.scheme.specs.Units.{least_side, most_side, most_scans, round_mode, Request}
use Rattle.scheme.specs.Text.{default_age, default_rule}
use Rattle.scheme.specs.Text.Reader.{fails, ◌>>=◌, gives, ◌or◌}
use Rattle.scheme.specs.Text.Pieces.{Piece}
use Rattle.scheme.specs.Text.Lines.{grid_line}
use Rattle.scheme.specs.Text.Order.{Text, line}
use Rattle.scheme.specs.RoundTrip.{time_line, age_line, smooth_line, rule_line, scans_line}
use Rattle.scheme.specs.Accepted.{Ruled}
use Rattle.request.specs.declared.Entry.{Entry}
use Rattle.request.specs.declared.Buddies.{Buddies}
use Rattle.request.specs.declared.Terms.{Terms}
use Rattle.text_head.specs.declared.Head.{Head}
use Rattle.text_head.specs.declared.Left.{Left}
use Rattle.text_head.specs.declared.NotInForm.{NotInForm}
use Rattle.text_head.specs.Left.{left_of}

-- a line that may be left out, and what it then means
abbrev pub line_or : {A : Type 0} → Piece A → A → Text A
line_or p other = line p or gives other

-- the lines before the scans, and then what they call for
abbrev pub head_then : ((nx ny time age : ℕ) → Bool → (rule scans : ℕ) → Text Request) → Text Request
head_then next = do
  size ← line grid_line
  time ← line time_line
  age ← line_or age_line default_age
  smooth ← line smooth_line
  rule ← line_or rule_line default_rule
  scans ← line scans_line
  next size.nx size.ny time age (eqb smooth 1) rule scans

pub record Limits (h : Head) : Type 0 where
  pub two_columns : least_side ≤ h.nx
  pub few_columns : h.nx ≤ most_side
  pub two_rows : least_side ≤ h.ny
  pub few_rows : h.ny ≤ most_side
  pub scans_some : 1 ≤ h.scans
  pub scans_few : h.scans ≤ most_scans
  pub ruled : Ruled h.rule

pub record HeadIs (text : List ℕ) (h : Head) (left : Left) : Type 0 where
  pub said : (next : (nx ny time age : ℕ) → Bool → (rule scans : ℕ) → Text Request)
      → head_then next (1, text) ≡ next h.nx h.ny h.time h.age h.smooth h.rule h.scans (left_of left)
  pub limits : Limits h
  pub line : left.line ≤ 7

abbrev pub Heads : List ℕ → Outcome (Head × Left) NotInForm → Type 0
Heads text (Ok said) = HeadIs text said.0 said.1
Heads text (Err e) = (next : (nx ny time age : ℕ) → Bool → (rule scans : ℕ) → Text Request) → head_then next (1, text) ≡ fails e.line

-- a request whose head, scans and buddy check were read, as terms
abbrev pub terms_read : Head → List Entry → Buddies → Terms
terms_read h entries buddies =
    record {
      nx = h.nx;
      ny = h.ny;
      scans = h.scans;
      entries = entries;
      smooth = h.smooth;
      mode = round_mode;
      rule = h.rule;
      buddies = buddies;
      time = h.time;
      age = h.age;
    }
