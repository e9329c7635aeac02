-- The row of the table that a refusal names, what an answer says, and how a call is settled by it.
use Rattle.std.specs.Prelude.{ℕ, ◌≡◌, refl, List, [], ◌∷◌, ◌++◌, Result, Ok, Err}
use Rattle.std.proofs.Common.{arith, sym, ap, ◌∙◌}
use Rattle.scheme.specs.Units.{most_scans}
use Rattle.scheme.specs.Refusals.{Refusal, most_windows, accepted, refused, number_of, place_of, as_one, unless_refused, in_order}
use Rattle.scheme.specs.Promises.{Promised, Settles}
use Rattle.scheme.proofs.OneOutcome.{both}
use Rattle.refusal.specs.declared.Refusal.{Refusal as Row}
use Rattle.refusal.specs.declared.Refusal.TheVariants.{Shape, Screen, Window, Lengths, Columns, Scans, Plan, BuddyCheck, FirstGuess, Station}

abbrev pub row_of : Row → Refusal
row_of Shape = refused 1 0
row_of Screen = refused 2 most_windows
row_of (Window place) = refused 2 place
row_of Lengths = refused 3 0
row_of Columns = refused 4 0
row_of Scans = refused 5 0
row_of (Plan place) = refused 6 place
row_of BuddyCheck = refused 6 most_scans
row_of (FirstGuess place) = refused 7 place
row_of (Station place) = refused 8 place

-- which refuses
pub row_refuses : (r : Row) → row_of r ≡ refused (number_of (row_of r)) (place_of (row_of r))
row_refuses Shape = refl
row_refuses Screen = refl
row_refuses (Window place) = refl
row_refuses Lengths = refl
row_refuses Columns = refl
row_refuses Scans = refl
row_refuses (Plan place) = refl
row_refuses BuddyCheck = refl
row_refuses (FirstGuess place) = refl
row_refuses (Station place) = refl

-- what an answer says
abbrev pub refusal_of : Result (Unit {0}) Row → Refusal
refusal_of (Ok done) = accepted
refusal_of (Err r) = row_of r

-- a call that is lent memory answers its refusal and leaves its result; refused, it writes to none of the memory
abbrev pub SettlesAs : {A : Type 0} → Refusal → (result found : A) → Result (Unit {0}) Row → A → Type 0
SettlesAs {A = A} refusal result found answer left =
    Promised {O = Refusal × A} (refusal, unless_refused refusal result found) (refusal_of answer, left)

-- ---- the two outcomes of a call

module _ {A : Type 0} (result found : A) {f : Refusal} where
  pub refuses : (r : Row) → row_of r ≡ f → SettlesAs f result found (Err r) found
  refuses r e =
      let keeps : found ≡ unless_refused (row_of r) result found = rw (row_refuses r) refl in
      both e (keeps ∙ ap (λ (g : Refusal). unless_refused g result found) e)

  pub works : {left : A} → accepted ≡ f → left ≡ result → SettlesAs f result found (Ok tt) left
  works e left_is = both e (left_is ∙ ap (λ (g : Refusal). unless_refused g result found) e)

  -- and so in C's number
  pub in_number : (answer : Result (Unit {0}) Row) {left : A} → SettlesAs f result found answer left → Settles f result found (as_one (refusal_of answer)) left
  in_number answer s = ap (λ (o : Refusal × A). let p : ℕ × A = (as_one o.0, o.1) in p) s

-- ---- tests made in two parts: where no test of the first refuses, the second decides

module _ (rest : List Refusal) where
  pub rest_decides : (rs : List Refusal) → in_order rs ≡ accepted → in_order (rs ++ rest) ≡ in_order rest
  unfolding in_order
  rest_decides [] e = refl
  rest_decides (accepted ∷ rs) e = rest_decides rs e
  rest_decides (refused number place ∷ rs) e = absurd (let z : ◌≡◌ {A = ℕ} 0 1 = cc in omega arith)

  pub refused_before : (rs : List Refusal) (r : Row) → row_of r ≡ in_order rs → row_of r ≡ in_order (rs ++ rest)
  unfolding in_order
  refused_before [] r e = absurd (let e' = sym (row_refuses r) ∙ e in cc)
  refused_before (accepted ∷ rs) r e = refused_before rs r e
  refused_before (refused number place ∷ rs) r e = e
