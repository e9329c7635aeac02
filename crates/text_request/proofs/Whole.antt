-- The whole request, part after part: each read where the one before ended.
use Rattle.std.proofs.Common.{ℕ, ◌*◌, ◌≤◌, ◌≡◌, refl, ap, sym, ◌∙◌, Bool, List, [], ◌∷◌, ◌++◌, map, length, take, take_at, length-take-le, length-append, length-drop, drop, true, false, ℤ, arith}
use Rattle.std.proofs.Math.Dec.{eqb, eqb-suc-zero}
use Rattle.std.proofs.Math.ListN.{get_or-map, replicate, length-replicate}
use Rattle.std.proofs.lemmas.List.{map-append, length-map}
use Rattle.lists.specs.Tab.{is_tab}
use Rattle.scheme.specs.Units.{round_mode, most_scans, most_stations, no_buddies, Station, Buddies, Request, asking}
use Rattle.scheme.specs.Text.{request_lines}
use Rattle.scheme.specs.Text.Reader.{fails, reads, ◌>>=◌, ◌>>◌, gives}
use Rattle.scheme.specs.Text.Pieces.{Piece}
use Rattle.scheme.specs.Text.Lines.{Entry, scan_line, buddy_line, row_line, station_line}
use Rattle.scheme.specs.Text.Order.{Text, line, lines, rows, nothing_after}
use Rattle.scheme.specs.RoundTrip.{stations_line}
use Rattle.request.specs.declared.Station.{Station as Row}
use Rattle.request.specs.declared.Entry.{Entry as Scan}
use Rattle.request.specs.declared.Buddies.{Buddies as Check}
use Rattle.request.specs.Tables.{no_row, station_of, station_in, stations_in, radii_in, limits_in, buddies_of, no_entry}
use Rattle.text_lines.specs.Told.{entry_of}
use Rattle.text_head.specs.declared.Head.{Head}
use Rattle.text_head.specs.Head.{line_or, head_then, Limits, terms_read}
use Rattle.text_head.specs.Left.{Read}
use Rattle.text_request.specs.Told.{request_read, Says}

-- the lines after the head, and what all lines say
abbrev after_head : (nx ny time age : ℕ) → Bool → (rule scans : ℕ) → Text Request
after_head nx ny time age smooth rule scans = do
  plan ← lines scans scan_line
  buddies ← line_or buddy_line no_buddies
  guess ← rows ny (row_line nx)
  many ← line stations_line
  stations ← lines many station_line
  nothing_after
  gives (asking nx ny guess stations scans (map (λ t. t.radius) plan) (map (λ t. t.limit) plan) smooth round_mode rule buddies time age)

whole : (text : List ℕ) → request_lines (1, text) ≡ head_then after_head (1, text)
unfolding request_lines
whole text = refl

pub no_head : (text : List ℕ) (k : ℕ) → ((next : (nx ny time age : ℕ) → Bool → (rule scans : ℕ) → Text Request) → head_then next (1, text) ≡ fails k) → request_lines (1, text) ≡ fails k
no_head text k e = whole text ∙ e after_head

-- an empty rest, and bytes after the last line
pub ended : (k : ℕ) (rest : List ℕ) (empty : Bool) → empty ≡ eqb (length rest) 0 → empty ≡ true → nothing_after (k, rest) ≡ reads tt (k, [])
unfolding nothing_after
ended k [] empty e t = refl
ended k (b ∷ bs) empty e t = cc (e, t, eqb-suc-zero (length bs))

pub surplus : (k : ℕ) (rest : List ℕ) (empty : Bool) → empty ≡ eqb (length rest) 0 → empty ≡ false → nothing_after (k, rest) ≡ fails k
unfolding nothing_after
surplus k [] empty e f = cc (e, f)
surplus k (b ∷ bs) empty e f = refl

module _ (text : List ℕ) (h : Head) {a : ℕ × List ℕ}
    (head : (next : (nx ny time age : ℕ) → Bool → (rule scans : ℕ) → Text Request) → head_then next (1, text) ≡ next h.nx h.ny h.time h.age h.smooth h.rule h.scans a) where
  pub no_scans : (k : ℕ) → lines h.scans scan_line a ≡ fails k → request_lines (1, text) ≡ fails k
  no_scans k off = whole text ∙ head after_head ∙ rw off

  module _ {plan : List Entry} {b : ℕ × List ℕ} (scans : lines h.scans scan_line a ≡ reads plan b) {buddies : Buddies} {c : ℕ × List ℕ} (check : line_or buddy_line no_buddies b ≡ reads buddies c) where
    pub no_rows : (k : ℕ) → rows h.ny (row_line h.nx) c ≡ fails k → request_lines (1, text) ≡ fails k
    no_rows k off = whole text ∙ head after_head ∙ rw (scans, check, off)

    module _ {guess : List ℤ} {d : ℕ × List ℕ} (grid : rows h.ny (row_line h.nx) c ≡ reads guess d) where
      pub no_count : (k : ℕ) → line stations_line d ≡ fails k → request_lines (1, text) ≡ fails k
      no_count k off = whole text ∙ head after_head ∙ rw (scans, check, grid, off)

      module _ {n : ℕ} {e : ℕ × List ℕ} (count : line stations_line d ≡ reads n e) where
        pub no_stations : (k : ℕ) → lines n station_line e ≡ fails k → request_lines (1, text) ≡ fails k
        no_stations k off = whole text ∙ head after_head ∙ rw (scans, check, grid, count, off)

        module _ {ss : List Station} {f : ℕ × List ℕ} (stations : lines n station_line e ≡ reads ss f) where
          pub too_long : (k : ℕ) → nothing_after f ≡ fails k → request_lines (1, text) ≡ fails k
          too_long k more = whole text ∙ head after_head ∙ rw (scans, check, grid, count, stations, more)

          pub all_read : {g : ℕ × List ℕ} → nothing_after f ≡ reads tt g
              → request_lines (1, text) ≡ reads (asking h.nx h.ny guess ss h.scans (map (λ t. t.radius) plan) (map (λ t. t.limit) plan) h.smooth round_mode h.rule buddies h.time h.age) g
          all_read end = whole text ∙ head after_head ∙ rw (scans, check, grid, count, stations, end)

-- ---- what was read, in the fronts of what was lent

radii_same : (es : List Scan) → map (λ (t : Entry). t.radius) (map entry_of es) ≡ radii_in es
radii_same [] = refl
radii_same (e ∷ es) = ap (λ (l : List ℤ). e.radius ∷ l) (radii_same es)

limits_same : (es : List Scan) → map (λ (t : Entry). t.limit) (map entry_of es) ≡ limits_in es
limits_same [] = refl
limits_same (e ∷ es) = ap (λ (l : List ℤ). e.limit ∷ l) (limits_same es)

front : {A B : Type 0} (f : A → B) (n : ℕ) (l rest : List A) → length l ≡ n → take n (map f (l ++ rest)) ≡ map f l
front {A = A} {B = B} f n l rest e =
    ap (take n) (map-append f l rest) ∙ take_at (map f l) (map f rest) n (length-map l f ∙ e)

stations_same : (ss : List Row) → map station_of ss ≡ stations_in ss
stations_same ss = is_tab (station_of no_row) (length ss) (station_in ss) (map station_of ss) (length-map ss station_of) (λ k h. get_or-map station_of ss k no_row)

pub as_read : (h : Head) (b : Check) (n : ℕ) (es rest : List Scan) (z beyond : List ℤ) (ss unused : List Row) → length es ≡ h.scans → length z ≡ h.ny * h.nx → length ss ≡ n
    → asking h.nx h.ny z (map station_of ss) h.scans (map (λ (t : Entry). t.radius) (map entry_of es)) (map (λ (t : Entry). t.limit) (map entry_of es)) h.smooth round_mode h.rule (buddies_of b) h.time h.age
    ≡ request_read (terms_read h (es ++ rest) b) n (z ++ beyond) (ss ++ unused)
as_read h b n es rest z beyond ss unused scans points many =
    rw (
      take_at z beyond (h.ny * h.nx) points,
      take_at ss unused n many,
      front (λ (e : Scan). e.radius) h.scans es rest scans,
      front (λ (e : Scan). e.limit) h.scans es rest scans,
      radii_same es,
      limits_same es,
      stations_same ss,
    )

pub counted : {A : Type 0} (p : Piece A) (n : ℕ) {m : ℕ} (here : ℕ × List ℕ) {r : Read (List A)} → m ≡ n → lines m p here ≡ r → lines n p here ≡ r
counted p n here e f = ap (λ (k : ℕ). lines k p here) (sym e) ∙ f

pub scans_long : (n : ℕ) → n ≤ most_scans → length (take n (replicate 6 no_entry)) ≡ n
scans_long n h = length-take-le n (replicate 6 no_entry) (omega (arith, length-replicate {A = Scan} 6 no_entry))

pub entries_long : (n : ℕ) (es : List Scan) → n ≤ most_scans → length es ≡ n → length (es ++ drop n (replicate 6 no_entry)) ≡ most_scans
entries_long n es h e = omega (arith, length-append es (drop n (replicate 6 no_entry)), length-drop n (replicate 6 no_entry), length-replicate {A = Scan} 6 no_entry)

pub says : {text : List ℕ} (h : Head) (b : Check) (n k : ℕ) (es rest : List Scan) (z beyond : List ℤ) (ss unused : List Row) → length es ≡ h.scans → length z ≡ h.ny * h.nx → length ss ≡ n
    → Limits h → length (es ++ rest) ≡ most_scans → n ≤ most_stations
    → request_lines (1, text) ≡ reads (asking h.nx h.ny z (map station_of ss) h.scans (map (λ (t : Entry). t.radius) (map entry_of es)) (map (λ (t : Entry). t.limit) (map entry_of es)) h.smooth round_mode h.rule (buddies_of b) h.time h.age) (k, [])
    → Says text (z ++ beyond) (ss ++ unused) (terms_read h (es ++ rest) b) n k
says h b n k es rest z beyond ss unused scans points many limits long few said =
    record {
      said = said ∙ ap (λ (q : Request). reads q (k, [])) (as_read h b n es rest z beyond ss unused scans points many);
      fits =
          record {
            two_columns = limits.two_columns;
            few_columns = limits.few_columns;
            two_rows = limits.two_rows;
            few_rows = limits.few_rows;
            scans_some = limits.scans_some;
            scans_few = limits.scans_few;
            entries = long;
            round = refl;
            ruled = limits.ruled;
            stations_few = few;
          };
    }
