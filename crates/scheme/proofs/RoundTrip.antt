-- A printed request reads back: to print a request in range and to read the text gives the request again, so that no two print alike. The line of
-- rule 1 may be left out.
use Rattle.std.specs.Prelude.{ℕ, zero, suc, ◌+◌, ◌-◌, ◌*◌, ◌/◌, ◌%◌, ◌^◌, ◌≤◌, ◌<◌, ◌≡◌, Bool, true, cond, eqb, length, take, drop, get_or, ℤ, pos, negsuc}
use native.Mathlib.Omega.{arith}
use Rattle.std.proofs.Common.{suc-mul, ◌∙◌, length-take, length-drop, take-append-drop}
use Rattle.std.proofs.Math.Path.{refl, sym, ap}
use Rattle.std.proofs.Math.Bool.{false}
use mathlib.Core.List.{List, [], ◌∷◌, ◌++◌, append_assoc, map, flatten}
use borrow.Author.Tests.{le-leb, ne_eqb}
use Rattle.lists.specs.Tests.{cond_both}
use Rattle.lists.specs.Members.{All, none, more, all_take, all_drop}
use Rattle.lists.specs.Tab.{tab, map-tab, tab_get_or, length-tab}
use Rattle.scheme.specs.Units.{Station, equation_rule, listing_rule, Buddies, no_buddies, Request, most_scans, most_stations}
use Rattle.scheme.specs.Text.{default_rule, request_lines}
use Rattle.scheme.specs.Text.Reader.{Result, fails, reads, onward, gives, ◌or◌}
use Rattle.scheme.specs.Text.Pieces.{ascii, Piece, word, digits, positive, natural, between, count, unsigned, negative, signed, mark, values}
use Rattle.scheme.specs.Text.Lines.{Entry, number, grid_line, entry_line, scan_line, buddy_line, row_line, observation, end, station_line}
use Rattle.scheme.specs.Text.Order.{line, lines, rows, nothing_after}
use Rattle.scheme.specs.Text.Printed.{decimal, integer, cells, keyed, grid_lines}
use Rattle.scheme.specs.Decimals.{digit}
use Rattle.scheme.proofs.Decimals.{decimal_one, decimal_more, digit_ind}
use Rattle.scheme.specs.RoundTrip.{BuddiesInRange, Digits, EntryInRange, Front, InRange, Signed, StationInRange, Stops, Unsigned, age_line, buddy_text, entries, entry_text, from_scans, is_digit, led, lines_text, request_text, request_text_with, rule_line, scans_line, shorter_text, smooth_line, station_text, stations_line, time_line, value}

-- ---- the printed form of a request; marks are written as digits

-- ---- a request whose numbers are those of a text: its weights are round, and it has no winds

-- ---- the lines of one number, by name

-- ---- the lines after that of the rule, by name

-- ---- numbers read back

value_last : (a : ℕ) (bs : List ℕ) (b : ℕ) → value a (bs ++ (b ∷ [])) ≡ 10 * value a bs + (b - 48)
unfolding value
value_last a [] b = refl
value_last a (x ∷ bs) b = value_last (10 * a + (x - 48)) bs b

value_decimal : (n : ℕ) → value 0 (decimal n) ≡ n
unfolding value
value_decimal = digit_ind (λ n. value 0 (decimal n) ≡ n) one next
  where
    one : (n : ℕ) → n < 10 → value 0 (decimal n) ≡ n
    one n h = ap (value 0) (decimal_one n h) ∙ omega arith

    next : (n : ℕ) → 10 ≤ n → value 0 (decimal (n / 10)) ≡ n / 10 → value 0 (decimal n) ≡ n
    next n h r = ap (value 0) (decimal_more n h) ∙ value_last 0 (decimal (n / 10)) (digit (n % 10)) ∙ omega arith

digits_over : (a : ℕ) {ds : List ℕ} (rest : List ℕ) → Digits ds → Stops rest → digits a (ds ++ rest) ≡ reads (value a ds) rest
unfolding digits value
digits_over a [] none h = refl
digits_over a (b ∷ rest) none h = rw (h, digits)
digits_over a rest (more {a = x} {xs = ds} d r) h = rw (d, digits) (digits_over (10 * a + (x - 48)) rest r h)

is-digit : (d : ℕ) → d < 10 → is_digit (digit d) ≡ true
is-digit d h = rw (le-leb 48 (48 + d) (omega arith), le-leb (48 + d) 57 (omega arith))

digits_last : {ds : List ℕ} (b : ℕ) → Digits ds → is_digit b ≡ true → Digits (ds ++ (b ∷ []))
digits_last b none h = more h none
digits_last b (more d r) h = more d (digits_last b r h)

front : (n : ℕ) → Front n
front = digit_ind Front one next
  where
    one : (n : ℕ) → n < 10 → Front n
    one n h = record { first = digit n; later = []; is = decimal_one n h; low = omega arith; some = λ k. omega arith; high = omega arith; all = none }

    next : (n : ℕ) → 10 ≤ n → Front (n / 10) → Front n
    next n h f =
        record {
          first = f.first;
          later = f.later ++ (digit (n % 10) ∷ []);
          is = decimal_more n h ∙ ap (λ (ds : List ℕ). ds ++ (digit (n % 10) ∷ [])) f.is;
          low = f.low;
          some = λ k. f.some (omega arith);
          high = f.high;
          all = digits_last (digit (n % 10)) f.all (is-digit (n % 10) (omega arith));
        }

module _ (n : ℕ) (rest : List ℕ) (h : Stops rest) where
  positive_decimal : 1 ≤ n → positive (decimal n ++ rest) ≡ reads n rest
  unfolding positive value
  positive_decimal k =
      let f = front n in
      let z : f.first - 48 ≡ 10 * 0 + (f.first - 48) = omega arith in
      let e : value (f.first - 48) f.later ≡ n = ap (λ (a : ℕ). value a f.later) z ∙ sym (ap (value 0) f.is) ∙ value_decimal n in
      rw (f.is, le-leb 49 f.first (f.some k), le-leb f.first 57 f.high, positive)
      (digits_over (f.first - 48) rest f.all h ∙ ap (λ (a : ℕ). reads a rest) e)

  -- a word that begins with no digit does not stand there
  not_word : (b : ℕ) (key : List ℕ) → 57 < b → word (b ∷ key) (decimal n ++ rest) ≡ fails tt
  unfolding word
  not_word b key k = let f = front n in rw (f.is, ne_eqb f.first b (λ e. omega (arith, f.high)), word)

natural_decimal : (n : ℕ) (rest : List ℕ) → Stops rest → natural (decimal n ++ rest) ≡ reads n rest
unfolding natural word
natural_decimal zero rest h = rw (decimal_one 0 (omega arith))
natural_decimal (suc n) rest h =
    let f = front (suc n) in
    let w : word (48 ∷ []) (decimal (suc n) ++ rest) ≡ fails tt = rw (f.is, ne_eqb f.first 48 (λ e. omega (arith, f.some (omega arith))), word) in
    rw (w, ◌or◌) (positive_decimal (suc n) rest h (omega arith))

pub between_reads : (low high n : ℕ) (rest : List ℕ) → low ≤ n → n ≤ high → between low high n rest ≡ reads n rest
unfolding between
between_reads low high n rest l h = rw (le-leb low n l, le-leb n high h, between)

count_decimal : (low high n : ℕ) (rest : List ℕ) → low ≤ n → n ≤ high → Stops rest → count low high (decimal n ++ rest) ≡ reads n rest
unfolding count
count_decimal low high n rest l h s = rw (natural_decimal n rest s) (between_reads low high n rest l h)

negative_decimal : (n : ℕ) (rest : List ℕ) → n < 2 ^ 31 → Stops rest → negative (decimal (suc n) ++ rest) ≡ reads (negsuc n) rest
unfolding negative
negative_decimal n rest h s = rw (positive_decimal (suc n) rest s (omega arith), between_reads 0 (2 ^ 31) (suc n) rest (omega arith) h)

signed_minus : (bs : List ℕ) → signed (45 ∷ bs) ≡ negative bs
unfolding signed count between natural positive word
signed_minus bs = refl

signed_integer : (z : ℤ) (rest : List ℕ) → Signed z → Stops rest → signed (integer z ++ rest) ≡ reads z rest
unfolding signed integer
signed_integer (pos n) rest h s = rw (count_decimal 0 (2 ^ 31 - 1) n rest (omega arith) (omega arith) s, ◌or◌)
signed_integer (negsuc n) rest h s = signed_minus (decimal (suc n) ++ rest) ∙ negative_decimal n rest h s

-- `M` and `open` do not stand where digits do
observation_integer : (z : ℤ) (rest : List ℕ) → Signed z → Stops rest → observation (integer z ++ rest) ≡ reads z rest
unfolding observation integer word
observation_integer (pos n) rest h s = rw (not_word n rest s 77 [] (omega arith), ◌or◌) (signed_integer (pos n) rest h s)
observation_integer (negsuc n) rest h s = signed_integer (negsuc n) rest h s

end_decimal : (n : ℕ) (rest : List ℕ) → Unsigned n → Stops rest → end (decimal n ++ rest) ≡ reads n rest
unfolding end unsigned
end_decimal n rest h s = rw (not_word n rest s 111 (112 ∷ 101 ∷ 110 ∷ []) (omega arith), ◌or◌) (count_decimal 0 (2 ^ 32 - 1) n rest (omega arith) h s)

-- ---- lines read back

-- a line that says one number
number_keyed : (key : List ℕ) (low high n : ℕ) (rest : List ℕ) → ((bs : List ℕ) → word key (key ++ bs) ≡ reads tt bs) → low ≤ n → n ≤ high
    → number key (count low high) (keyed key decimal (n ∷ []) ++ rest) ≡ reads n rest
unfolding number keyed cells word
number_keyed key low high n rest w l h =
    rw (append_assoc key (decimal n ++ (10 ∷ [])) rest, append_assoc (decimal n) (10 ∷ []) rest, w (decimal n ++ (10 ∷ rest)), count_decimal low high n (10 ∷ rest) l h refl)

grid_keyed : (nx ny : ℕ) (rest : List ℕ) → 2 ≤ nx → nx ≤ 64 → 2 ≤ ny → ny ≤ 64
    → grid_line (keyed (ascii "grid=") decimal (nx ∷ ny ∷ []) ++ rest) ≡ reads (record { nx = nx; ny = ny }) rest
unfolding grid_line keyed cells word
grid_keyed nx ny rest a b c d =
    rw (
      append_assoc (decimal nx) (44 ∷ (decimal ny ++ (10 ∷ []))) rest,
      append_assoc (decimal ny) (10 ∷ []) rest,
      count_decimal 2 64 nx (44 ∷ (decimal ny ++ (10 ∷ rest))) a b refl,
      count_decimal 2 64 ny (10 ∷ rest) c d refl,
    )

entry_keyed : (key : List ℕ) (t : Entry) (rest : List ℕ) → ((bs : List ℕ) → word key (key ++ bs) ≡ reads tt bs) → EntryInRange t
    → entry_line key (keyed key integer (t.radius ∷ t.limit ∷ []) ++ rest) ≡ reads t rest
unfolding entry_line keyed cells word
entry_keyed key t rest w r =
    rw (
      append_assoc key (integer t.radius ++ (44 ∷ (integer t.limit ++ (10 ∷ [])))) rest,
      append_assoc (integer t.radius) (44 ∷ (integer t.limit ++ (10 ∷ []))) rest,
      append_assoc (integer t.limit) (10 ∷ []) rest,
      w (integer t.radius ++ (44 ∷ (integer t.limit ++ (10 ∷ rest)))),
      signed_integer t.radius (44 ∷ (integer t.limit ++ (10 ∷ rest))) r.radius refl,
      signed_integer t.limit (10 ∷ rest) r.limit refl,
    )

scan_keyed : (t : Entry) (rest : List ℕ) → EntryInRange t → scan_line (entry_text t ++ rest) ≡ reads t rest
unfolding word
scan_keyed t rest r = entry_keyed (ascii "scan=") t rest (λ bs. refl) r

-- six numbers, each before its mark
station_keyed : (s : Station) (rest : List ℕ) → StationInRange s → station_line (station_text s ++ rest) ≡ reads s rest
unfolding station_line unsigned word
station_keyed s rest r =
    let after_from : List ℕ = 44 ∷ (decimal s.until ++ (10 ∷ rest)) in
    let after_observed : List ℕ = 44 ∷ (decimal s.from ++ after_from) in
    let after_value : List ℕ = 44 ∷ (decimal s.observed ++ after_observed) in
    let after_y : List ℕ = 44 ∷ (integer s.value ++ after_value) in
    let after_x : List ℕ = 44 ∷ (integer s.y ++ after_y) in
    simp append_assoc
    (rw (
      signed_integer s.x after_x r.x refl,
      signed_integer s.y after_y r.y refl,
      observation_integer s.value after_value r.value refl,
      count_decimal 0 (2 ^ 32 - 1) s.observed after_observed (omega arith) r.observed refl,
      count_decimal 0 (2 ^ 32 - 1) s.from after_from (omega arith) r.from refl,
      end_decimal s.until (10 ∷ rest) r.until refl,
      r.wind,
    ))

-- lines of a kind
lines_read : {A : Type 0} (P : A → Type 0) (f : Piece A) (shown : A → List ℕ) → ((a : A) (rest : List ℕ) → P a → f (shown a ++ rest) ≡ reads a rest)
    → {l : List A} → All P l → (k : ℕ) (rest : List ℕ) → lines (length l) f (k, lines_text shown l ++ rest) ≡ reads l (k + length l, rest)
unfolding lines lines_text
lines_read P f shown h none k rest = let e : k ≡ k + 0 = omega arith in ap (λ (n : ℕ). reads [] (n, rest)) e
lines_read P f shown h (more {a = a} {xs = l} p r) k rest =
    let e : suc k + length l ≡ k + suc (length l) = omega arith in
    rw (append_assoc (shown a) (lines_text shown l) rest, h a (lines_text shown l ++ rest) p, line, lines_read P f shown h r (suc k) rest, e)

-- the rows of a grid
mark_after : (n : ℕ) (bs : List ℕ) → word (mark n ∷ []) (mark n ∷ bs) ≡ reads tt bs
unfolding word
mark_after zero bs = refl
mark_after (suc n) bs = refl

mark_stops : (n : ℕ) (bs : List ℕ) → Stops (mark n ∷ bs)
mark_stops zero bs = refl
mark_stops (suc n) bs = refl

values_cells : {zs : List ℤ} → All Signed zs → (rest : List ℕ) → values (length zs) (cells integer zs ++ rest) ≡ reads zs rest
unfolding values cells
values_cells none rest = refl
values_cells (more {a = z} {xs = zs} h r) rest =
    rw (
      append_assoc (integer z) (mark (length zs) ∷ cells integer zs) rest,
      signed_integer z (mark (length zs) ∷ (cells integer zs ++ rest)) h (mark_stops (length zs) (cells integer zs ++ rest)),
      mark_after (length zs) (cells integer zs ++ rest),
      values_cells r rest,
    )

row_keyed : (n : ℕ) {zs : List ℤ} → All Signed zs → length zs ≡ suc n → (rest : List ℕ) → row_line (suc n) (keyed (ascii "row=") integer zs ++ rest) ≡ reads zs rest
unfolding row_line keyed word
row_keyed n none e rest = absurd (omega arith)
row_keyed n (more {a = z} {xs = zs} h r) e rest = ap (λ (k : ℕ). values k (cells integer (z ∷ zs) ++ rest)) (sym e) ∙ values_cells (more {a = z} {xs = zs} h r) rest

-- a line of values, and then the lines after it
pub rows_more : {A : Type 0} (f : Piece (List A)) (bs rest : List ℕ) (vs : List A) → f bs ≡ reads vs rest → (n k : ℕ)
    → rows (suc n) f (k, bs) ≡ led vs (rows n f (suc k, rest))
unfolding rows lines flatten
rows_more {A = A} f bs rest vs e n k = rw (e, line) (go (lines n f (suc k, rest)))
  where
    go : (r : Result (ℕ × List ℕ) ℕ (List (List A)))
        → onward (onward r (λ more. gives (vs ∷ more))) (λ all. gives (flatten all)) ≡ led vs (onward r (λ all. gives (flatten all)))
    go (fails j) = refl
    go (reads ws left) = refl

rows_read : (nx ny : ℕ) {vs : List ℤ} → All Signed vs → length vs ≡ ny * suc nx → (k : ℕ) (rest : List ℕ)
    → rows ny (row_line (suc nx)) (k, grid_lines (ascii "row=") integer (suc nx) ny vs ++ rest) ≡ reads vs (k + ny, rest)
unfolding rows lines flatten grid_lines
rows_read nx zero none l k rest = let e : k ≡ k + 0 = omega arith in ap (λ (n : ℕ). reads [] (n, rest)) e
rows_read nx zero (more h r) l k rest = absurd (omega arith)
rows_read nx (suc ny) {vs = vs} h l k rest =
    let e : suc k + ny ≡ k + suc ny = omega arith in
    let a : length (take (suc nx) vs) ≡ suc nx = length-take (suc nx) vs ∙ omega (arith, suc-mul ny (suc nx)) in
    let b : length (drop (suc nx) vs) ≡ ny * suc nx = length-drop (suc nx) vs ∙ omega (arith, suc-mul ny (suc nx)) in
    rw (
      append_assoc (keyed (ascii "row=") integer (take (suc nx) vs)) (grid_lines (ascii "row=") integer (suc nx) ny (drop (suc nx) vs)) rest,
      rows_more (row_line (suc nx)) _ _ _ (row_keyed nx (all_take Signed (suc nx) h) a (grid_lines (ascii "row=") integer (suc nx) ny (drop (suc nx) vs) ++ rest)) ny k,
      rows_read nx ny (all_drop Signed (suc nx) h) b (suc k) rest,
      take-append-drop (suc nx) vs,
      e,
    )

-- ---- the whole

-- what stands in a column, from the stations
column : {A : Type 0} (o : A) (l : List A) (n : ℕ) → length l ≡ n → tab n (λ k. get_or l k o) ≡ l
column o l n e = ap (λ (m : ℕ). tab m (λ k. get_or l k o)) (sym e) ∙ tab_get_or l o

module _ (q : Request) (r : InRange q) where
  radius_back : map (λ (t : Entry). t.radius) (entries q.plan) ≡ q.plan.radius
  radius_back = map-tab (λ (t : Entry). t.radius) q.plan.scans _ ∙ column (pos 0) q.plan.radius q.plan.scans r.radii

  limit_back : map (λ (t : Entry). t.limit) (entries q.plan) ≡ q.plan.limit
  limit_back = map-tab (λ (t : Entry). t.limit) q.plan.scans _ ∙ column (pos 0) q.plan.limit q.plan.scans r.limits

  smooth_back : eqb (cond q.plan.smooth 1 0) 1 ≡ q.plan.smooth
  smooth_back = go q.plan.smooth
    where
      go : (b : Bool) → eqb (cond b 1 0) 1 ≡ b
      go true = refl
      go false = refl

  -- the bytes after each line
  abbrev after_count : List ℕ
  after_count = lines_text station_text q.stations ++ []

  abbrev after_rows : List ℕ
  after_rows = keyed (ascii "stations=") decimal (length q.stations ∷ []) ++ after_count

  abbrev after_buddies : List ℕ
  after_buddies = grid_lines (ascii "row=") integer q.nx q.ny q.first_guess ++ after_rows

  abbrev after_plan : List ℕ
  after_plan = buddy_text q.plan.buddies ++ after_buddies

  abbrev after_scans : List ℕ
  after_scans = lines_text entry_text (entries q.plan) ++ after_plan

  abbrev after_rule : List ℕ
  after_rule = keyed (ascii "scans=") decimal (q.plan.scans ∷ []) ++ after_scans

  scans_read : scans_line after_rule ≡ reads q.plan.scans after_scans
  unfolding word
  scans_read = number_keyed (ascii "scans=") 1 most_scans q.plan.scans after_scans (λ bs. refl) r.some_scans r.few_scans

  plan_read : (k : ℕ) → lines q.plan.scans scan_line (k, after_scans) ≡ reads (entries q.plan) (k + q.plan.scans, after_plan)
  plan_read k =
      let e = length-tab q.plan.scans (λ m. entry m) in
      rw e at (lines_read EntryInRange scan_line entry_text scan_keyed r.entries k after_plan)
    where
      entry : ℕ → Entry
      entry m = record { radius = get_or q.plan.radius m (pos 0); limit = get_or q.plan.limit m (pos 0) }

  -- the lines of the check: one, or none
  abbrev pub buddy_lines : ℕ
  buddy_lines = cond q.plan.buddies.on 1 0

  -- a row of the grid is no line of the check
  buddy_absent : buddy_line after_buddies ≡ fails tt
  buddy_absent = go q.ny r.two_rows q.first_guess
    where
      go : (ny : ℕ) → 2 ≤ ny → (vs : List ℤ) → buddy_line (grid_lines (ascii "row=") integer q.nx ny vs ++ after_rows) ≡ fails tt
      go zero h vs = absurd (omega arith)
      go (suc ny) h vs =
          unfold grid_lines in
          (rw (append_assoc (keyed (ascii "row=") integer (take q.nx vs)) (grid_lines (ascii "row=") integer q.nx ny (drop q.nx vs)) after_rows)
          (row (take q.nx vs) (grid_lines (ascii "row=") integer q.nx ny (drop q.nx vs) ++ after_rows)))
        where
          row : (vs : List ℤ) (rest : List ℕ) → buddy_line (keyed (ascii "row=") integer vs ++ rest) ≡ fails tt
          row [] rest = unfold keyed entry_line word in refl
          row (v ∷ vs) rest = unfold keyed entry_line word in refl

  buddy_read : (k : ℕ) → (line buddy_line or gives no_buddies) (k, after_plan) ≡ reads q.plan.buddies (k + buddy_lines, after_buddies)
  buddy_read k = go q.plan.buddies.on q.plan.buddies.radius q.plan.buddies.limit r.buddies
    where
      go : (on : Bool) (radius limit : ℤ) → (let b : Buddies = record { on = on; radius = radius; limit = limit } in
          BuddiesInRange b → (line buddy_line or gives no_buddies) (k, buddy_text b ++ after_buddies) ≡ reads b (k + cond on 1 0, after_buddies))
      go true radius limit s =
          let e : suc k ≡ k + 1 = omega arith in
          rw (entry_keyed (ascii "buddy=") (record { radius = radius; limit = limit }) after_buddies (λ bs. unfold word in refl) (record { radius = s.radius; limit = s.limit }), line, ◌or◌)
          (ap (λ (n : ℕ). reads (record { on = true; radius = radius; limit = limit }) (n, after_buddies)) e)
      go false radius limit s =
          let e : k ≡ k + 0 = omega arith in
          rw (buddy_absent, line, ◌or◌)
          (ap (λ (n : ℕ). reads no_buddies (n, after_buddies)) e ∙ ap (λ (b : Buddies). reads b (k + 0, after_buddies)) (sym (s.off refl)))

  rows_back : (nx : ℕ) → 1 ≤ nx → length q.first_guess ≡ q.ny * nx → (k : ℕ) (rest : List ℕ)
      → rows q.ny (row_line nx) (k, grid_lines (ascii "row=") integer nx q.ny q.first_guess ++ rest) ≡ reads q.first_guess (k + q.ny, rest)
  rows_back zero h l k rest = absurd (omega arith)
  rows_back (suc nx) h l k rest = rows_read nx q.ny r.first_guess l k rest

  count_read : stations_line after_rows ≡ reads (length q.stations) after_count
  unfolding word
  count_read =
      number_keyed (ascii "stations=") 0 most_stations (length q.stations) after_count (λ bs. refl) (omega arith) r.few_stations

  -- the lines from the scan count on, of which the first is line k
  rest_reads_back : (k : ℕ) → from_scans (record { nx = q.nx; ny = q.ny }) q.T q.A (cond q.plan.smooth 1 0) q.plan.rule (k, after_rule)
      ≡ reads q (suc (suc k + q.plan.scans + buddy_lines + q.ny) + length q.stations, [])
  unfolding from_scans nothing_after
  rest_reads_back k =
      rw (
        scans_read,
        line,
        plan_read (suc k),
        buddy_read (suc k + q.plan.scans),
        rows_back q.nx (omega (arith, r.two_columns)) r.whole (suc k + q.plan.scans + buddy_lines) after_rows,
        count_read,
        lines_read StationInRange station_line station_text station_keyed r.rows (suc (suc k + q.plan.scans + buddy_lines + q.ny)) [],
        radius_back,
        limit_back,
        smooth_back,
        r.mode,
      )

  -- the lines before, with what stands for the rule's
  module _ (said : List ℕ) where
    abbrev after_smooth : List ℕ
    after_smooth = said ++ after_rule

    abbrev after_age : List ℕ
    after_age = keyed (ascii "smooth=") decimal (cond q.plan.smooth 1 0 ∷ []) ++ after_smooth

    abbrev after_time : List ℕ
    after_time = keyed (ascii "age=") decimal (q.A ∷ []) ++ after_age

    abbrev after_grid : List ℕ
    after_grid = keyed (ascii "time=") decimal (q.T ∷ []) ++ after_time

    time_read : time_line after_grid ≡ reads q.T after_time
    unfolding unsigned word
    time_read = number_keyed (ascii "time=") 0 (2 ^ 32 - 1) q.T after_time (λ bs. refl) (omega arith) r.time

    age_read : age_line after_time ≡ reads q.A after_age
    unfolding unsigned word
    age_read = number_keyed (ascii "age=") 0 (2 ^ 32 - 1) q.A after_age (λ bs. refl) (omega arith) r.age

    smooth_read : smooth_line after_age ≡ reads (cond q.plan.smooth 1 0) after_smooth
    unfolding word
    smooth_read = number_keyed (ascii "smooth=") 0 1 (cond q.plan.smooth 1 0) after_smooth (λ bs. refl) (omega arith) (cond_both (λ n. n ≤ 1) q.plan.smooth 1 0 (λ e. omega arith) (λ e. omega arith))

    head_read : request_lines (1, request_text_with said q)
        ≡ onward ((line rule_line or gives default_rule) (5, after_smooth)) (λ rule. from_scans (record { nx = q.nx; ny = q.ny }) q.T q.A (cond q.plan.smooth 1 0) rule)
    unfolding request_lines request_text_with from_scans
    head_read =
        rw (grid_keyed q.nx q.ny after_grid r.two_columns r.few_columns r.two_rows r.few_rows, line, ◌or◌, time_read, age_read, smooth_read)

  rule_read : rule_line (keyed (ascii "rule=") decimal (q.plan.rule ∷ []) ++ after_rule) ≡ reads q.plan.rule after_rule
  unfolding word
  rule_read = number_keyed (ascii "rule=") equation_rule listing_rule q.plan.rule after_rule (λ bs. refl) r.first_rule r.last_rule

  -- the line of the scan count is no line of a rule
  rule_absent : rule_line after_rule ≡ fails tt
  unfolding number keyed word
  rule_absent = refl

  pub printed_reads_back : request_lines (1, request_text q) ≡ reads q (suc (7 + q.plan.scans + buddy_lines + q.ny) + length q.stations, [])
  printed_reads_back = head_read (keyed (ascii "rule=") decimal (q.plan.rule ∷ [])) ∙ rw (rule_read, line, ◌or◌) (rest_reads_back 6)

  pub rule_1_may_be_left_out : q.plan.rule ≡ equation_rule
      → request_lines (1, shorter_text q) ≡ reads q (suc (6 + q.plan.scans + buddy_lines + q.ny) + length q.stations, [])
  rule_1_may_be_left_out e =
      head_read []
      ∙ rw (rule_absent, line, ◌or◌)
      (ap (λ (rule : ℕ). from_scans (record { nx = q.nx; ny = q.ny }) q.T q.A (cond q.plan.smooth 1 0) rule (5, after_rule)) (sym e) ∙ rest_reads_back 5)

-- no two requests print alike
same_read : {L F A : Type 0} {a b : A} {l n : L} → ◌≡◌ {A = Result L F A} (reads a l) (reads b n) → a ≡ b
same_read e = cc

pub no_two_print_alike : (p q : Request) → InRange p → InRange q → request_text p ≡ request_text q → p ≡ q
no_two_print_alike p q a b e = same_read (sym (printed_reads_back p a) ∙ ap (λ (text : List ℕ). request_lines (1, text)) e ∙ printed_reads_back q b)
