-- Document 01's own example, with its plan of one scan or with that scan twice, under either rule: as a request and as text, and what it answers.
use Rattle.std.specs.Prelude.{ℕ, ◌≡◌, Bool, true, false, cond, eqb, ℤ, pos}
use mathlib.Core.List.{List, [], ◌∷◌, ◌++◌}
use Rattle.lists.specs.Tab.{tab}
use Rattle.scheme.specs.Units.{Field, stored, no_wind, Station, round_mode, equation_rule, no_buddies, Request, asking}
use Rattle.scheme.specs.Refusals.{accepted, Window, window_at, Screen, windows_of, analysis_refusal, window_refusal, screen_refusal}
use Rattle.scheme.specs.Smoothing.{smoothed}
use Rattle.scheme.specs.Scan.{after, Analysis, analysis}
use Rattle.scheme.specs.Reach.{Tile, window_of, whole_at, whole_at_each}
use Rattle.scheme.specs.Calls.{call_for}
use Rattle.scheme.specs.Promises.{slices, tile, four_columns}
use Rattle.scheme.specs.Text.{answer_text}
use Rattle.scheme.specs.Text.Pieces.{ascii}
use Rattle.scheme.specs.Text.Order.{rows}

-- what is one thing under rule 1, and another under rule 2
abbrev pub by_rule : {A : Type 0} → ℕ → A → A → A
by_rule rule one two = cond (eqb rule equation_rule) one two

abbrev pub corner_mast : Station
corner_mast = record { x = pos 0; y = pos 0; value = pos 576; observed = 1000; from = 0; until = 4294967295; wind = no_wind }

abbrev pub masts : List Station
masts =
    record { x = pos 64; y = pos 64; value = pos 768; observed = 990; from = 0; until = 4294967295; wind = no_wind }
    ∷ corner_mast
    ∷ record { x = pos 128; y = pos 128; value = pos 700; observed = 990; from = 0; until = 995; wind = no_wind }
    ∷ []

abbrev pub level : List ℤ
level = tab 9 (λ p. pos 640)

abbrev pub asked_of : (rule : ℕ) → List Station → (scans radius : ℕ) → Bool → Request
asked_of rule stations scans radius smooth =
    asking 3 3 level stations scans (tab scans (λ m. pos radius)) (tab scans (λ m. pos 200)) smooth round_mode rule no_buddies 1000 60

abbrev pub example : (rule scans : ℕ) → Bool → Request
example rule scans smooth = asked_of rule masts scans 96 smooth

-- the window over its first two columns and rows
abbrev pub corner : Window
corner = window_at 0 1 0 1

abbrev pub planned : (rule : ℕ) → (smooth plan : List ℕ) → List ℕ
planned rule smooth plan =
    ascii "grid=3,3\ntime=1000\nage=60\n"
    ++ smooth
    ++ by_rule rule [] (ascii "rule=2\n")
    ++ plan
    ++ ascii "row=640,640,640\nrow=640,640,640\nrow=640,640,640\n"
    ++ ascii "stations=3\nst=64,64,768,990,0,open\nst=0,0,576,1000,0,open\nst=128,128,700,990,0,995\n"

abbrev pub once_text : (rule : ℕ) → List ℕ
once_text rule = planned rule (ascii "smooth=0\n") (ascii "scans=1\nscan=96,200\n")

abbrev pub twice_text : (rule : ℕ) → List ℕ
twice_text rule = planned rule (ascii "smooth=0\n") (ascii "scans=2\nscan=96,200\nscan=96,200\n")

abbrev pub smooth_text : (rule : ℕ) → List ℕ
smooth_text rule = planned rule (ascii "smooth=1\n") (ascii "scans=2\nscan=96,200\nscan=96,200\n")

abbrev pub bits : ℕ → List ℕ
bits b = b ∷ b ∷ b ∷ b ∷ b ∷ b ∷ b ∷ b ∷ b ∷ []

-- of a grid that is the same across its diagonal: its corner, the two beside it, the middle, and of those that the first mast alone reaches the three
-- corners and the two others
abbrev pub grid : (corner beside middle far near : ℕ) → List ℤ
grid corner beside middle far near =
    pos corner ∷ pos beside ∷ pos far ∷ pos beside ∷ pos middle ∷ pos near ∷ pos far ∷ pos near ∷ pos far ∷ []

abbrev pub once : (rule : ℕ) → Analysis
once rule = slices (grid 587 672 757 (by_rule rule 768 648) (by_rule rule 768 689)) (bits 1) (0 ∷ 0 ∷ 2 ∷ [])

abbrev pub twice : (rule : ℕ) → Analysis
twice rule = slices (grid 577 672 767 (by_rule rule 779 649) (by_rule rule 779 693)) (bits 3) (0 ∷ 0 ∷ 2 ∷ [])

-- twice, with smoothing on
abbrev pub smooth : (rule : ℕ) → Analysis
smooth rule =
    slices (grid (by_rule rule 579 581) (by_rule rule 686 707) (by_rule rule 752 706) (by_rule rule 806 653) (by_rule rule 806 720)) (bits 3) (0 ∷ 0 ∷ 2 ∷ [])

-- what would be left if the first scan corrected and the second only smoothed
abbrev pub only_smoothed : (rule : ℕ) → Field ℤ
only_smoothed rule = smoothed 3 3 (after (example rule 2 true) 1).field

abbrev pub only_smoothed_grid : (rule : ℕ) → List ℤ
only_smoothed_grid rule = grid 587 672 (by_rule rule 723 670) (by_rule rule 768 648) (by_rule rule 768 689)

abbrev pub corner_once : Tile
corner_once = tile (pos 587 ∷ pos 672 ∷ pos 672 ∷ pos 757 ∷ []) (1 ∷ 1 ∷ 1 ∷ 1 ∷ [])

abbrev pub corner_twice : Tile
corner_twice = tile (pos 577 ∷ pos 672 ∷ pos 672 ∷ pos 767 ∷ []) (3 ∷ 3 ∷ 3 ∷ 3 ∷ [])

abbrev pub corner_smooth : (rule : ℕ) → Tile
corner_smooth rule =
    tile (pos (by_rule rule 579 581) ∷ pos (by_rule rule 686 707) ∷ pos (by_rule rule 686 707) ∷ pos (by_rule rule 752 706) ∷ []) (3 ∷ 3 ∷ 3 ∷ 3 ∷ [])

-- three blocks on a screen, the last two of which share points with others
abbrev pub blocks : Screen
blocks = four_columns (0 ∷ 1 ∷ 0 ∷ []) (1 ∷ 2 ∷ 0 ∷ []) (1 ∷ 0 ∷ 0 ∷ []) (1 ∷ 1 ∷ 0 ∷ [])

abbrev pub blocks_once : (rule : ℕ) → Tile
blocks_once rule =
    tile (pos 672 ∷ pos 757 ∷ pos 672 ∷ pos (by_rule rule 768 648) ∷ pos 757 ∷ pos (by_rule rule 768 689) ∷ pos 587 ∷ []) (1 ∷ 1 ∷ 1 ∷ 1 ∷ 1 ∷ 1 ∷ 1 ∷ [])

abbrev pub answer : (rows sup : List ℕ) → List ℕ
answer rows sup = ascii "refusal=0\nplace=0\n" ++ rows ++ sup ++ sup ++ sup ++ ascii "ver=0,0,2\n"

abbrev pub once_answer : (rule : ℕ) → List ℕ
once_answer rule =
    answer (by_rule rule (ascii "row=587,672,768\nrow=672,757,768\nrow=768,768,768\n") (ascii "row=587,672,648\nrow=672,757,689\nrow=648,689,648\n"))
    (ascii "sup=1,1,1\n")

abbrev pub twice_answer : (rule : ℕ) → List ℕ
twice_answer rule =
    answer (by_rule rule (ascii "row=577,672,779\nrow=672,767,779\nrow=779,779,779\n") (ascii "row=577,672,649\nrow=672,767,693\nrow=649,693,649\n"))
    (ascii "sup=3,3,3\n")

abbrev pub smooth_answer : (rule : ℕ) → List ℕ
smooth_answer rule =
    answer (by_rule rule (ascii "row=579,686,806\nrow=686,752,806\nrow=806,806,806\n") (ascii "row=581,707,653\nrow=707,706,720\nrow=653,720,653\n"))
    (ascii "sup=3,3,3\n")

abbrev pub BothAccept : Request → Type 0
BothAccept q = (analysis_refusal (call_for q) 9 9 3 ≡ accepted) × (window_refusal (call_for q) corner 4 4 ≡ accepted)

abbrev pub Accepts : (rule : ℕ) → Type 0
Accepts rule = BothAccept (example rule 1 false) × BothAccept (example rule 2 false) × BothAccept (example rule 2 true)

abbrev pub Analysed : (rule : ℕ) → Type 0
Analysed rule = (analysis (example rule 1 false) ≡ once rule) × (analysis (example rule 2 false) ≡ twice rule) × (analysis (example rule 2 true) ≡ smooth rule)

abbrev pub Tiled : (rule : ℕ) → Type 0
Tiled rule =
    (whole_at (example rule 1 false) corner ≡ corner_once) × (whole_at (example rule 2 false) corner ≡ corner_twice)
    × (whole_at (example rule 2 true) corner ≡ corner_smooth rule)

abbrev pub Screened : (rule : ℕ) → Type 0
Screened rule = (screen_refusal (call_for (example rule 1 false)) blocks 7 7 ≡ accepted) × (whole_at_each (example rule 1 false) (windows_of blocks) ≡ blocks_once rule)

-- what the cheats would leave
abbrev pub Cheated : (rule : ℕ) → Type 0
Cheated rule =
    (stored 3 3 (after (example rule 2 false) 1).field ≡ (once rule).grid)
    × (window_of corner (after (example rule 2 false) 1).field ≡ corner_once.grid)
    × (stored 3 3 (only_smoothed rule) ≡ only_smoothed_grid rule)
    × (window_of corner (only_smoothed rule) ≡ pos 587 ∷ pos 672 ∷ pos 672 ∷ pos (by_rule rule 723 670) ∷ [])

abbrev pub Answered : (rule : ℕ) → Type 0
Answered rule = (answer_text (once_text rule) ≡ once_answer rule) × (answer_text (twice_text rule) ≡ twice_answer rule) × (answer_text (smooth_text rule) ≡ smooth_answer rule)

abbrev pub lone : Request
lone = asked_of equation_rule (corner_mast ∷ []) 1 64 true
