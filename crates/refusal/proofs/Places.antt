-- The place that a search found is one of those that it searched.
use Rattle.std.specs.Prelude.{ℕ, ◌<◌, ◌≡◌, Bool, List, length, get_or}
use Rattle.std.proofs.Common.{◌∙◌}
use Rattle.lists.specs.First.{at, first, first_in, in_places, Search, all_good, bad-at, search}

pub place_inside : (n : ℕ) (bad : ℕ → Bool) (k : ℕ) → at k ≡ first n bad → k < n
place_inside n bad k e = go (search n bad)
  where
    go : Search n bad → k < n
    go (all_good none good) = absurd (let f = e ∙ none in cc)
    go (bad-at j here found) = let same : k ≡ j = let f = e ∙ here in cc in rw same found.inside

pub place_in_list : {A : Type 0} (bad : A → Bool) (o : A) (l : List A) (k : ℕ) → at k ≡ first_in bad l → k < length l
place_in_list bad o l k e = place_inside (length l) (λ m. bad (get_or l m o)) k (e ∙ in_places bad o l)
