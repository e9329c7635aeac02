-- `field_value::copy` meets its contract: with all places passed the two are one. Assumes nothing.
use Rattle.std.proofs.Common.{arith, ℕ, ◌<◌, ◌≡◌, refl, List, [], ◌∷◌, length, get_or}
use Rattle.std.proofs.lemmas.List.{ext_get_or}
use Rattle.field_value.proofs.copy.Goals as goal

-- lists that are equal at each place are one; what stands past their ends does not matter
same_list : {A : Type 0} (l m : List A) → length l ≡ length m → ((past : A) (i : ℕ) → i < length l → get_or l i past ≡ get_or m i past) → l ≡ m
same_list [] [] e h = refl
same_list [] (x ∷ m) e h = ext_get_or x [] (x ∷ m) e (h x)
same_list (x ∷ l) m e h = ext_get_or x (x ∷ l) m e (h x)

pub returns : goal.returns
returns g c = same_list c.loop-k.to c.args.from.now (omega arith) (λ past i h. c.loop-k.invariant past i (omega arith))
