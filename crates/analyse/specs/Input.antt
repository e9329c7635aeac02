-- What is written lies inside its array.
use Rattle.std.specs.Prelude.{ℕ, ◌≤◌, List, length, drop}
use Rattle.std.proofs.Common.{arith, ap, length-append}
use Rattle.scheme.specs.Promises.{put_first, Stands}

-- a text that stands at the start ends inside
pub stands_inside : (t l : List ℕ) {n : ℕ} {l' : List ℕ} → Stands t l n l' → n ≤ length l'
unfolding put_first
stands_inside t l s =
    omega (arith, ap (λ (o : ℕ × List ℕ). o.0) s, ap (λ (o : ℕ × List ℕ). length o.1) s, length-append t (drop (length t) l))
