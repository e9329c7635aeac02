-- The sums of weights and of weight·D, and the count of those inside, add like numbers; so does what neighbours say.
use Rattle.std.proofs.Common.{zero-add, add-zero, add_assoc}
use Rattle.std.specs.Prelude.{◌≡◌}
use Rattle.std.proofs.Math.IntN.{+ℤ_idl, +ℤ_idr, +ℤ_assoc}
use Rattle.scheme.specs.Buddies.{Heard, silence, both}
use Rattle.scheme.specs.Correction.{Sums, nothing, plus}

pub nothing_plus : (s : Sums) → plus nothing s ≡ s
nothing_plus s = simp (zero-add, +ℤ_idl)

pub plus_nothing : (s : Sums) → plus s nothing ≡ s
plus_nothing s = simp (add-zero, +ℤ_idr)

pub plus_assoc : (a b c : Sums) → plus (plus a b) c ≡ plus a (plus b c)
plus_assoc a b c = simp (add_assoc, +ℤ_assoc)

pub silence_both : (h : Heard) → both silence h ≡ h
silence_both h = simp (zero-add, +ℤ_idl)

pub both_silence : (h : Heard) → both h silence ≡ h
both_silence h = simp (add-zero, +ℤ_idr)

pub both_assoc : (a b c : Heard) → both (both a b) c ≡ both a (both b c)
both_assoc a b c = simp (add_assoc, +ℤ_assoc)
