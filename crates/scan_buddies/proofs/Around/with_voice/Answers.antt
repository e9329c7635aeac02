-- `scan_buddies::Around::with_voice` meets its contract: no sum leaves its type. Assumes nothing.
use Rattle.std.proofs.Common.{arith, ◌≤◌, get_or, ℤ, pos, nat_abs, ◌+ℤ◌, w64}
use Rattle.integers.specs.Sizes.{size_add}
use Rattle.integers.specs.Words.{bits_back}
use Rattle.scheme.specs.Units.{most_limit}
use Rattle.scan_buddies.specs.Nine.{voice_near}
use Rattle.scan_buddies.proofs.Around.with_voice.Goals as goal

pub returns : goal.returns
returns c =
    let a = c.args.self.now in
    let sum : ℤ = c.args.before.sum in
    let d : ℤ = get_or a.d.now c.args.j (pos 0) in
    let few = c.requires.0 in
    let small : nat_abs d ≤ most_limit = c.requires.2.d_small in
    rw (
      bits_back w64 sum (omega (arith, few.small)),
      bits_back w64 d (omega (arith, small)),
      bits_back w64 (sum +ℤ d) (omega (arith, size_add sum d, few.small, small)),
      voice_near a.radius a.stations.now a.d.now c.args.k c.args.j _ c.if-j-k.false c.squared_distance-apart.ensures c.if-self-apart.false,
    )
