-- `scan_buddies::Around::verdict_beside` meets its contract: its tests are those of the definition. Assumes nothing.
use Rattle.std.proofs.Common.{arith, ℕ, length, ◌≡◌, sym, ◌∙◌, eq-eqb, get_or, pos, w64, to_z, of_z}
use Rattle.integers.specs.Words.{bits_back}
use Rattle.scheme.specs.Units.{most_stations}
use Rattle.scheme.specs.Buddies.{after_buddies}
use Rattle.scan_buddies.specs.Voices.{of_more}
use Rattle.scan_buddies.specs.Nine.{heard_few}
use Rattle.scan_buddies.specs.Asked.{StandingIn}
use Rattle.scan_buddies.specs.declared.Around.{Around}
use Rattle.scan_buddies.proofs.Around.verdict_beside.Goals as goal

-- a survivor's difference, as the code reads it
back : (a : Around) (k : ℕ) → StandingIn a k → to_z w64 (of_z w64 (get_or a.d.now k (pos 0))) ≡ get_or a.d.now k (pos 0)
back a k s = bits_back w64 _ (omega (arith, s.d_small))

pub is_odd-requires : goal.is_odd-requires
is_odd-requires c =
    let a = c.args.self.now in
    let asks = c.requires.1 c.if-verdict-ne0.false in
    let w = asks.chains in (
      rw (back a c.args.k asks.standing) asks.standing.d_small,
      rw (c.hears-s.ensures w.st w.survivors)
          (of_more (length a.stations.now) most_stations _ w.survivors.few (heard_few a.radius a.stations.now a.d.now c.args.k w.st w.survivors.standing)),
    )

pub returns-then-is_odd : goal.returns-then-is_odd
unfolding after_buddies
returns-then-is_odd c st survivors =
    let asks = c.requires.1 c.if-verdict-ne0.false in
    let odd = rw (back c.args.self.now c.args.k asks.standing, c.hears-s.ensures st survivors) at c.is_odd.ensures in
    rw (eq-eqb _ _ c.if-verdict-ne0.false, sym odd ∙ c.if-is_odd.true)

pub returns-else-is_odd : goal.returns-else-is_odd
unfolding after_buddies
returns-else-is_odd c st survivors =
    let e = c.if-verdict-ne0.false in
    let asks = c.requires.1 e in
    let odd = rw (back c.args.self.now c.args.k asks.standing, c.hears-s.ensures st survivors) at c.is_odd.ensures in
    rw (eq-eqb _ _ e, sym odd ∙ c.if-is_odd.false) (sym e)
