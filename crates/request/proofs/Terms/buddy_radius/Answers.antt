-- `request::Terms::buddy_radius` meets its contract: B in range is a natural number. Assumes nothing.
use Rattle.scheme.specs.Units.{B}
use Rattle.request.proofs.Terms.buddy_radius.Goals as goal

pub returns-then-not-self : goal.returns-then-not-self
unfolding B
returns-then-not-self c = rw c.if-not-self.true
