-- `scan_smoothing::smooth` meets its contract: each turn makes a row from three old ones, of which two are kept.
use Rattle.std.proofs.Common.{◌+◌, ◌*◌, ◌<◌, ◌≡◌, arith, refl, replicate, pos}
use Rattle.scheme.specs.Units.{most_side}
use Rattle.scan_smoothing.specs.Pass.{Kept, blank_room, keeps, first_row, row_next, last_row}
use Rattle.scan_smoothing.proofs.smooth.Goals as goal

pub loop-j-init : goal.loop-j-init
loop-j-init c =
    let z = c.args.z.now in
    let nx = c.args.nx in (
      first_row z nx c.args.ny,
      keeps z z nx 0 0 (replicate most_side (pos 0)) c.keep_row.new.row (omega arith) (λ k h. refl) (blank_room nx) c.keep_row.ensures,
      blank_room nx,
    )

pub loop-j-preserved : goal.loop-j-preserved
loop-j-preserved c =
    let l = c.args.z.now in
    let nx = c.args.nx in
    let j = c.loop-j.j in
    let below : (j + 1) * nx + nx ≡ (j + 2) * nx = omega arith in
    let more : j + 2 < c.args.ny = omega arith in
    let here = c.keep_row-in-loop-j.new.row in
    let row : Kept l nx (j + 1) here = keeps l c.loop-j.z nx (j + 1) ((j + 1) * nx) c.loop-j.here here refl c.loop-j.invariant.0.rest c.loop-j.invariant.2 c.keep_row-in-loop-j.ensures in (
      row_next l nx c.args.ny j c.requires.0.two_columns more c.loop-j.z c.loop-j.invariant.0 c.loop-j.above here c.loop-j.invariant.1 row
          ((j + 1) * nx + 1) ((j + 1) * nx + nx) c.smooth_row.new.z refl below c.smooth_row.ensures,
      row,
      row.room,
    )

pub returns : goal.returns
returns c = last_row c.args.z.now c.args.nx c.args.ny c.loop-j.j c.loop-j.z c.requires.0 (omega arith) c.loop-j.invariant.0
