use Rattle.std.proofs.Common.{◌<◌, length, arith}
use Rattle.fleet.proofs.PlaceLemmas.{number_place, item_of}
use Rattle.fleet.proofs.places.place_of.Goals as goal

pub returns-clause-none : goal.returns-clause-none
returns-clause-none c has =
    let at = number_place c.args.processes.now c.args.pid has in
    let within : at.0 < length c.args.processes.now = at.1 in
    let item = item_of c.args.processes.now at.0 within in
    c.loop-place.invariant at.0 item (omega arith) (at.2 item)
