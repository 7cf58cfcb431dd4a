use Rattle.std.proofs.Common.{◌≡◌, Some, length, sym, ◌∙◌, ap, arith, rules}
use Rattle.std.specs.Vec.{vec_len}
use Rattle.std.proofs.lemmas.Option.{slice_get-get_or}
use Rattle.fleet.proofs.GroupLemmas.{groups_count}
use Rattle.fleet.proofs.fleet.Fleet.watch.Goals as goal

pub index-requires : goal.index-requires
index-requires g c =
    let room = c.requires in
    let count = groups_count g.M.Monitor c.args.self.now room.0 room.1 room.2 in
    let len : vec_len c.args.self.now.watches ≡ length c.args.self.now.watches.items = search rules in
    let less = room.3 in
    omega arith

pub returns : goal.returns
returns g c =
    let room = c.requires in
    let count = groups_count g.M.Monitor c.args.self.now room.0 room.1 room.2 in
    let less = room.3 in
    slice_get-get_or c.args.self.now.watches.items c.args.group c.index.result.now (omega arith) ∙ ap Some (sym c.index.ensures)
