use Rattle.std.proofs.Common.{◌≡◌, ◌^◌, ◌<◌, length, ◌∙◌, arith, rules}
use Rattle.fleet.proofs.GroupLemmas.{groups_count}
use Rattle.fleet.proofs.fleet.Fleet.groups.Goals as goal

pub overflow_cast-result : goal.overflow_cast-result
overflow_cast-result g c =
    let room = c.requires in
    let count = groups_count g.M.Monitor c.args.self.now room.0 room.1 room.2 in
    let len : c.len.result ≡ length c.args.self.now.watches.items = search rules in
    let few = room.2.narrow in
    let small : c.len.result < 2 ^ 32 = omega arith in
    search rules

pub returns : goal.returns
returns g c groups members s =
    let len : c.len.result ≡ length c.args.self.now.watches.items = search rules in
    len ∙ groups_count g.M.Monitor c.args.self.now groups members s
