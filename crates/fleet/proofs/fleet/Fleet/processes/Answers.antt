use Rattle.std.proofs.Common.{◌≡◌, ◌^◌, ◌<◌, length, ◌∙◌, arith, rules}
use Rattle.fleet.proofs.GroupLemmas.{members_count}
use Rattle.fleet.proofs.fleet.Fleet.processes.Goals as goal

pub overflow_cast-result : goal.overflow_cast-result
overflow_cast-result g c =
    let room = c.requires in
    let count = members_count g.M.Monitor c.args.self.now room.0 room.1 room.2 in
    let len : c.len.result ≡ length c.args.self.now.processes.items = search rules in
    let few = room.2.few in
    let small : c.len.result < 2 ^ 32 = omega arith in
    search rules

pub returns : goal.returns
returns g c groups members s =
    let len : c.len.result ≡ length c.args.self.now.processes.items = search rules in
    len ∙ members_count g.M.Monitor c.args.self.now groups members s
