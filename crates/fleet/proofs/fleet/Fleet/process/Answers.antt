use Rattle.std.proofs.Common.{refl}
use Rattle.std.proofs.lemmas.List.Elements.{All-nil}
use Rattle.sys_table.specs.Table.{IsRecorded}
use Rattle.c_tree.specs.View.{program_of}
use Rattle.c_meaning.specs.Runs.{no_marks}
use Rattle.fleet.proofs.GroupLemmas.{stands_process, process_room}
use Rattle.fleet.proofs.fleet.Fleet.process.Goals as goal

pub returns-clause-stands : goal.returns-clause-stands
returns-clause-stands g c groups members s =
    let room = c.requires in
    let p = program_of c.args.program.now in
    let there = process_room g.M.Monitor c.args.self.now room.0 room.1 room.2 groups members s c.args.group c.args.pid room.3 room.4 room.5 in
    let typed = c.values_have_kinds.ensures.runs p c.sites-sites.result c.sites-sites.ensures.typed no_marks (λ site. (All-nil IsRecorded, All-nil IsRecorded)) c.args.results.now c.args.turns in
    stands_process g.M.Monitor c.args.self.now groups members s _ c.args.pid c.args.group p c.args.results.now c.args.turns c.in_ok-process.process there.0 there.1 there.2 c.in_ok-process.ensures typed c.in_ok-push.ensures.items refl refl
