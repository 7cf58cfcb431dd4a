use Rattle.std.proofs.Common.{None}
use Rattle.std.proofs.lemmas.Option.{none-some}
use Rattle.trace_file.specs.declared.version.TracesVersion.TheVariants.{One}
use Rattle.fleet.proofs.RefusalLemmas.{copy_told, refused_told}
use Rattle.fleet.proofs.stepping.event_refused.Goals as goal

pub unreachable-requires : goal.unreachable-requires
unreachable-requires g c =
    let has = c.requires in
    none-some has.event (refused_told g.M.Monitor c.args.watch.now c.args.pid has None (c.in-None.ensures has.group.model has.group.bound One has.records has.verdict has.watch has.judged))

pub returns : goal.returns
returns g c = copy_told g.M.Monitor c.args.watch.now c.args.pid c.in-Some.event.now c.in-Some.ensures c.copy.result c.copy.ensures
