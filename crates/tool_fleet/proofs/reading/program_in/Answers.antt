use Rattle.tool_fleet.proofs.ReadingLemmas.{program_accepted}
use Rattle.tool_fleet.proofs.reading.program_in.Goals as goal

pub returns-clause-read : goal.returns-clause-read
returns-clause-read g c =
    program_accepted (g.S.Store.files c.args.store.now) c.args.name.now c.in_ok-source.source c.program_of_source.result c.program_of_source.ensures c.in_ok-source.ensures.read
