use Rattle.tool_files.specs.Monitors.{monitors_of}
use Rattle.tool_models.proofs.JudgedFiles.{watched_finished}
use Rattle.tool_models.proofs.watch_command.watch_traces.Goals as goal

pub returns-in-Ok-clause-finished : goal.returns-in-Ok-clause-finished
returns-in-Ok-clause-finished g c =
    let told = c.in-Ok.ensures.told in
    watched_finished (monitors_of c.args.asked) c.in_ok-graph.graph c.args.bound told.version told.records c.in-Ok.finished.status c.in-Ok.finished.text.items told.told
