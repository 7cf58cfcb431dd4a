use Rattle.tool_files.proofs.PairLemmas.{all_judged_of_file}
use Rattle.tool_models.proofs.judge_command.judge_asked.Goals as goal

pub returns-in-All-clause-judged : goal.returns-in-All-clause-judged
returns-in-All-clause-judged g c =
    rw c.in-All.is (all_judged_of_file c.follow_by-in-All.result (g.S.Store.files c.args.store.now) c.args.trace.now c.args.model.now c.args.bound c.follow_by-in-All.ensures.told)
