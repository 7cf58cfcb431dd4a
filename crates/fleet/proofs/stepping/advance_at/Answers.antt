use Rattle.fleet.proofs.PlaceLemmas.{at_defaults}
use Rattle.fleet.proofs.stepping.advance_at.Goals as goal

pub bounds-watches-group : goal.bounds-watches-group
bounds-watches-group g c = c.requires.group c.index-processes-place.result

pub advance-answer-requires : goal.advance-answer-requires
advance-answer-requires g c = c.requires.ready c.index-processes-place.result c.index-watches-group.result

pub returns : goal.returns
returns g c d e =
    at_defaults g.M.Monitor c.args.processes.now c.args.watches.now c.args.place d c.index-processes-place.result c.advance-answer.new.process e c.index-watches-group.result c.advance-answer.new.watch c.advance-answer.result c.requires.place (c.requires.group c.index-processes-place.result) (record {
      records = c.advance-answer.ensures.records;
      same = c.advance-answer.ensures.same;
      at = c.advance-answer.ensures.at;
      exact = c.advance-answer.ensures.exact;
      kept = c.advance-answer.ensures.kept;
      failed = c.advance-answer.ensures.failed;
      fails = c.advance-answer.ensures.fails;
    })
