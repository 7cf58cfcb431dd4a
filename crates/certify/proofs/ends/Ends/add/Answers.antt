use Rattle.certify.specs.Ends.{HasEnd}
use Rattle.certify.proofs.EndsLemmas.{end_added}
use Rattle.certify.proofs.ends.Ends.add.Goals as goal

pub returns : goal.returns
returns c = end_added (HasEnd c.args.self.now) (HasEnd c.take-facts.new.self) (HasEnd c.put.new.self) c.args.activation c.take-facts.result.items c.push.new.self.items c.args.fact
    c.take-facts.ensures.facts c.take-facts.ensures.others c.in_ok-push.ensures.items c.in_ok-put.ensures.facts c.in_ok-put.ensures.others
