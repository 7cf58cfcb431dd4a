use Rattle.certify_making.proofs.MadeLemmas.{begun_by}
use Rattle.certify_making.proofs.making.first_facts.Goals as goal

pub returns-clause-begun : goal.returns-clause-begun
returns-clause-begun c = begun_by c.args.judge c.args.model.now c.start_of.result c.new-facts.result.lines.items c.add.new.self.lines.items c.new-facts.ensures.empty c.in_ok-add.ensures.adds c.start_of.ensures.model c.start_of.ensures.start c.start_of.ensures.only
