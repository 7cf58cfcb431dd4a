use Rattle.certify_making.specs.Notes.{HasNote}
use Rattle.certify_making.proofs.KeyLemmas.{number_added}
use Rattle.certify_making.proofs.notes.Notes.add.Goals as goal

pub returns : goal.returns
returns c = number_added (HasNote c.args.self.now) (HasNote c.take-numbers.new.self) (HasNote c.put.new.self) c.args.key c.take-numbers.result.items c.push.new.self.items c.args.number
    c.take-numbers.ensures.numbers c.take-numbers.ensures.others c.in_ok-push.ensures.items c.in_ok-put.ensures.numbers c.in_ok-put.ensures.others
