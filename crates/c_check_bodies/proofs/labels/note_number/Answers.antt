use Rattle.std.proofs.Common.{rules, w64}
use Rattle.std.proofs.lemmas.Int.{to_z-of_z}
use Rattle.c_check_bodies.proofs.LabelLemmas.{adds_as}
use Rattle.c_check_bodies.proofs.labels.note_number.Goals as goal

pub returns : goal.returns
returns c =
    adds_as c.args.numbers.now.keys c.insert.new.self.keys c.args.number _ (to_z-of_z w64 c.args.number (search rules)) c.in_ok-insert.ensures.updates.0
