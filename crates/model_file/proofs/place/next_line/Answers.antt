use Rattle.std.proofs.Common.{◌≢◌, [], drop, refl, rules}
use Rattle.std.proofs.lemmas.List.{take_rest}
use Rattle.model_file.proofs.SingleLemmas.{next_place}
use Rattle.model_file.proofs.place.next_line.Goals as goal

pub returns-clause-some : goal.returns-clause-some
returns-clause-some c =
    let some : drop c.args.place.now.byte c.args.text.now ≢ [] = search rules in
    next_place c.args.text.now c.first_line.result.0.now c.first_line.result.1.now c.args.place.now _ c.requires.within some (rw (take_rest c.args.text.now c.args.place.now.byte) at c.first_line.ensures) refl refl
