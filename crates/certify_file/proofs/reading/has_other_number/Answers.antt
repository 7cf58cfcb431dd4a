use Rattle.std.proofs.lemmas.Bool.{false≢true}
use Rattle.certify_file.proofs.HeadLemmas.{number_tells}
use Rattle.certify_file.proofs.reading.has_other_number.Goals as goal

pub returns-in-Some : goal.returns-in-Some
returns-in-Some c = number_tells c.args.line.now c.in-Some.number c.in-Some.ensures.small c.in-Some.ensures.some

pub returns-in-None : goal.returns-in-None
returns-in-None c = (λ holds. absurd (false≢true holds), λ (n, small, other, stands). absurd (c.in-None.ensures.none n small stands))
