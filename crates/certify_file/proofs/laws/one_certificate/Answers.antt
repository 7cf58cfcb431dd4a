use Rattle.certify_file.proofs.FreeLemmas.{same_certificate}
use Rattle.certify_file.proofs.HeadLemmas.{not_refused}
use Rattle.certify_file.proofs.laws.one_certificate.Goals as goal

pub returns-clause-one : goal.returns-clause-one
returns-clause-one c text one other first then = same_certificate text one other first then

pub returns-clause-unrefused : goal.returns-clause-unrefused
returns-clause-unrefused c text one error within refusal = not_refused error text one within refusal
