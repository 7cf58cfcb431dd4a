use Rattle.model_file.proofs.LawLemmas.{not_refused}
use Rattle.model_file.proofs.UniqueLemmas.{one_graph}
use Rattle.model_file.proofs.laws.a_text_has_one_model.Goals as goal

pub returns-clause-one : goal.returns-clause-one
returns-clause-one c text g h is_g is_h = one_graph text is_g.version is_h.version g h is_g.is is_h.is

pub returns-clause-accepted : goal.returns-clause-accepted
returns-clause-accepted c text g error is refusal = not_refused text g error is refusal

pub returns-clause-written : goal.returns-clause-written
returns-clause-written c version text g is valid short = record { version = version; is = is; valid = valid; short = short }
