use Rattle.tool_texts.proofs.ExplainLemmas.{explains_what_checks}
use Rattle.tool_texts.proofs.laws.explain_refuses_as_check.Goals as goal

pub returns : goal.returns
returns c = explains_what_checks
