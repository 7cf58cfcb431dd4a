use Rattle.std.proofs.Common.{◌∙◌, sym}
use Rattle.stack_automaton.proofs.FactLemmas.{number_contains}
use Rattle.stack_automaton.proofs.follow.has_ended.Goals as goal

pub returns : goal.returns
returns c = let is = number_contains c.args.ended.now.keys c.args.function in (
  λ holds. is.0 (sym c.contains.ensures ∙ holds),
  λ has. c.contains.ensures ∙ is.1 has,
)
