use Rattle.std.proofs.Common.{◌∙◌, sym}
use Rattle.stack_automaton.specs.contracts.place.FactPartialEq.TheImpl.{eq-value as fact_eq}
use Rattle.stack_automaton.proofs.FactLemmas.{any_contains, fact_exact, fact_same}
use Rattle.stack_automaton.proofs.fact_set.is_in.Goals as goal

pub returns : goal.returns
returns c = let is = any_contains fact_eq.it fact_exact fact_same c.args.index.now.keys c.args.fact in (
  λ holds. is.0 (sym c.contains.ensures ∙ holds),
  λ has. c.contains.ensures ∙ is.1 has,
)
