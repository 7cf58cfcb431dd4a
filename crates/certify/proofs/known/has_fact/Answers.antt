use Rattle.std.proofs.Common.{◌∙◌, sym}
use Rattle.certify_facts.specs.contracts.fact.FactPartialEq.TheImpl.{eq-value as fact_eq}
use Rattle.certify.proofs.KnownLemmas.{any_contains, fact_exact, fact_same}
use Rattle.certify.proofs.known.has_fact.Goals as goal

pub returns : goal.returns
returns c = let is = any_contains fact_eq.it fact_exact fact_same c.args.known.now.keys c.args.fact in (
  λ holds. is.0 (sym c.contains.ensures ∙ holds),
  λ has. c.contains.ensures ∙ is.1 has,
)
