-- A certificate as contracts see it.
use Rattle.std.specs.Prelude.{List}
use Rattle.dm_base.specs.declared.verdict.Verdict.{Verdict}
use Rattle.certify_facts.specs.declared.fact.FactLine.{FactLine}
use Rattle.certify_facts.specs.declared.fact.Judge.{Judge}

-- the model that judges, the verdict that is claimed, and the facts with their reasons
pub record Told : Type 0 where
  pub judge : Judge
  pub verdict : Verdict
  pub lines : List FactLine
