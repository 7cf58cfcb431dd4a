-- For private contracts and proofs alone: what the fields of a certificate stand for, and what they keep.
use Rattle.std.specs.Prelude.{All}
use Rattle.certify_facts.specs.declared.certificate.Certificate.TheInside.{Inside}
use Rattle.certify_facts.specs.Form.{IsCounted, IsFormed}
use Rattle.certify_facts.specs.Told.{Told}

abbrev pub told_of : Inside → Told
told_of c = record { judge = c.model; verdict = c.claimed; lines = c.facts.items }

-- the verdict has a number that fits u32, and each line is formed
pub record IsWhole (c : Inside) : Type 0 where
  pub counted : IsCounted c.claimed
  pub formed : All (IsFormed c.model) c.facts.items
