use Rattle.c_rules_laws.proofs.Free.{makes_none}
use Rattle.c_rules_laws.proofs.text_laws.a_plain_text_makes_no_null_call.Goals as goal

pub returns : goal.returns
returns c = λ text p h. makes_none p (c.a_plain_program_calls_no_null_call.ensures h.unit p h.typed)
