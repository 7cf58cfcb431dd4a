use Rattle.c_rules_laws.specs.Programs.{calls_of_unit}
use Rattle.c_rules_laws.proofs.text_laws.accepted_texts_are_programs.Goals as goal

pub returns : goal.returns
returns c text m p h = (calls_of_unit m h.unit, c.a_typed_unit_is_a_program.ensures h.unit m p (c.a_spelled_unit_is_lexical.ensures text m h.tokens h.unit h.lexed h.spelled) h.typed)
