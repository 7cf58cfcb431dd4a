use Rattle.c_rules_laws.proofs.text_laws.accepted_texts_are_well_typed.Goals as goal

pub returns : goal.returns
returns c text m p h = c.units_are_well_typed.ensures h.unit m p (c.a_spelled_unit_is_lexical.ensures text m h.tokens h.unit h.lexed h.spelled) h.typed
