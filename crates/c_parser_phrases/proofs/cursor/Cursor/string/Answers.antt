use Rattle.std.proofs.Common.{refl, ap, ◌∙◌, ◌++◌}
use Rattle.c_parser_phrases.proofs.RefusalsOfSpecifiers.{empty_ranks, no_string_ranks}
use Rattle.c_parser_phrases.proofs.cursor.Cursor.string.Goals as goal

pub returns : goal.returns
returns c = (_, _, record { kind = c.in-Str.is }, c.in-Some.ensures.cases.0, c.in_ok-extend_from_slice.ensures.items ∙ ap (λ x. c.args.bytes.now.items ++ x) c.as_slice.ensures)

pub returns-in_default : goal.returns-in_default
returns-in_default c = (refl, refl, empty_ranks _ c.in_default.ensures.cases)

pub returns-in_default-kind : goal.returns-in_default-kind
returns-in_default-kind c = (refl, refl, no_string_ranks c.in-Some.ensures.cases.0 c.in_default-kind.not-Str)
