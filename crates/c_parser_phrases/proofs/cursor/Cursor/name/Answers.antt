use Rattle.std.proofs.Common.{refl, ap, sym, ◌∙◌}
use Rattle.c_lexer.specs.declared.token.TokenKind.TheVariants.{Name}
use Rattle.std.proofs.lemmas.Result.{err_from_is_err_and}
use Rattle.c_parser_phrases.proofs.Raising.{flat_here, flat_no_memory}
use Rattle.c_parser_phrases.proofs.RefusalsOfSpecifiers.{no_name_left, no_name_stands}
use Rattle.c_parser_phrases.proofs.cursor.Cursor.name.Goals as goal

pub returns-clause-parses : goal.returns-clause-parses
returns-clause-parses c = record {
  token = c.in-Some.token.now;
  names = record { name = record { kind = c.in-Name.is ∙ ap Name (sym (c.in_ok-name.ensures ∙ c.as_slice.ensures)) }; at = refl };
  stood = c.in-Some.ensures.cases.0;
}

pub returns-in_default-clause-stops : goal.returns-in_default-clause-stops
returns-in_default-clause-stops c = flat_here (no_name_left _ c.in_default.ensures.cases)

pub returns-in_default-kind-clause-stops : goal.returns-in_default-kind-clause-stops
returns-in_default-kind-clause-stops c = flat_here (no_name_stands c.in-Some.ensures.cases.0 c.in_default-kind.not-Name)

pub returns-in_err-name-clause-stops : goal.returns-in_err-name-clause-stops
returns-in_err-name-clause-stops c = let w = err_from_is_err_and c.from_residual.result c.from_residual.ensures.1 in rw (w.1, w.2) flat_no_memory
