use Rattle.c_lexer.specs.declared.keyword.TheConstants.{CHAR, INT, SIGNED, UNSIGNED, STRUCT, ENUM}
use Rattle.std.proofs.Common.{sym, ◌∙◌}
use Rattle.c_syntax.specs.Specifiers.{is_void, is_char, is_int, is_unsigned_char}
use Rattle.c_parser_phrases.proofs.Words.{consts_at, consts_end, signed_read, unsigned_read, struct_read, enum_read}
use Rattle.std.proofs.lemmas.Result.{err_from_is_err_and}
use Rattle.c_parser_phrases.proofs.Raising.{flat_as, flat_here}
use Rattle.c_parser_phrases.proofs.RefusalsOfSpecifiers.{void_leads, char_leads, int_leads, signed_leads, unsigned_char_leads, unsigned_leads, struct_leads, enum_leads, struct_nameless, enum_nameless, word_from, no_words_stand}
use Rattle.c_parser_phrases.proofs.cursor.Cursor.words.Goals as goal

pub returns-then-take_keyword-clause-took : goal.returns-then-take_keyword-clause-took
returns-then-take_keyword-clause-took c h k a b = is_void (consts_at (c.if-take_keyword.ensures.2) a) c.if-take_keyword.ensures.1 b

pub returns-then-take_keyword-2-clause-took : goal.returns-then-take_keyword-2-clause-took
returns-then-take_keyword-2-clause-took c h k a b = is_char (consts_at (sym c.if-take_keyword.ensures.1 ∙ c.if-take_keyword-2.ensures.2) a) c.if-take_keyword-2.ensures.1 b

pub returns-then-take_keyword-3-clause-took : goal.returns-then-take_keyword-3-clause-took
returns-then-take_keyword-3-clause-took c h k a b = is_int (consts_at (sym c.if-take_keyword.ensures.1 ∙ sym c.if-take_keyword-2.ensures.1 ∙ c.if-take_keyword-3.ensures.2) a) c.if-take_keyword-3.ensures.1 b

pub returns-then-take_keyword-4-clause-took : goal.returns-then-take_keyword-4-clause-took
returns-then-take_keyword-4-clause-took c h k a b =
    signed_read c.take_keyword-is_written.result (consts_at (sym c.if-take_keyword.ensures.1 ∙ sym c.if-take_keyword-2.ensures.1 ∙ sym c.if-take_keyword-3.ensures.1 ∙ c.if-take_keyword-4.ensures.2) a) c.if-take_keyword-4.ensures.1 c.consts.ensures.took c.take_keyword-is_written.ensures b

pub returns-then-take_keyword-6-clause-took : goal.returns-then-take_keyword-6-clause-took
returns-then-take_keyword-6-clause-took c h k a b =
    is_unsigned_char (consts_at (sym c.if-take_keyword.ensures.1 ∙ sym c.if-take_keyword-2.ensures.1 ∙ sym c.if-take_keyword-3.ensures.1 ∙ sym c.if-take_keyword-4.ensures.1 ∙ c.if-take_keyword-5.ensures.2) a) c.if-take_keyword-5.ensures.1 (consts_at c.if-take_keyword-6.ensures.2 c.consts-then-take_keyword-5.ensures.took) c.if-take_keyword-6.ensures.1 b

pub returns-then-take_keyword-5-clause-took : goal.returns-then-take_keyword-5-clause-took
returns-then-take_keyword-5-clause-took c h k a b =
    unsigned_read c.take_keyword-is_written-then-take_keyword-5.result (consts_at (sym c.if-take_keyword.ensures.1 ∙ sym c.if-take_keyword-2.ensures.1 ∙ sym c.if-take_keyword-3.ensures.1 ∙ sym c.if-take_keyword-4.ensures.1 ∙ c.if-take_keyword-5.ensures.2) a) c.if-take_keyword-5.ensures.1 (consts_end c.if-take_keyword-6.ensures.1 c.consts-then-take_keyword-5.ensures.took) c.take_keyword-is_written-then-take_keyword-5.ensures b

pub returns-then-take_keyword-7-clause-took : goal.returns-then-take_keyword-7-clause-took
returns-then-take_keyword-7-clause-took c h k a b = struct_read (consts_at (sym c.if-take_keyword.ensures.1 ∙ sym c.if-take_keyword-2.ensures.1 ∙ sym c.if-take_keyword-3.ensures.1 ∙ sym c.if-take_keyword-4.ensures.1 ∙ sym c.if-take_keyword-5.ensures.1 ∙ c.if-take_keyword-7.ensures.2) a) c.if-take_keyword-7.ensures.1 c.in_ok-name.ensures.parses b

pub returns-then-take_keyword-8-clause-took : goal.returns-then-take_keyword-8-clause-took
returns-then-take_keyword-8-clause-took c h k a b = enum_read (consts_at (sym c.if-take_keyword.ensures.1 ∙ sym c.if-take_keyword-2.ensures.1 ∙ sym c.if-take_keyword-3.ensures.1 ∙ sym c.if-take_keyword-4.ensures.1 ∙ sym c.if-take_keyword-5.ensures.1 ∙ sym c.if-take_keyword-7.ensures.1 ∙ c.if-take_keyword-8.ensures.2) a) c.if-take_keyword-8.ensures.1 c.in_ok-name-2.ensures.parses b

pub returns-then-take_keyword-clause-leads : goal.returns-then-take_keyword-clause-leads
returns-then-take_keyword-clause-leads c = void_leads (c.if-take_keyword.ensures.2) c.if-take_keyword.ensures.1

pub returns-then-take_keyword-2-clause-leads : goal.returns-then-take_keyword-2-clause-leads
returns-then-take_keyword-2-clause-leads c = char_leads (sym c.if-take_keyword.ensures.1 ∙ c.if-take_keyword-2.ensures.2) c.if-take_keyword-2.ensures.1

pub returns-then-take_keyword-3-clause-leads : goal.returns-then-take_keyword-3-clause-leads
returns-then-take_keyword-3-clause-leads c = int_leads (sym c.if-take_keyword.ensures.1 ∙ sym c.if-take_keyword-2.ensures.1 ∙ c.if-take_keyword-3.ensures.2) c.if-take_keyword-3.ensures.1

pub returns-then-take_keyword-4-clause-leads : goal.returns-then-take_keyword-4-clause-leads
returns-then-take_keyword-4-clause-leads c = signed_leads c.take_keyword-is_written.result (sym c.if-take_keyword.ensures.1 ∙ sym c.if-take_keyword-2.ensures.1 ∙ sym c.if-take_keyword-3.ensures.1 ∙ c.if-take_keyword-4.ensures.2) c.if-take_keyword-4.ensures.1 c.consts.ensures.took c.consts.ensures.ends c.take_keyword-is_written.ensures

pub returns-then-take_keyword-6-clause-leads : goal.returns-then-take_keyword-6-clause-leads
returns-then-take_keyword-6-clause-leads c = unsigned_char_leads (sym c.if-take_keyword.ensures.1 ∙ sym c.if-take_keyword-2.ensures.1 ∙ sym c.if-take_keyword-3.ensures.1 ∙ sym c.if-take_keyword-4.ensures.1 ∙ c.if-take_keyword-5.ensures.2) c.if-take_keyword-5.ensures.1 c.consts-then-take_keyword-5.ensures.took c.consts-then-take_keyword-5.ensures.ends c.if-take_keyword-6.ensures.2 c.if-take_keyword-6.ensures.1

pub returns-then-take_keyword-5-clause-leads : goal.returns-then-take_keyword-5-clause-leads
returns-then-take_keyword-5-clause-leads c = unsigned_leads c.take_keyword-is_written-then-take_keyword-5.result (sym c.if-take_keyword.ensures.1 ∙ sym c.if-take_keyword-2.ensures.1 ∙ sym c.if-take_keyword-3.ensures.1 ∙ sym c.if-take_keyword-4.ensures.1 ∙ c.if-take_keyword-5.ensures.2) c.if-take_keyword-5.ensures.1 c.consts-then-take_keyword-5.ensures.took c.consts-then-take_keyword-5.ensures.ends c.if-take_keyword-6.ensures.0 c.if-take_keyword-6.ensures.1 c.take_keyword-is_written-then-take_keyword-5.ensures

pub returns-then-take_keyword-7-clause-leads : goal.returns-then-take_keyword-7-clause-leads
returns-then-take_keyword-7-clause-leads c = struct_leads (sym c.if-take_keyword.ensures.1 ∙ sym c.if-take_keyword-2.ensures.1 ∙ sym c.if-take_keyword-3.ensures.1 ∙ sym c.if-take_keyword-4.ensures.1 ∙ sym c.if-take_keyword-5.ensures.1 ∙ c.if-take_keyword-7.ensures.2) c.if-take_keyword-7.ensures.1 c.in_ok-name.ensures.parses

pub returns-then-take_keyword-8-clause-leads : goal.returns-then-take_keyword-8-clause-leads
returns-then-take_keyword-8-clause-leads c = enum_leads (sym c.if-take_keyword.ensures.1 ∙ sym c.if-take_keyword-2.ensures.1 ∙ sym c.if-take_keyword-3.ensures.1 ∙ sym c.if-take_keyword-4.ensures.1 ∙ sym c.if-take_keyword-5.ensures.1 ∙ sym c.if-take_keyword-7.ensures.1 ∙ c.if-take_keyword-8.ensures.2) c.if-take_keyword-8.ensures.1 c.in_ok-name-2.ensures.parses

pub returns-in_err-name-clause-stops : goal.returns-in_err-name-clause-stops
returns-in_err-name-clause-stops c = let w = err_from_is_err_and c.from_residual.result c.from_residual.ensures.1 in rw (w.1, w.2) (flat_as c.in_err-name.ensures.stops (struct_nameless (sym c.if-take_keyword.ensures.1 ∙ sym c.if-take_keyword-2.ensures.1 ∙ sym c.if-take_keyword-3.ensures.1 ∙ sym c.if-take_keyword-4.ensures.1 ∙ sym c.if-take_keyword-5.ensures.1 ∙ c.if-take_keyword-7.ensures.2) c.if-take_keyword-7.ensures.1))

pub returns-in_err-name-2-clause-stops : goal.returns-in_err-name-2-clause-stops
returns-in_err-name-2-clause-stops c = let w = err_from_is_err_and c.from_residual-in_err-name-2.result c.from_residual-in_err-name-2.ensures.1 in rw (w.1, w.2) (flat_as c.in_err-name-2.ensures.stops (enum_nameless (sym c.if-take_keyword.ensures.1 ∙ sym c.if-take_keyword-2.ensures.1 ∙ sym c.if-take_keyword-3.ensures.1 ∙ sym c.if-take_keyword-4.ensures.1 ∙ sym c.if-take_keyword-5.ensures.1 ∙ sym c.if-take_keyword-7.ensures.1 ∙ c.if-take_keyword-8.ensures.2) c.if-take_keyword-8.ensures.1))

pub returns-clause-stops : goal.returns-clause-stops
returns-clause-stops c = flat_here (no_words_stand (c.if-take_keyword-8.ensures.1 ∙ c.if-take_keyword-7.ensures.1 ∙ c.if-take_keyword-5.ensures.1 ∙ c.if-take_keyword-4.ensures.1 ∙ c.if-take_keyword-3.ensures.1 ∙ c.if-take_keyword-2.ensures.1 ∙ c.if-take_keyword.ensures.1) c.requires c.if-take_keyword.ensures.0 (word_from CHAR (c.if-take_keyword.ensures.1) c.if-take_keyword-2.ensures.0) (word_from INT (c.if-take_keyword-2.ensures.1 ∙ c.if-take_keyword.ensures.1) c.if-take_keyword-3.ensures.0) (word_from SIGNED (c.if-take_keyword-3.ensures.1 ∙ c.if-take_keyword-2.ensures.1 ∙ c.if-take_keyword.ensures.1) c.if-take_keyword-4.ensures.0) (word_from UNSIGNED (c.if-take_keyword-4.ensures.1 ∙ c.if-take_keyword-3.ensures.1 ∙ c.if-take_keyword-2.ensures.1 ∙ c.if-take_keyword.ensures.1) c.if-take_keyword-5.ensures.0) (word_from STRUCT (c.if-take_keyword-5.ensures.1 ∙ c.if-take_keyword-4.ensures.1 ∙ c.if-take_keyword-3.ensures.1 ∙ c.if-take_keyword-2.ensures.1 ∙ c.if-take_keyword.ensures.1) c.if-take_keyword-7.ensures.0) (word_from ENUM (c.if-take_keyword-7.ensures.1 ∙ c.if-take_keyword-5.ensures.1 ∙ c.if-take_keyword-4.ensures.1 ∙ c.if-take_keyword-3.ensures.1 ∙ c.if-take_keyword-2.ensures.1 ∙ c.if-take_keyword.ensures.1) c.if-take_keyword-8.ensures.0))
