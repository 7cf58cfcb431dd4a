use Rattle.std.proofs.Common.{arith, length, ap, sym, ◌∙◌, w32, rules}
use Rattle.std.proofs.lemmas.Int.{to_z-of_z}
use Rattle.std.proofs.lemmas.Result.{err_from_is_err_and}
use Rattle.c_lexer.specs.declared.token.TokenKind.TheVariants.{Name, Char}
use Rattle.c_parser_phrases.proofs.Made.{when_read}
use Rattle.c_parser_phrases.proofs.Leaves.{leaf_made, leaf_refuses, name_read, int_read, char_read, strings_read}
use Rattle.c_parser_phrases.proofs.RefusalsOfSpecifiers.{leaf_no_memory, no_leaf_left, mark_no_leaf, word_no_leaf, name_no_string, int_no_string, char_no_string}
use Rattle.c_parser_phrases.proofs.cursor.Cursor.leaf.Goals as goal

pub returns-in_ok-bytes-in-Name-clause-parses : goal.returns-in_ok-bytes-in-Name-clause-parses
returns-in_ok-bytes-in-Name-clause-parses c = leaf_made c.leaf_node.result c.leaf_node.ensures.makes (name_read c.in-Some.ensures.cases.0 (c.in-Name.is ∙ ap Name (sym (c.in_ok-bytes-in-Name.ensures ∙ c.as_slice.ensures))))

pub returns-in-Int-clause-parses : goal.returns-in-Int-clause-parses
returns-in-Int-clause-parses c = leaf_made c.leaf_node-in-Int.result c.leaf_node-in-Int.ensures.makes (int_read c.in-Some.ensures.cases.0 c.in-Int.is)

pub returns-in-Char-clause-parses : goal.returns-in-Char-clause-parses
returns-in-Char-clause-parses c = leaf_made c.leaf_node-in-Char.result c.leaf_node-in-Char.ensures.makes (char_read c.in-Some.ensures.cases.0 (c.in-Char.is ∙ ap Char (sym (to_z-of_z w32 c.in-Char.value (search rules)))))

pub returns-in_ok-joined-in-Str-clause-parses : goal.returns-in_ok-joined-in-Str-clause-parses
returns-in_ok-joined-in-Str-clause-parses c = leaf_made c.leaf_node-in-Str.result c.leaf_node-in-Str.ensures.makes (strings_read c.in-Some.ensures.cases.0 c.in-Str.is c.as_slice-in-Str.ensures c.in_ok-joined-in-Str.ensures.took)

pub returns-in_ok-bytes-in-Name-clause-ends : goal.returns-in_ok-bytes-in-Name-clause-ends
returns-in_ok-bytes-in-Name-clause-ends c = when_read c.leaf_node.result (name_no_string c.in-Some.ensures.cases.0 c.in-Name.is)

pub returns-in-Int-clause-ends : goal.returns-in-Int-clause-ends
returns-in-Int-clause-ends c = when_read c.leaf_node-in-Int.result (int_no_string c.in-Some.ensures.cases.0 c.in-Int.is)

pub returns-in-Char-clause-ends : goal.returns-in-Char-clause-ends
returns-in-Char-clause-ends c = when_read c.leaf_node-in-Char.result (char_no_string c.in-Some.ensures.cases.0 c.in-Char.is)

pub returns-in_ok-joined-in-Str-clause-ends : goal.returns-in_ok-joined-in-Str-clause-ends
returns-in_ok-joined-in-Str-clause-ends c = when_read c.leaf_node-in-Str.result (λ z. c.in_ok-joined-in-Str.ensures.ends)

pub returns-in_default-clause-refuses : goal.returns-in_default-clause-refuses
returns-in_default-clause-refuses c = no_leaf_left _ c.in_default.ensures.cases

pub returns-in-Punct-clause-refuses : goal.returns-in-Punct-clause-refuses
returns-in-Punct-clause-refuses c = mark_no_leaf c.in-Some.ensures.cases.0 c.in-Punct.is

pub returns-in-Keyword-clause-refuses : goal.returns-in-Keyword-clause-refuses
returns-in-Keyword-clause-refuses c = word_no_leaf c.in-Some.ensures.cases.0 c.in-Keyword.is

pub returns-in_err-bytes-in-Name-clause-refuses : goal.returns-in_err-bytes-in-Name-clause-refuses
returns-in_err-bytes-in-Name-clause-refuses c = let w = err_from_is_err_and c.from_residual.result c.from_residual.ensures.1 in rw (w.1, w.2) leaf_no_memory

pub returns-in_ok-bytes-in-Name-clause-refuses : goal.returns-in_ok-bytes-in-Name-clause-refuses
returns-in_ok-bytes-in-Name-clause-refuses c = leaf_refuses _ _ c.leaf_node.result c.leaf_node.ensures.makes

pub returns-in-Int-clause-refuses : goal.returns-in-Int-clause-refuses
returns-in-Int-clause-refuses c = leaf_refuses _ _ c.leaf_node-in-Int.result c.leaf_node-in-Int.ensures.makes

pub returns-in-Char-clause-refuses : goal.returns-in-Char-clause-refuses
returns-in-Char-clause-refuses c = leaf_refuses _ _ c.leaf_node-in-Char.result c.leaf_node-in-Char.ensures.makes

pub returns-in_err-joined-in-Str-clause-refuses : goal.returns-in_err-joined-in-Str-clause-refuses
returns-in_err-joined-in-Str-clause-refuses c = let w = err_from_is_err_and c.from_residual-in_err-joined-in-Str.result c.from_residual-in_err-joined-in-Str.ensures.1 in rw (w.1, w.2) leaf_no_memory

pub returns-in_ok-joined-in-Str-clause-refuses : goal.returns-in_ok-joined-in-Str-clause-refuses
returns-in_ok-joined-in-Str-clause-refuses c = leaf_refuses _ _ c.leaf_node-in-Str.result c.leaf_node-in-Str.ensures.makes

pub returns-in_ok-bytes-in-Name-clause-shorter : goal.returns-in_ok-bytes-in-Name-clause-shorter
returns-in_ok-bytes-in-Name-clause-shorter c = when_read c.leaf_node.result (omega (arith, ap length c.in-Some.ensures.cases.0))

pub returns-in-Int-clause-shorter : goal.returns-in-Int-clause-shorter
returns-in-Int-clause-shorter c = when_read c.leaf_node-in-Int.result (omega (arith, ap length c.in-Some.ensures.cases.0))

pub returns-in-Char-clause-shorter : goal.returns-in-Char-clause-shorter
returns-in-Char-clause-shorter c = when_read c.leaf_node-in-Char.result (omega (arith, ap length c.in-Some.ensures.cases.0))

pub returns-in_ok-joined-in-Str-clause-shorter : goal.returns-in_ok-joined-in-Str-clause-shorter
returns-in_ok-joined-in-Str-clause-shorter c = when_read c.leaf_node-in-Str.result (omega (arith, ap length c.in-Some.ensures.cases.0, c.in_ok-joined-in-Str.ensures.shorter))
