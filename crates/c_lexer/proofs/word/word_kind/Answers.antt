use Rattle.std.proofs.lemmas.Bool.{both_ways}
use Rattle.c_lexer.proofs.WordLemmas.{word_is_name}
use Rattle.c_lexer.proofs.word.word_kind.Goals as goal

pub returns : goal.returns
returns c =
    word_is_name c.args.word.now c.in_ok-of.field-0 c.requires c.if-word-gt-LONGEST.false c.in_default.ensures
    (λ among. both_ways _ c.if-is_excluded_keyword.false (c.is_excluded_keyword.ensures.1 among))
    c.in_ok-of.ensures
