use Rattle.std.proofs.Common.{rules}
use Rattle.c_lexer.proofs.WordTables.{slice_get_now}
use Rattle.c_lexer.proofs.words.word_at.Goals as goal

pub returns : goal.returns
returns c = search (rules, slice_get_now, c.requires)
