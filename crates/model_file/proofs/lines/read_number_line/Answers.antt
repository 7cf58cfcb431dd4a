use Rattle.std.proofs.Common.{◌∷◌, [], ◌++◌, decimal, refl}
use Rattle.model_file.specs.ModelText.{IsSmall}
use Rattle.model_file.proofs.Narrowing.{whole_line}
use Rattle.model_file.proofs.lines.read_number_line.Goals as goal

pub returns : goal.returns
returns c = whole_line IsSmall (λ n. c.args.word.now ++ decimal n ++ 10 ∷ []) c.args.line.now c.take_word_number.new.cursor.rest.now c.requires.line (λ n. (c.args.word.now ++ decimal n, refl)) c.take_word_number.result c.take_word_number.ensures
