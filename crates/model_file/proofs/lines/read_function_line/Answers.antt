use Rattle.std.proofs.Common.{◌∷◌, ◌++◌, decimal, refl}
use Rattle.std.specs.Prelude.{codes}
use Rattle.model_file.specs.ModelText.{IsSpelledFunction, function_line}
use Rattle.model_file.proofs.Narrowing.{whole_line}
use Rattle.model_file.proofs.lines.read_function_line.Goals as goal

pub returns : goal.returns
returns c = whole_line IsSpelledFunction function_line c.args.line.now c.take_function_line.new.cursor.rest.now c.requires (λ f. (codes "f " ++ f.name ++ 32 ∷ decimal f.entry ++ 32 ∷ decimal f.exit, refl)) c.take_function_line.result c.take_function_line.ensures
