use Rattle.model_file.proofs.SingleLemmas.{no_second_version}
use Rattle.model_file.proofs.single.read_version_line.Goals as goal

pub returns-in-Err : goal.returns-in-Err
returns-in-Err c = no_second_version c.args.line.now c.in-Err.miss (rw c.in-Err-Wrong.field-0-is at c.in-Err-Wrong.ensures) c.in-Err.ensures
