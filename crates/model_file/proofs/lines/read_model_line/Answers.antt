use Rattle.model_file.specs.Lines.{model_line, MayFollow}
use Rattle.model_file.proofs.Narrowing.{whole_line}
use Rattle.model_file.proofs.KindLemmas.{ends_in_feed}
use Rattle.model_file.proofs.lines.read_model_line.Goals as goal

pub returns : goal.returns
returns c = whole_line (MayFollow c.args.version c.args.section.now) (model_line c.args.version) c.args.line.now c.take_model_line.new.cursor.rest.now c.requires (ends_in_feed c.args.version) c.take_model_line.result c.take_model_line.ensures
