use Rattle.certify_file.specs.CertificateText.{which_line}
use Rattle.certify_file.specs.Lines.{IsAnyJudge}
use Rattle.certify_file.proofs.LineLemmas.{which_ended}
use Rattle.certify_file.proofs.Parts.{whole_line}
use Rattle.certify_file.proofs.head.read_which_line.Goals as goal

pub returns : goal.returns
returns c = whole_line IsAnyJudge which_line c.args.line.now _ which_ended c.requires _ c.take_which_line.ensures
