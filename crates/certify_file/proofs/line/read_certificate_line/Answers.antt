use Rattle.certify_file.specs.Lines.{IsCertificateLine, certificate_line}
use Rattle.certify_file.proofs.LineLemmas.{line_ended}
use Rattle.certify_file.proofs.Parts.{whole_line}
use Rattle.certify_file.proofs.line.read_certificate_line.Goals as goal

pub returns : goal.returns
returns c = whole_line (IsCertificateLine c.args.judge) certificate_line c.args.line.now _ (line_ended c.args.judge) c.requires _ c.take_certificate_line.ensures
