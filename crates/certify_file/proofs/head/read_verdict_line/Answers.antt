use Rattle.certify_facts.specs.Form.{IsCounted}
use Rattle.certify_file.specs.CertificateText.{verdict_line}
use Rattle.certify_file.proofs.LineLemmas.{verdict_ended}
use Rattle.certify_file.proofs.Parts.{whole_line}
use Rattle.certify_file.proofs.head.read_verdict_line.Goals as goal

pub returns : goal.returns
returns c = whole_line IsCounted verdict_line c.args.line.now _ verdict_ended c.requires _ c.take_verdict_line.ensures
