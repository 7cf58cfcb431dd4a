use Rattle.std.proofs.Common.{List, ℕ, ◌++◌, sym, subst}
use Rattle.certify_facts.specs.Form.{IsCounted}
use Rattle.certify_file.specs.declared.error.CertificateError.{CertificateError}
use Rattle.certify_file.specs.CertificateText.{certificate_head, verdict_line, which_line}
use Rattle.certify_file.specs.Lines.{IsLinesRefusal}
use Rattle.certify_file.proofs.FileLemmas.{line_stands, verdict_missed}
use Rattle.certify_file.proofs.HeadLemmas.{IsReadAfter}
use Rattle.certify_file.proofs.reading.read_claimed.Goals as goal

pub returns-in-Ok : goal.returns-in-Ok
returns-in-Ok c =
    let is = line_stands IsCounted verdict_line c.in-Ok.verdict c.args.text.now c.first_line.result.0.now c.first_line.result.1.now c.first_line.ensures c.in-Ok.ensures in
    subst (λ (t : List ℕ). IsReadAfter (which_line c.args.judge ++ t) c.read_facts.result) (sym is) c.read_facts.ensures

pub returns-in-Err : goal.returns-in-Err
returns-in-Err c =
    subst (λ (error : CertificateError). IsLinesRefusal error (certificate_head ++ (which_line c.args.judge ++ c.args.text.now))) (sym c.refusal_after.ensures)
    (verdict_missed c.args.judge c.args.text.now c.first_line.result.0.now c.first_line.result.1.now c.in-Err.miss c.first_line.ensures c.in-Err.ensures)
