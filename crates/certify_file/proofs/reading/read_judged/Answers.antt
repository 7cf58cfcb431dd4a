use Rattle.std.proofs.Common.{List, ℕ, ◌++◌, sym, subst}
use Rattle.certify_file.specs.declared.error.CertificateError.{CertificateError}
use Rattle.certify_file.specs.CertificateText.{certificate_head, which_line}
use Rattle.certify_file.specs.Lines.{IsAnyJudge, IsLinesRefusal}
use Rattle.certify_file.proofs.FileLemmas.{line_stands, which_missed}
use Rattle.certify_file.proofs.HeadLemmas.{IsReadAfter}
use Rattle.certify_file.proofs.reading.read_judged.Goals as goal

pub returns-in-Ok : goal.returns-in-Ok
returns-in-Ok c =
    let is = line_stands IsAnyJudge which_line c.in-Ok.judge c.args.text.now c.first_line.result.0.now c.first_line.result.1.now c.first_line.ensures c.in-Ok.ensures in
    subst (λ (t : List ℕ). IsReadAfter t c.read_claimed.result) (sym is) c.read_claimed.ensures

pub returns-in-Err : goal.returns-in-Err
returns-in-Err c =
    subst (λ (error : CertificateError). IsLinesRefusal error (certificate_head ++ c.args.text.now)) (sym c.refusal_after.ensures)
    (which_missed c.args.text.now c.first_line.result.0.now c.first_line.result.1.now c.in-Err.miss c.first_line.ensures c.in-Err.ensures)
