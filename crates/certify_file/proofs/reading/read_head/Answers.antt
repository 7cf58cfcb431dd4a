use Rattle.std.proofs.Common.{sym, ◌∙◌, subst}
use Rattle.std.proofs.lemmas.Bool.{false≢true}
use Rattle.certify_file.specs.declared.error.CertificateError.{CertificateError}
use Rattle.certify_file.specs.Lines.{IsHeadRefusal}
use Rattle.certify_file.proofs.HeadLemmas.{head_whole, head_refused}
use Rattle.certify_file.proofs.reading.read_head.Goals as goal

pub returns-in-Ok : goal.returns-in-Ok
returns-in-Ok c = head_whole c.args.line.now c.take.new.self.rest.now c.requires c.in-Ok.ensures.reads.stands

pub returns-in-Err : goal.returns-in-Err
returns-in-Err c =
    subst (λ (error : CertificateError). IsHeadRefusal error c.args.line.now) (sym c.refusal_after.ensures)
    (head_refused c.args.line.now c.take.new.self.rest.now c.in-Err.miss (λ other. false≢true (sym c.if-has_other_number.false ∙ c.has_other_number.ensures.1 other)) c.in-Err.ensures.memory c.in-Err.ensures.reads)
