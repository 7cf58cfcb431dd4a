use Rattle.std.proofs.Common.{ℕ, List, subst}
use Rattle.certify_file.specs.CertificateText.{IsCertificateWithin, IsCertificateRefusal}
use Rattle.tool_reading.proofs.CertificateFiles.{certificate_of_file, stops_text}
use Rattle.tool_reading.proofs.certificates.certificate_in.Goals as goal

pub returns-in-Ok-clause-certificate : goal.returns-in-Ok-clause-certificate
returns-in-Ok-clause-certificate g c =
    certificate_of_file (g.S.Store.files c.args.store.now) c.args.name.now c.in_ok-text.text.items c.in-Ok.certificate c.in_ok-text.ensures.whole (subst (λ (w : List ℕ). IsCertificateWithin w c.in-Ok.certificate) c.deref.ensures.value c.in-Ok.ensures.read)

pub returns-clause-stop : goal.returns-clause-stop
returns-clause-stop g c =
    stops_text (g.S.Store.files c.args.store.now) c.args.name.now c.in_ok-text.text.items c.in-Err.error c.refused_with.result _ _ c.in_ok-text.ensures.whole (subst (IsCertificateRefusal c.in-Err.error) c.deref.ensures.value c.in-Err.ensures.refused) c.refused_with.ensures
