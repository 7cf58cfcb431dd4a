-- A model's text is not refused.
use Rattle.std.proofs.Common.{◌≡◌, ℕ, List, refl, subst, arith}
use Rattle.line_text.proofs.FirstLines.{through_begins}
use Rattle.flow_model.specs.Graph.{Graph}
use Rattle.flow_model.specs.Rules.{IsValid}
use Rattle.model_file.specs.declared.error.ModelError.{ModelError}
use Rattle.model_file.specs.declared.error.ModelError.TheVariants.{OutOfMemory, BadLine, Invalid, Truncated, TooLarge, Version}
use Rattle.model_file.specs.ModelText.{IsFormedModel}
use Rattle.model_file.specs.Refusal.{IsModel, IsModelRefusal}
use Rattle.flow_model.proofs.ValidModels.{none_broken}
use Rattle.model_file.proofs.ReadingLemmas.{has_our_version}
use Rattle.model_file.proofs.UniqueLemmas.{one_graph, no_longer}

pub not_refused : (text : List ℕ) (g : Graph) (error : ModelError) → IsModel text g → IsModelRefusal error text → error ≡ OutOfMemory
not_refused text g OutOfMemory is refusal = refl
not_refused text g TooLarge is refusal = absurd (omega (arith, is.short, refusal))
not_refused text g Version is refusal = absurd (has_our_version is.version text g is.is refusal.1)
not_refused text g (BadLine k) is refusal =
    let front = through_begins k text in
    absurd (refusal.2.bad (front.0, subst IsFormedModel front.1 (is.version, g, is.is)))
not_refused text g Truncated is refusal =
    let longer = refusal.1 in
    absurd (longer.1 (no_longer text longer.0 is.version longer.2.0 g longer.2.1 is.is longer.2.2))
not_refused text g (Invalid rule) is refusal =
    let broken = refusal.1 in
    absurd (none_broken broken.1 rule (subst IsValid (one_graph text is.version broken.0 g broken.1 is.is broken.2) is.valid) broken.3)
