-- No model is refused and drawn too, and it is refused with one status.
use Rattle.std.proofs.Common.{◌≡◌, ℕ, ◌<◌, List, length, Option, Some, None, inl, inr, refl, sym, ◌∙◌, ap, subst, arith}
use Rattle.dm_base.specs.declared.verdict.Status.{Status}
use Rattle.dm_base.specs.declared.verdict.Status.TheVariants as statuses
use Rattle.dm_io.specs.Store.{Files, file_at}
use Rattle.model_file.specs.Refusal.{longest}
use Rattle.model_file.proofs.UniqueLemmas.{one_graph}
use Rattle.model_picture.specs.Picture.{picture}
use Rattle.tool_files.proofs.InputLemmas.{model_or_refused}
use Rattle.tool_reading.specs.Picture.{Pictures, RefusesToPicture, IsReadyToPicture}

pub picture_apart : (told : Files) (name text line : List ℕ) (status : Status) → Pictures told name text → RefusesToPicture (Some told) name status line → ⊥
picture_apart told name text line status makes (inl refuses) = model_or_refused told name refuses.0 (makes.0, makes.1) refuses.1 refuses.4
picture_apart told name text line status makes (inr refuses) =
    let same : (refuses.2).0 ≡ makes.0 = one_graph (file_at told name) ((refuses.2).1).version (makes.1).version (refuses.2).0 makes.0 ((refuses.2).1).is (makes.1).is in
    let long : longest < length text = subst (λ (w : List ℕ). longest < length w) (ap picture same ∙ sym makes.2) (refuses.2).2 in
    omega (arith, long, makes.3)

pub picture_ready : (told : Option Files) (name line : List ℕ) (status : Status) → IsReadyToPicture told name → RefusesToPicture told name status line → ⊥
picture_ready None name line status ready refuses = ready
picture_ready (Some told) name line status ready refuses = picture_apart told name (picture ready.0) line status (ready.0, ready.1, refl, ready.2) refuses

pub picture_status : (told : Option Files) (name line : List ℕ) (status : Status) → RefusesToPicture told name status line → status ≡ statuses.ModelRefused
picture_status told name line status (inl refuses) = refuses.2
picture_status told name line status (inr refuses) = refuses.0
