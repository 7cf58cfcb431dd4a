-- What `picture` makes of a file that was read.
use Rattle.std.proofs.Common.{◌≡◌, ℕ, ◌<◌, ◌≤◌, List, length, Option, Some, None, IfSome, inr, refl}
use Rattle.dm_base.specs.declared.verdict.Status.TheVariants as statuses
use Rattle.dm_io.specs.Store.{Files, file_at}
use Rattle.flow_model.specs.Graph.{Graph}
use Rattle.model_file.specs.Refusal.{longest, IsModel}
use Rattle.model_picture.specs.Picture.{picture}
use Rattle.tool_frame.specs.declared.stop.Stop.TheVariants as stops
use Rattle.tool_reading.specs.Picture.{Pictures, RefusesToPicture, too_long}

pub pictures : (told : Option Files) (name text : List ℕ) (g : Graph) → IfSome told (λ files. IsModel (file_at files name) g) → text ≡ picture g → length text ≤ longest → IfSome told (λ files. Pictures files name text)
pictures None name text g is_model is short = tt
pictures (Some files) name text g is_model is short = (g, is_model, is, short)

pub is_too_long : (told : Option Files) (name line : List ℕ) (g : Graph) → IfSome told (λ files. IsModel (file_at files name) g) → longest < length (picture g) → line ≡ too_long → RefusesToPicture told name statuses.ModelRefused line
is_too_long told name line g is_model long is = inr (refl, is, with_model told is_model)
  where
    with_model : (t : Option Files) → IfSome t (λ files. IsModel (file_at files name) g) → IfSome t (λ files. (h : Graph) × IsModel (file_at files name) h × (longest < length (picture h)))
    with_model None is = tt
    with_model (Some files) is = (g, is, long)
