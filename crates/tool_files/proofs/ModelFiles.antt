-- A model file that was read up to one byte past its limit.
use Rattle.std.proofs.Common.{◌≡◌, ◌≢◌, ℕ, ◌≤◌, List, length, take, Option, Some, None, IfSome, refl, subst, ap, ◌∙◌, arith}
use Rattle.std.proofs.lemmas.List.{take_all, length-take}
use Rattle.dm_base.specs.declared.verdict.Status.TheVariants as statuses
use Rattle.dm_io.specs.Store.{Files, file_at, ReadsWhole}
use Rattle.flow_model.specs.Graph.{Graph}
use Rattle.model_file.specs.declared.error.ModelError.{ModelError}
use Rattle.model_file.specs.declared.error.ModelError.TheVariants.{OutOfMemory, BadLine, Invalid, Truncated, TooLarge, Version}
use Rattle.model_file.specs.Refusal.{longest, IsModel, IsModelRefusal}
use Rattle.tool_frame.specs.declared.stop.Stop.{Stop}
use Rattle.tool_frame.specs.declared.stop.Stop.TheVariants as stops
use Rattle.tool_files.specs.Inputs.{model_refusal, RefusesModel}
use Rattle.tool_files.specs.Reading.{IsStopOfModel, StopsModel}

-- what is read is the file where it is within the limit
text_is_file : (file text : List ℕ) → text ≡ take 16777217 file → length text ≤ longest → text ≡ file
text_is_file file text is short =
    let long : length file ≤ 16777217 = omega (arith, length-take 16777217 file, ap length is, short) in
    is ∙ take_all 16777217 file long

pub model_of_file : (told : Option Files) (name text : List ℕ) (g : Graph) → ReadsWhole told name 16777217 text → IsModel text g → IfSome told (λ files. IsModel (file_at files name) g)
model_of_file None name text g reads model = tt
model_of_file (Some files) name text g reads model = subst (λ (w : List ℕ). IsModel w g) (text_is_file (file_at files name) text reads model.short) model

refusal_of_file : (error : ModelError) (file text : List ℕ) → text ≡ take 16777217 file → IsModelRefusal error text → IsModelRefusal error file
refusal_of_file OutOfMemory file text is refusal = tt
refusal_of_file TooLarge file text is refusal = omega (arith, refusal, length-take 16777217 file, ap length is)
refusal_of_file Version file text is refusal = subst (IsModelRefusal Version) (text_is_file file text is refusal.0) refusal
refusal_of_file (BadLine k) file text is refusal = subst (IsModelRefusal (BadLine k)) (text_is_file file text is refusal.0) refusal
refusal_of_file Truncated file text is refusal = subst (IsModelRefusal Truncated) (text_is_file file text is refusal.0) refusal
refusal_of_file (Invalid rule) file text is refusal = subst (IsModelRefusal (Invalid rule)) (text_is_file file text is refusal.0) refusal

refusal_told : (told : Option Files) (name text : List ℕ) (error : ModelError) → ReadsWhole told name 16777217 text → IsModelRefusal error text → IfSome told (λ files. IsModelRefusal error (file_at files name))
refusal_told None name text error reads refusal = tt
refusal_told (Some files) name text error reads refusal = refusal_of_file error (file_at files name) text reads refusal

pub refuses_model : (told : Option Files) (name text line : List ℕ) (error : ModelError) → ReadsWhole told name 16777217 text → IsModelRefusal error text → error ≢ OutOfMemory → line ≡ model_refusal error → RefusesModel told name statuses.ModelRefused line
refuses_model told name text line error reads refusal named is = (error, named, refl, is, refusal_told told name text error reads refusal)

pub stops_model : (told : Option Files) (name text : List ℕ) (error : ModelError) (stop : Stop) (before after : ℕ) → ReadsWhole told name 16777217 text → IsModelRefusal error text → IsStopOfModel stop error → StopsModel stop told name before after
stops_model told name text error stops.Usage before after reads refusal why = why
stops_model told name text error (stops.Source line) before after reads refusal why = absurd why
stops_model told name text error (stops.Model line) before after reads refusal why = refuses_model told name text line.items error reads refusal why.0 why.1
stops_model told name text error (stops.Record line) before after reads refusal why = why
stops_model told name text error stops.Read before after reads refusal why = absurd why
stops_model told name text error stops.Write before after reads refusal why = why
stops_model told name text error stops.OutOfMemory before after reads refusal why = tt
