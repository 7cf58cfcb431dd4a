-- The file of a model, and why a text is none.
use Rattle.std.specs.Prelude.{◌≡◌, ◌⊎◌, ℕ, ◌<◌, ◌≤◌, List, length, codes}
use Rattle.line_text.specs.Files.{IsProperPrefix, IsBadLine, HasOtherVersion}
use Rattle.flow_model.specs.Graph.{Graph}
use Rattle.flow_model.specs.Rules.{IsValid, IsLeastBroken}
use Rattle.model_file.specs.declared.error.ModelError.{ModelError}
use Rattle.model_file.specs.declared.error.ModelError.TheVariants.{OutOfMemory, BadLine, Invalid, Truncated, TooLarge, Version}
use Rattle.model_file.specs.declared.version.ModelVersion.{ModelVersion}
use Rattle.model_file.specs.ModelText.{IsModelText, IsFormedModel}

-- the greatest length of a model's text, in bytes: 16 MiB
abbrev pub longest : ℕ
longest = 16777216

-- the text is that of the valid model, in some version, and no longer than may be
pub record IsModel (text : List ℕ) (g : Graph) : Type 0 where
  pub version : ModelVersion
  pub is : IsModelText version text g
  pub valid : IsValid g
  pub short : length text ≤ longest

abbrev pub HasOtherModelVersion : List ℕ → Type 0
HasOtherModelVersion text = HasOtherVersion (codes "dyckmon-model ") (λ n. (n ≡ 1) ⊎ (n ≡ 2)) text

-- why a text is refused: its length comes first, then another version, then a bad line, then that it ends too early, then the least rule that its lists break
abbrev pub IsModelRefusal : ModelError → List ℕ → Type 0
IsModelRefusal OutOfMemory text = Unit {0}
IsModelRefusal TooLarge text = longest < length text
IsModelRefusal Version text = (length text ≤ longest) × HasOtherModelVersion text
IsModelRefusal (BadLine k) text = (length text ≤ longest) × (HasOtherModelVersion text → ⊥) × IsBadLine IsFormedModel text k
IsModelRefusal Truncated text = (length text ≤ longest) × IsProperPrefix IsFormedModel text
IsModelRefusal (Invalid rule) text = (length text ≤ longest) × ((version : ModelVersion) × (g : Graph) × IsModelText version text g × IsLeastBroken g rule)
