-- For private contracts and proofs alone: the lines of a model after that of the nodes, and which may follow which.
use Rattle.std.specs.Prelude.{◌≡◌, ℕ, List, Option, IfSome}
use Rattle.std.specs.declared.cmp.Ordering.TheVariants.{Less}
use Rattle.std.specs.Ordering.{nat_cmp}
use Rattle.flow_model.specs.declared.records.SilentEdge.{SilentEdge}
use Rattle.flow_model.specs.declared.records.SysEdge.{SysEdge}
use Rattle.flow_model.specs.Order.{silent_order, sys_order}
use Rattle.model_file.specs.declared.lines.ModelLine.{ModelLine}
use Rattle.model_file.specs.declared.lines.ModelLine.TheVariants as lines
use Rattle.model_file.specs.declared.lines.Section.{Section}
use Rattle.model_file.specs.declared.lines.Section.TheVariants as sections
use Rattle.model_file.specs.declared.version.ModelVersion.{ModelVersion}
use Rattle.model_file.specs.ModelText.{silent_line, sys_line, call_line, start_line, IsSmall, IsSpelledSilent, IsSpelledSys, IsSpelledCall}

abbrev pub model_line : ModelVersion → ModelLine → List ℕ
model_line version (lines.Silent e) = silent_line e
model_line version (lines.Sys e) = sys_line version e
model_line version (lines.Call c) = call_line c
model_line version (lines.Start start) = start_line start

-- where a silent edge was the last, it goes before this one
abbrev pub IsAfterSilent : Option SilentEdge → SilentEdge → Type 0
IsAfterSilent last e = IfSome last (λ d. silent_order d e ≡ Less)

abbrev pub IsAfterSys : Option SysEdge → SysEdge → Type 0
IsAfterSys last e = IfSome last (λ d. sys_order d e ≡ Less)

abbrev pub IsAfterSite : Option ℕ → ℕ → Type 0
IsAfterSite last site = IfSome last (λ s. nat_cmp s site ≡ Less)

-- the lines that may follow where the last line is one of silent edges, of system-call edges, or of call edges
abbrev pub MayFollow : ModelVersion → Section → ModelLine → Type 0
MayFollow version (sections.Silent last) (lines.Silent e) = IsSpelledSilent e × IsAfterSilent last e
MayFollow version (sections.Silent last) (lines.Sys e) = IsSpelledSys version e
MayFollow version (sections.Silent last) (lines.Call c) = IsSpelledCall c
MayFollow version (sections.Silent last) (lines.Start start) = IsSmall start
MayFollow version (sections.Sys last) (lines.Silent e) = ⊥
MayFollow version (sections.Sys last) (lines.Sys e) = IsSpelledSys version e × IsAfterSys last e
MayFollow version (sections.Sys last) (lines.Call c) = IsSpelledCall c
MayFollow version (sections.Sys last) (lines.Start start) = IsSmall start
MayFollow version (sections.Call last) (lines.Silent e) = ⊥
MayFollow version (sections.Call last) (lines.Sys e) = ⊥
MayFollow version (sections.Call last) (lines.Call c) = IsSpelledCall c × IsAfterSite last c.site
MayFollow version (sections.Call last) (lines.Start start) = IsSmall start
