-- How precise a model is: how many system calls may come next after the first parts of a trace that it keeps, whose mean is the branching factor of Wagner and Dean (2001).
use Rattle.std.specs.Prelude.{◌≡◌, ◌↔◌, ℕ, ◌+◌, ◌<◌, ◌≤◌, List, ◌∷◌, [], ◌++◌, AllPairs, Contains, codes, decimal, length, slice_index_or, take}
use Rattle.std.specs.List.{sum}
use Rattle.dm_base.specs.declared.event.Event.{Event}
use Rattle.dm_base.specs.declared.event.Event.TheVariants.{Sys, Pre, Post}
use Rattle.flow_model.specs.declared.which.Which.{Which}
use Rattle.flow_model.specs.Graph.{Graph}
use Rattle.flow_model.specs.Language.{Reads}
use Rattle.flow_model.specs.Verdict.{IsAccepted}
use Rattle.report.specs.declared.precision.Precision.{Precision}
use Rattle.report.specs.VerdictLine.{word_of}
use Rattle.sys_table.specs.Table.{IsRecorded}

-- n is how many numbers below the limit have the property
pub record IsNumberOf (Has : ℕ → Type 0) (limit n : ℕ) : Type 0 where
  pub those : List ℕ
  pub rise : AllPairs (λ x y. x < y) those
  pub exact : (x : ℕ) → Contains those x ↔ ((x < limit) × Has x)
  pub count : n ≡ length those

-- the event is a system call with this name, such as a trace records
abbrev pub IsCall : ℕ → Event → Type 0
IsCall x (Sys name arguments outcome) = (name ≡ x) × IsRecorded (Sys name arguments outcome)
IsCall x (Pre site) = ⊥
IsCall x (Post site) = ⊥

-- the trace followed by some event with this name is in the language
abbrev pub MayComeNext : Which → Graph → List Event → ℕ → Type 0
MayComeNext which g t x = (e : Event) × IsCall x e × Reads which g (t ++ e ∷ [])

-- n is the number of names, of the 24 in the table of system calls, that may come next after the trace
abbrev pub IsNextCount : Which → Graph → List Event → ℕ → Type 0
IsNextCount which g t n = IsNumberOf (MayComeNext which g t) 24 n

-- n is that number where the trace is accepted, and 0 where it isn't
pub record IsNext (which : Which) (g : Graph) (bound : ℕ) (t : List Event) (n : ℕ) : Type 0 where
  pub accepted : IsAccepted which g bound t → IsNextCount which g t n
  pub refused : (IsAccepted which g bound t → ⊥) → n ≡ 0

-- the greatest number of calls that may be open in the Dyck model
abbrev pub precision_bound : ℕ
precision_bound = 1000

-- How many first parts of the trace are kept, and the sum over them of the number of names that may come next. The first part of j events is kept where its verdict is Accepted; then each shorter one is kept too.
pub record IsPrecision (which : Which) (g : Graph) (t : List Event) (p : Precision) : Type 0 where
  pub counts : List ℕ
  pub kept : (j : ℕ) → j ≤ length t → (j < length counts) ↔ IsAccepted which g precision_bound (take j t)
  pub within : length counts ≤ length t + 1
  pub names : (j d : ℕ) → j < length counts → IsNextCount which g (take j t) (slice_index_or counts j d)
  pub prefixes : p.prefixes ≡ length counts
  pub total : p.sum ≡ sum counts

-- `NAME prefixes N branching S`, and a line feed
abbrev pub precision_text : Which → Precision → List ℕ
precision_text which p = word_of which ++ codes " prefixes " ++ decimal p.prefixes ++ codes " branching " ++ decimal p.sum ++ codes "\n"

-- `next C S D` with the numbers of the callgraph, the abstract-stack and the Dyck model, and a line feed
abbrev pub next_text : ℕ → ℕ → ℕ → List ℕ
next_text callgraph stack dyck = codes "next " ++ decimal callgraph ++ codes " " ++ decimal stack ++ codes " " ++ decimal dyck ++ codes "\n"
