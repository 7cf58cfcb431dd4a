-- For private contracts and proofs alone: which system-call edges may follow the last one, part by part.
use Rattle.std.specs.Prelude.{◌≡◌, ℕ, ℤ, ◌<◌, ◌≤◌, ◌≤ℤ◌, List, [], ◌∷◌, ◌++◌, Option, None, Some, IfSome, drop}
use Rattle.std.specs.declared.cmp.Ordering.{Ordering}
use Rattle.std.specs.declared.cmp.Ordering.TheVariants.{Less}
use Rattle.std.specs.List.{AllZip}
use Rattle.std.specs.Option.{option_cmp}
use Rattle.std.specs.Ordering.{nat_cmp, int_cmp, ordering_then}
use Rattle.dm_base.specs.Pattern.{pattern_cmp}
use Rattle.flow_model.specs.declared.records.SysEdge.{SysEdge}
use Rattle.sys_table.specs.declared.kinds.ArgKind.{ArgKind}
use Rattle.sys_table.specs.Table.{FitsEntry, IsRight}
use Rattle.model_file.specs.declared.version.ModelVersion.{ModelVersion}
use Rattle.model_file.specs.declared.version.ModelVersion.TheVariants.{One, Two}
use Rattle.model_file.specs.ModelText.{IsSpelledSys, HasPattern, entry_text}

-- the order of edges with the same first node, name and second node
abbrev pub pattern_order : SysEdge → SysEdge → Ordering
pattern_order d e = pattern_cmp d.args e.args

-- the order of edges with the same first node and name
abbrev pub end_order : SysEdge → SysEdge → Ordering
end_order d e = ordering_then (nat_cmp d.to e.to) (pattern_order d e)

-- the order of edges with the same first node
abbrev pub name_order : SysEdge → SysEdge → Ordering
name_order d e = ordering_then (nat_cmp d.name e.name) (end_order d e)

-- the edge goes after the last one, where there is one
abbrev pub IsAfter : (SysEdge → SysEdge → Ordering) → Option SysEdge → SysEdge → Type 0
IsAfter order last e = IfSome last (λ d. order d e ≡ Less)

-- edges of the version with this first node
abbrev pub BeginsAt : ModelVersion → ℕ → SysEdge → Type 0
BeginsAt version from e = IsSpelledSys version e × (e.from ≡ from)

-- and with this name
abbrev pub IsNamed : ModelVersion → ℕ → ℕ → SysEdge → Type 0
IsNamed version from name e = BeginsAt version from e × (e.name ≡ name)

-- and with this second node
abbrev pub EndsAt : ModelVersion → ℕ → ℕ → ℕ → SysEdge → Type 0
EndsAt version from name to e = IsNamed version from name e × (e.to ≡ to)

-- a pattern that a line of the version may have for the call
abbrev pub IsPattern : ModelVersion → ℕ → List (Option ℤ) → Type 0
IsPattern version name p = IsRight name p × HasPattern version p

-- some name, second node and pattern go after those of this edge
abbrev pub HasNameAfter : ModelVersion → SysEdge → Type 0
HasNameAfter version d = (name : ℕ) × (to : ℕ) × (p : List (Option ℤ)) × (name < 24) × (to < 4294967296) × IsPattern version name p × (ordering_then (nat_cmp d.name name) (ordering_then (nat_cmp d.to to) (pattern_cmp d.args p)) ≡ Less)

-- with the same name, some second node and pattern go after those of this edge
abbrev pub HasEndAfter : ModelVersion → SysEdge → Type 0
HasEndAfter version d = (to : ℕ) × (p : List (Option ℤ)) × (to < 4294967296) × IsPattern version d.name p × (ordering_then (nat_cmp d.to to) (pattern_cmp d.args p) ≡ Less)

-- such a pattern goes after this one
abbrev pub HasPatternAfter : ModelVersion → ℕ → List (Option ℤ) → Type 0
HasPatternAfter version name args = (p : List (Option ℤ)) × IsPattern version name p × (pattern_cmp args p ≡ Less)

-- a pattern for the call that goes after that of the last edge, where there is one
abbrev pub IsNextPattern : ModelVersion → ℕ → Option SysEdge → List (Option ℤ) → Type 0
IsNextPattern version name last p = IsPattern version name p × IfSome last (λ d. pattern_cmp d.args p ≡ Less)

-- some edge that fits has the number
abbrev pub HasNumber : (SysEdge → Type 0) → (SysEdge → ℕ) → ℕ → Type 0
HasNumber Fits number n = (e : SysEdge) × Fits e × (number e ≡ n)

-- below the limit, the numbers from the least one up are those that fit
pub record IsLeastBelow (limit : ℕ) (Fits : ℕ → Type 0) (least : ℕ) : Type 0 where
  pub above : (n : ℕ) → least ≤ n → n < limit → Fits n
  pub below : (n : ℕ) → Fits n → least ≤ n

-- the byte after the second node: a space where entries follow
abbrev pub end_after : ModelVersion → List ArgKind → ℕ
end_after One kinds = 10
end_after Two [] = 10
end_after Two (kind ∷ kinds) = 32

-- an entry of a pattern, and the byte after it
abbrev pub entry_word : ℕ → Option ℤ → List ℕ
entry_word end entry = entry_text entry ++ end ∷ []

-- the entries, each with the byte after it: a space before a further one, a line feed after the last
abbrev pub entries_words : List (Option ℤ) → List ℕ
entries_words [] = []
entries_words (x ∷ []) = entry_word 10 x
entries_words (x ∷ y ∷ rest) = entry_word 32 x ++ entries_words (y ∷ rest)

-- what follows the second node and the byte after it
abbrev pub pattern_rest : ModelVersion → List (Option ℤ) → List ℕ
pattern_rest One entries = []
pattern_rest Two entries = entries_words entries

-- entries of these kinds that go after those of the last pattern from a place on, where there is one
abbrev pub AreEntries : List ArgKind → Option (List (Option ℤ)) → ℕ → List (Option ℤ) → Type 0
AreEntries kinds last place es = AllZip FitsEntry kinds es × IfSome last (λ d. pattern_cmp (drop place d) es ≡ Less)

-- some entries of these kinds go after those of the pattern from a place on
abbrev pub HasEntriesAfter : List ArgKind → List (Option ℤ) → ℕ → Type 0
HasEntriesAfter kinds d place = (es : List (Option ℤ)) × AllZip FitsEntry kinds es × (pattern_cmp (drop place d) es ≡ Less)

-- an entry of the kind goes after this one
abbrev pub HasEntryAfter : ArgKind → Option ℤ → Type 0
HasEntryAfter kind entry = (x : Option ℤ) × FitsEntry kind x × (option_cmp int_cmp entry x ≡ Less)

-- the entry does not go before the least one
abbrev pub IsFrom : Option ℤ → Option ℤ → Type 0
IsFrom None x = Unit {0}
IsFrom (Some n) None = ⊥
IsFrom (Some n) (Some m) = n ≤ℤ m
