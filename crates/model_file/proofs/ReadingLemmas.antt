-- Versions, and what a model's text is read as.
use Rattle.std.proofs.Common.{◌≡◌, ◌≢◌, ℕ, ◌<◌, ◌≤◌, ◌^◌, List, [], ◌∷◌, ◌++◌, Bool, true, false, not, nat_eq, decimal, refl, sym, ◌∙◌, ap, subst, inl, inr, append_assoc, Contains, arith}
use Rattle.std.specs.Prelude.{◌⊎◌, ◌↔◌, IsTrue, Result, Ok, Err, IfOk, IfErr, codes}
use Rattle.std.proofs.lemmas.Bool.{false≢true}
use Rattle.std.proofs.lemmas.Bool.Decides.{eqb_tells}
use Rattle.std.proofs.lemmas.Fmt.{decimal_injective, decimal_digit}
use Rattle.std.proofs.lemmas.List.{append_cancel_left, append_cancel_right}
use Rattle.line_text.specs.Files.{IsFirstLine, IsVersionLine}
use Rattle.line_text.specs.Files.IsFirstLine.{ended}
use Rattle.line_text.proofs.FirstLines.{line_alone}
use Rattle.line_text.proofs.VersionLemmas.{decimal-no_feed}
use Rattle.flow_model.specs.Graph.{Graph}
use Rattle.flow_model.specs.Rules.{IsInOrder, HasRightPatterns, IsValid, IsLeastBroken}
use Rattle.flow_model.specs.Rules.IsLeastBroken.{entries as broken_entries, exits as broken_exits, names as broken_names, edges as broken_edges, functions as broken_functions, repeats as broken_repeats, patterns as broken_patterns}
use Rattle.model_file.specs.declared.error.ModelError.{ModelError}
use Rattle.model_file.specs.declared.error.ModelError.TheVariants.{OutOfMemory, Invalid}
use Rattle.model_file.specs.declared.version.ModelVersion.{ModelVersion}
use Rattle.model_file.specs.declared.version.ModelVersion.TheVariants.{One, Two}
use Rattle.model_file.specs.ModelText.{head_line, IsModelText}
use Rattle.model_file.specs.Progress.{Spelling}
use Rattle.model_file.specs.Refusal.{IsModel, HasOtherModelVersion}
use Rattle.model_file.specs.Writing.{IsBroken}
use Rattle.model_file.specs.States.{IsReadAs}
use Rattle.model_file.proofs.HeadLemmas.{after_head, text_is}
use Rattle.model_file.proofs.LineLemmas.{plain_word}
use Rattle.flow_model.proofs.ValidModels.{no_repeats, none_broken}
use Rattle.line_text.proofs.VersionLemmas.{has_last}

-- versions

-- of two decimals one is not the other with a line feed
no_feed_after : (m n : ℕ) → m < 2 ^ 32 → decimal m ≡ decimal n ++ 10 ∷ [] → ⊥
no_feed_after m n small is = decimal-no_feed m (omega (arith, small)) (subst (λ (t : List ℕ). Contains t 10) (sym is) (has_last (decimal n)))

-- a line has one version
pub one_version : (word line : List ℕ) (m n : ℕ) → m < 2 ^ 32 → n < 2 ^ 32 → IsVersionLine word m line → IsVersionLine word n line → m ≡ n
one_version word line m n small_m small_n (inl is_m) (inl is_n) =
    decimal_injective m n (omega (arith, small_m)) (omega (arith, small_n)) (append_cancel_left word (decimal m) (decimal n) (sym is_m ∙ is_n))
one_version word line m n small_m small_n (inl is_m) (inr is_n) =
    absurd (no_feed_after m n small_m (append_cancel_left word (decimal m) (decimal n ++ 10 ∷ []) (sym is_m ∙ is_n ∙ append_assoc word (decimal n) (10 ∷ []))))
one_version word line m n small_m small_n (inr is_m) (inl is_n) =
    absurd (no_feed_after n m small_n (append_cancel_left word (decimal n) (decimal m ++ 10 ∷ []) (sym is_n ∙ is_m ∙ append_assoc word (decimal m) (10 ∷ []))))
one_version word line m n small_m small_n (inr is_m) (inr is_n) =
    decimal_injective m n (omega (arith, small_m)) (omega (arith, small_n)) (append_cancel_left word (decimal m) (decimal n) (append_cancel_right (word ++ decimal m) (word ++ decimal n) (10 ∷ []) (sym is_m ∙ is_n)))

abbrev word : List ℕ
word = codes "dyckmon-model "

abbrev pub IsOurs : ℕ → Type 0
IsOurs n = (n ≡ 1) ⊎ (n ≡ 2)

-- whether the version that the first line has is another
pub tells_other : (text line rest : List ℕ) (n : ℕ) (answer : Bool) → IsFirstLine text line rest → n < 2 ^ 32 → IsVersionLine word n line → ((answer ≡ true) × (IsOurs n → ⊥)) ⊎ ((answer ≡ false) × IsOurs n) → IsTrue answer ↔ HasOtherModelVersion text
tells_other text line rest n answer first small stands (inl other) = (
  λ holds. record { line = line; rest = rest; first = first; number = n; small = small; other = other.1; stands = stands },
  λ has. other.0,
)
tells_other text line rest n answer first small stands (inr ours) = (
  λ holds. absurd (false≢true (sym ours.0 ∙ holds)),
  λ has.
      let stands' : IsVersionLine word has.number line = subst (IsVersionLine word has.number) (line_alone text line rest has.line has.rest first has.first) has.stands in
      let same : n ≡ has.number = one_version word line n has.number small has.small stands stands' in
      absurd (has.other (subst IsOurs same ours.1)),
)

pub tells_none : (text line rest : List ℕ) → IsFirstLine text line rest → ((n : ℕ) → n < 2 ^ 32 → IsVersionLine word n line → ⊥) → IsTrue false ↔ HasOtherModelVersion text
tells_none text line rest first none = (
  λ holds. absurd (false≢true holds),
  λ has. absurd (none has.number has.small (subst (IsVersionLine word has.number) (line_alone text line rest has.line has.rest first has.first) has.stands)),
)

pub not_two : (n : ℕ) → n ≢ 1 → ((not (nat_eq n 2) ≡ true) × (IsOurs n → ⊥)) ⊎ ((not (nat_eq n 2) ≡ false) × IsOurs n)
not_two n not_one = elim (eqb_tells n 2) [
  | inl two ↦ inr (ap not two.0, inr two.1)
  | inr other ↦ inl (ap not other.0, λ ours. elim ours [ inl one ↦ not_one one | inr two ↦ other.1 two ])
]

pub not_one : (n : ℕ) → n ≡ 1 → ((not (nat_eq n 1) ≡ true) × (IsOurs n → ⊥)) ⊎ ((not (nat_eq n 1) ≡ false) × IsOurs n)
not_one n one = inr (ap (λ (k : ℕ). not (nat_eq k 1)) one, inl one)

-- a model's text has one of the versions

head_version : (v : ModelVersion) → (n : ℕ) × IsOurs n × (n < 2 ^ 32) × IsVersionLine word n (head_line v)
head_version One = (1, inl refl, omega arith, inr (ap (λ (t : List ℕ). word ++ t ++ 10 ∷ []) (sym (decimal_digit 1 (omega arith)))))
head_version Two = (2, inr refl, omega arith, inr (ap (λ (t : List ℕ). word ++ t ++ 10 ∷ []) (sym (decimal_digit 2 (omega arith)))))

head_first : (v : ModelVersion) (rest : List ℕ) → IsFirstLine (head_line v ++ rest) (head_line v) rest
head_first One rest = ended (codes "dyckmon-model 1") (plain_word (codes "dyckmon-model 1") refl) refl refl
head_first Two rest = ended (codes "dyckmon-model 2") (plain_word (codes "dyckmon-model 2") refl) refl refl

pub has_our_version : (v : ModelVersion) (text : List ℕ) (g : Graph) → IsModelText v text g → HasOtherModelVersion text → ⊥
has_our_version v text g is has =
    let whole : text ≡ head_line v ++ after_head v g = is.is ∙ text_is v g in
    let first : IsFirstLine text (head_line v) (after_head v g) = subst (λ (t : List ℕ). IsFirstLine t (head_line v) (after_head v g)) (sym whole) (head_first v (after_head v g)) in
    let same : has.line ≡ head_line v = line_alone text (head_line v) (after_head v g) has.line has.rest first has.first in
    let ours = head_version v in
    let n : has.number ≡ ours.0 = one_version word (head_line v) has.number ours.0 has.small ours.2 (subst (IsVersionLine word has.number) same has.stands) ours.3 in
    has.other (subst IsOurs (sym n) ours.1)

-- rules

-- lists that are in order and have right patterns break one of the first five rules, if any
pub one_of_five : (g : Graph) (k : ℕ) → IsInOrder g → HasRightPatterns g → IsLeastBroken g k → k ≤ 5
one_of_five g k order patterns (broken_entries is not_so) = omega (arith, is)
one_of_five g k order patterns (broken_exits is entries not_so) = omega (arith, is)
one_of_five g k order patterns (broken_names is entries exits not_so) = omega (arith, is)
one_of_five g k order patterns (broken_edges is entries exits names not_so) = omega (arith, is)
one_of_five g k order patterns (broken_functions is entries exits names edges not_so) = omega (arith, is)
one_of_five g k order patterns (broken_repeats is entries exits names edges functions not_so) = absurd (not_so (no_repeats g order))
one_of_five g k order patterns (broken_patterns is entries exits names edges functions repeats not_so) = absurd (not_so patterns)

-- what read_model answers

-- the lists of the text are read
module _ (text : List ℕ) (v : ModelVersion) (read : Graph) (is_read : IsReadAs text v read) where
  only_model : (g : Graph) → IsModel text g → read ≡ g
  only_model g is = let m : Spelling = record { version = is.version; graph = g } in sym (is_read.only m is.is)

  pub broken_no_model : (error : ModelError) (g : Graph) → IsBroken read error → IsModel text g → error ≡ OutOfMemory
  broken_no_model OutOfMemory g broken is = refl
  broken_no_model (Invalid rule) g broken is = absurd (none_broken read rule (subst IsValid (sym (only_model g is)) is.valid) broken.0)
  broken_no_model error g broken is = absurd broken

  pub model_complete : (made : Result Graph ModelError) (g : Graph) → IfErr made (λ error. IsBroken read error) → IsModel text g → IfErr made (λ error. error ≡ OutOfMemory)
  model_complete (Ok m) g broken is = tt
  model_complete (Err error) g broken is = broken_no_model error g broken is

  pub model_same : (made : Result Graph ModelError) (g : Graph) → IfOk made (λ m. m ≡ read) → IsModel text g → IfOk made (λ m. m ≡ g)
  model_same (Ok m) g same is = same ∙ only_model g is
  model_same (Err error) g same is = tt
