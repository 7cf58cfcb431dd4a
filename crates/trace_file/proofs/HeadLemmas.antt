-- The first line of a file, which may be unfinished, and another version's.
use Rattle.std.proofs.Common.{◌≡◌, ◌≤◌, ◌<◌, ◌^◌, ℕ, List, [], ◌∷◌, ◌++◌, length, Contains, decimal, refl, sym, ◌∙◌, ap, subst, inl, inr, append_assoc, arith}
use Rattle.std.specs.Prelude.{◌⊎◌}
use Rattle.std.proofs.lemmas.List.{append-nil, append_cancel_left, append_cancel_right}
use Rattle.std.proofs.lemmas.List.Elements.{Contains-append_right}
use Rattle.std.proofs.lemmas.Fmt.{decimal_injective}
use Rattle.line_text.specs.Files.{IsBadLine, IsVersionLine, IsFirstLine, HasOtherVersion}
use Rattle.line_text.specs.Files.IsFirstLine.{ended}
use Rattle.line_text.specs.Reading.{Agree}
use Rattle.line_text.proofs.FilesLemmas.{bad_line, nothing_read, first_line_whole}
use Rattle.line_text.proofs.FirstLines.{line_alone}
use Rattle.line_text.proofs.Splits.{prefixes_agree}
use Rattle.line_text.proofs.VersionLemmas.{decimal-no_feed}
use Rattle.trace_file.specs.Pieces.{IsWhole}
use Rattle.trace_file.specs.Trace.{longest}
use Rattle.trace_file.proofs.ReachedLemmas.{IsBadAt}

-- a line that doesn't agree with a version's has another number
pub other_number : (head word line : List ℕ) (m n : ℕ) → head ≡ word ++ decimal m ++ 10 ∷ [] → (Agree head line → ⊥) → IsVersionLine word n line → n ≡ m → ⊥
other_number head word line m n is none (inl stands) same =
    none (10 ∷ [], inr (is ∙ ap (λ (k : ℕ). word ++ decimal k ++ 10 ∷ []) (sym same) ∙ ap (λ (t : List ℕ). t ++ 10 ∷ []) (sym stands)))
other_number head word line m n is none (inr stands) same =
    none ([], inl (append-nil head ∙ is ∙ ap (λ (k : ℕ). word ++ decimal k ++ 10 ∷ []) (sym same) ∙ sym stands))

-- a version's line has that version's number alone
pub own_number : (head word : List ℕ) (m n : ℕ) → m < 2 ^ 32 → n < 2 ^ 32 → head ≡ word ++ decimal m ++ 10 ∷ [] → IsVersionLine word n head → n ≡ m
own_number head word m n small small' is (inl stands) =
    let tails : decimal n ≡ decimal m ++ 10 ∷ [] = append_cancel_left word (decimal n) (decimal m ++ 10 ∷ []) (sym stands ∙ is ∙ append_assoc word (decimal m) (10 ∷ [])) in
    absurd (decimal-no_feed n (omega arith) (subst (λ (t : List ℕ). Contains t 10) (sym tails) (Contains-append_right (decimal m) (10 ∷ []) 10 (0, omega arith, refl))))
own_number head word m n small small' is (inr stands) =
    decimal_injective n m (omega arith) (omega arith) (append_cancel_left word (decimal n) (decimal m) (append_cancel_right (word ++ decimal n) (word ++ decimal m) (10 ∷ []) (sym stands ∙ is)))

-- a text that begins with a version's line has no other version
pub no_other : (head word rest : List ℕ) (IsVersion : ℕ → Type 0) (m : ℕ) → m < 2 ^ 32 → IsVersion m → head ≡ word ++ decimal m ++ 10 ∷ [] → IsWhole head → HasOtherVersion word IsVersion (head ++ rest) → ⊥
no_other head word rest IsVersion m small version is whole has =
    let same : has.line ≡ head = line_alone (head ++ rest) head rest has.line has.rest (ended whole.front whole.plain whole.ends refl) has.first in
    let number : has.number ≡ m = own_number head word m has.number small has.small is (subst (IsVersionLine word has.number) same has.stands) in
    has.other (subst IsVersion (sym number) version)

-- where no version stands in the first line, the text has no other version
pub none_other : (word text line rest : List ℕ) (IsVersion : ℕ → Type 0) → IsFirstLine text line rest → ((n : ℕ) → n < 2 ^ 32 → IsVersionLine word n line → ⊥) → HasOtherVersion word IsVersion text → ⊥
none_other word text line rest IsVersion first none has =
    none has.number has.small (subst (IsVersionLine word has.number) (line_alone text line rest has.line has.rest first has.first) has.stands)

pub other_version : (word text line rest : List ℕ) (IsVersion : ℕ → Type 0) → IsFirstLine text line rest → (n : ℕ) × (n < 2 ^ 32) × (IsVersion n → ⊥) × IsVersionLine word n line → HasOtherVersion word IsVersion text
other_version word text line rest IsVersion first (n, small, other, stands) = record { line = line; rest = rest; first = first; number = n; small = small; other = other; stands = stands }

-- a first line that is bad, where a text that is formed, or has too much, begins with a version's line
pub bad_head : {V : Type 0} (head : V → List ℕ) (word : List ℕ) (IsVersion : ℕ → Type 0) (Formed TooMuch : List ℕ → Type 0) (some : List ℕ) → Formed some → ((text : List ℕ) → Formed text ⊎ TooMuch text → (v : V) × (rest : List ℕ) × (text ≡ head v ++ rest)) → (k : ℕ) (text line rest : List ℕ) → length text ≤ longest → IsFirstLine text line rest → (k ≡ 1) × ((v : V) → Agree (head v) line → ⊥) × ((n : ℕ) → n < 2 ^ 32 → IsVersionLine word n line → ⊥) → IsBadAt Formed TooMuch (HasOtherVersion word IsVersion) k text
bad_head {V} head word IsVersion Formed TooMuch some formed begins k text line rest short first bad = (
  short,
  none_other word text line rest IsVersion first bad.2,
  (λ much. none rest (inr (subst TooMuch (first_line_whole text line rest first) much))),
  subst (IsBadLine Formed text) (sym bad.0) (bad_line Formed Formed 0 [] text line rest (nothing_read Formed some formed) first (λ w here. none w (inl here))),
)
  where
    none : (w : List ℕ) → Formed (line ++ w) ⊎ TooMuch (line ++ w) → ⊥
    none w here = let at = begins (line ++ w) here in bad.1 at.0 (prefixes_agree (head at.0) line at.1 w (sym at.2))
