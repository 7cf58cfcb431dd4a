-- Lemmas that several crates above use.
use Rattle.std.proofs.Common.{Bool, Contains, List, [], ap, arith, false, inl, inr, nat_eq, not, refl, subst, suc, sym, true, zero, ℕ, ◌&&◌, ◌++◌, ◌∙◌, ◌∷◌, ◌≡◌, ◌≢◌}
use Rattle.std.proofs.lemmas.Bool.{cases_eq}
use Rattle.std.proofs.lemmas.List.Elements.{Contains-append_right}
use Rattle.std.specs.Prelude.{codes, if◌then◌else◌}
use Rattle.line_text.proofs.FilesLemmas.{first_line_whole, through_first}
use Rattle.line_text.specs.Files.{IsFirstLine, through}
use Rattle.line_text.specs.Files.IsFirstLine.{ended, unended}
use Rattle.line_text.specs.OneLine.{IsLine}

pub first_of : (text : List ℕ) → (line : List ℕ) × (rest : List ℕ) × IsFirstLine text line rest
first_of [] = ([], [], unended (λ has. omega (arith, has.1)) refl refl)
first_of (b ∷ text) =
    elim (cases_eq b 10) [
      | inl is ↦ (b ∷ [], text, ended [] (λ has. omega (arith, has.1)) (ap (λ (c : ℕ). c ∷ []) is) refl)
      | inr other ↦ let more = first_of text in (b ∷ more.0, more.1, longer b text more.0 more.1 other more.2)
    ]
  where
    lacks_more : (b : ℕ) (text : List ℕ) → (b ≡ 10 → ⊥) → (Contains text 10 → ⊥) → Contains (b ∷ text) 10 → ⊥
    lacks_more b text other none (zero, within, is) = other is
    lacks_more b text other none (suc k, within, is) = none (k, omega (arith, within), is)

    longer : (b : ℕ) (text line rest : List ℕ) → (b ≡ 10 → ⊥) → IsFirstLine text line rest → IsFirstLine (b ∷ text) (b ∷ line) rest
    longer b text line rest other (ended front none is whole) = ended (b ∷ front) (lacks_more b front other none) (ap (λ (t : List ℕ). b ∷ t) is) (ap (λ (t : List ℕ). b ∷ t) whole)
    longer b text line rest other (unended none end whole) = unended (lacks_more b line other none) end (ap (λ (t : List ℕ). b ∷ t) whole)

pub nonempty_first : (text line rest : List ℕ) → IsFirstLine text line rest → text ≢ [] → line ≢ []
nonempty_first text line rest (ended [] none is whole) some empty = let same : ◌≡◌ {A = List ℕ} (10 ∷ []) [] = sym is ∙ empty in cc
nonempty_first text line rest (ended (b ∷ front) none is whole) some empty = let same : b ∷ (front ++ 10 ∷ []) ≡ [] = sym is ∙ empty in cc
nonempty_first text line rest (unended none end whole) some empty = some (whole ∙ empty)

pub nil_front : (a b : List ℕ) → a ++ b ≡ [] → a ≡ []
nil_front [] b is = refl
nil_front (c ∷ a) b is = cc

pub first_is_line : (text line rest : List ℕ) → IsFirstLine text line rest → IsLine line
first_is_line text line rest first = (rest, subst (λ (t : List ℕ). IsFirstLine t line rest) (first_line_whole text line rest first) first)

abbrev pub end_line : List ℕ
end_line = codes "end\n"

pub line_alone : (text line rest other more : List ℕ) → IsFirstLine text line rest → IsFirstLine text other more → other ≡ line
line_alone text line rest other more first second = sym (through_first text other more second) ∙ through_first text line rest first

pub nonempty_rest : (a b : List ℕ) → a ≢ [] → a ++ b ≢ []
nonempty_rest [] b some is = some refl
nonempty_rest (c ∷ a) b some is = cc

pub through_begins : (k : ℕ) (text : List ℕ) → (rest : List ℕ) × (text ≡ through k text ++ rest)
through_begins zero text = (text, refl)
through_begins (suc k) [] = ([], refl)
through_begins (suc k) (b ∷ text) =
    elim (nat_eq b 10) as (λ (t : Bool). (rest : List ℕ) × (b ∷ text ≡ (b ∷ (if t then through k text else through (suc k) text)) ++ rest)) [
      | true ↦ let more = through_begins k text in (more.0, ap (λ (x : List ℕ). b ∷ x) more.1)
      | false ↦ let more = through_begins (suc k) text in (more.0, ap (λ (x : List ℕ). b ∷ x) more.1)
    ]

unfoldable pub lacks : List ℕ → Bool
lacks [] = true
lacks (b ∷ text) = not (nat_eq b 10) && lacks text

pub unended_is : (rest line later : List ℕ) → IsFirstLine rest line later → (Contains line 10 → ⊥) → rest ≡ line
unended_is rest line later (ended front none is whole) no_feed = absurd (no_feed (subst (λ (t : List ℕ). Contains t 10) (sym is) (Contains-append_right front (10 ∷ []) 10 (0, omega arith, refl))))
unended_is rest line later (unended none end whole) no_feed = whole
