-- What a reader of a line says of the text.
use Rattle.std.proofs.Common.{◌≡◌, ◌≢◌, ℕ, ◌+◌, ◌<◌, ◌≤◌, List, [], ◌∷◌, ◌++◌, length, take, drop, refl, sym, ◌∙◌, ap, subst, inr, arith}
use Rattle.std.specs.Prelude.{Result, Ok, Err, IsTrue, codes}
use Rattle.std.proofs.Math.Seq.{take-add, take-append_seam}
use Rattle.std.proofs.lemmas.List.{length-append, drop_at, drop-drop}
use Rattle.std.proofs.lemmas.Bool.{eqb-true}
use Rattle.line_text.specs.declared.miss.Miss.{Miss}
use Rattle.line_text.specs.declared.miss.Miss.TheVariants.{OutOfMemory as no_memory, Short, Wrong}
use Rattle.line_text.specs.Files.{IsFirstLine}
use Rattle.line_text.specs.OneLine.{IsLine}
use Rattle.line_text.specs.Files.IsFirstLine.{ended, unended}
use Rattle.line_text.specs.Reading.{Agree, StandsFirst, Reads}
use Rattle.line_text.proofs.FilesLemmas.{first_line_whole, ends_line}
use Rattle.model_file.specs.declared.error.ModelError.{ModelError}
use Rattle.model_file.specs.declared.place.Place.{Place}
use Rattle.model_file.specs.declared.version.ModelVersion.{ModelVersion}
use Rattle.model_file.specs.declared.version.ModelVersion.TheVariants.{One, Two}
use Rattle.model_file.specs.ModelText.{head_line}
use Rattle.model_file.specs.Progress.{IsNext, Takes, refusal_of, is_ended}

-- nothing was read of the line
pub missed : {V : Type 0} (Fits : V → Type 0) (spelled : V → List ℕ) (text : List ℕ) (old new : Place) (line : List ℕ) (miss : Miss) (error : ModelError) → error ≡ refusal_of miss new.line → IsNext text old new line → Reads Fits spelled line [] (Err miss) → Takes Fits spelled text old new (Err error)
missed {V} Fits spelled text old new line miss error is next none =
    subst (λ (e : ModelError). Takes Fits spelled text old new (Err e)) (sym is) (by_miss miss none)
  where
    by_miss : (miss : Miss) → Reads Fits spelled line [] (Err miss) → Takes Fits spelled text old new (Err (refusal_of miss new.line))
    by_miss no_memory none = tt
    by_miss Short none = inr (record { line = line; rest = drop new.byte text; first = next.first; missed = none })
    by_miss Wrong none = (next.number, record { line = line; rest = drop new.byte text; first = next.first; missed = none })

-- the place behind the line

-- a line that is not empty
line_is_some : (text line rest : List ℕ) → IsFirstLine text line rest → text ≢ [] → 0 < length line
line_is_some text line rest (ended front none is whole) some = omega (arith, ap length is, length-append front (10 ∷ []))
line_is_some text [] rest (unended none end whole) some = absurd (some whole)
line_is_some text (b ∷ line) rest (unended none end whole) some = omega arith

pub next_place : (text line rest : List ℕ) (old new : Place) → old.byte ≤ length text → drop old.byte text ≢ [] → IsFirstLine (drop old.byte text) line rest → new.byte ≡ old.byte + length line → new.line ≡ old.line + 1 → IsNext text old new line
next_place text line rest old new within some first byte number =
    let whole : drop old.byte text ≡ line ++ rest = first_line_whole (drop old.byte text) line rest first in
    let seam : take (length line) (drop old.byte text) ≡ line = ap (take (length line)) whole ∙ take-append_seam line rest in
    let left : drop new.byte text ≡ rest = ap (λ (k : ℕ). drop k text) byte ∙ sym (drop-drop (length line) old.byte text) ∙ ap (drop (length line)) whole ∙ drop_at line rest _ refl in
    record {
      first = subst (IsFirstLine (drop old.byte text) line) (sym left) first;
      bytes = ap (λ (k : ℕ). take k text) byte ∙ take-add old.byte (length line) text ∙ ap (λ (t : List ℕ). take old.byte text ++ t) seam;
      number = number;
      long = byte;
      further = omega (arith, byte, line_is_some (drop old.byte text) line rest first some);
    }

-- the line is one word

word_ends : (word : List ℕ) → IsTrue (is_ended word) → (front : List ℕ) × (word ≡ front ++ 10 ∷ [])
word_ends [] is = absurd (cc)
word_ends (b ∷ []) is = ([], ap (λ n. n ∷ []) (eqb-true b 10 is))
word_ends (b ∷ c ∷ rest) is = let more = word_ends (c ∷ rest) is in (b ∷ more.0, ap (λ (w : List ℕ). b ∷ w) more.1)

pub whole_word : (word line new : List ℕ) (x : Unit {0}) → IsTrue (is_ended word) → IsLine line → StandsFirst (λ (_ : Unit {0}). Unit {0}) (λ (_ : Unit {0}). word) line new x → StandsFirst (λ (_ : Unit {0}). Unit {0}) (λ (_ : Unit {0}). word) line [] x
whole_word word line new x is_one line_one stands =
    let front = word_ends word is_one in
    let none : new ≡ [] = ends_line word front.0 line_one.0 line new (line ++ line_one.0) front.1 stands.stands line_one.1 in
    subst (λ (t : List ℕ). StandsFirst (λ (_ : Unit {0}). Unit {0}) (λ (_ : Unit {0}). word) line t x) none stands

-- the first line

abbrev Word : List ℕ → List ℕ → Result (Unit {0}) Miss → Type 0
Word word line found = Reads (λ (_ : Unit {0}). Unit {0}) (λ (_ : Unit {0}). word) line [] found

no_version_line : (line : List ℕ) → Word (codes "dyckmon-model 1\n") line (Err Wrong) → Word (codes "dyckmon-model 2\n") line (Err Wrong) → (w : ModelVersion) → Unit {0} → Agree (head_line w) line → ⊥
no_version_line line first second One fits agree = first tt tt agree
no_version_line line first second Two fits agree = second tt tt agree

pub word_read : (word line new : List ℕ) (found : Result (Unit {0}) Miss) → IsTrue (is_ended word) → IsLine line → Reads (λ (_ : Unit {0}). Unit {0}) (λ (_ : Unit {0}). word) line new found → Word word line found
word_read word line new (Ok x) is_one line_one read = whole_word word line new x is_one line_one read
word_read word line new (Err no_memory) is_one line_one read = tt
word_read word line new found is_one line_one read = read

pub no_second_version : (line : List ℕ) (miss : Miss) → Word (codes "dyckmon-model 1\n") line (Err Wrong) → Word (codes "dyckmon-model 2\n") line (Err miss) → Reads (λ (_ : ModelVersion). Unit {0}) head_line line [] (Err miss)
no_second_version line no_memory first second = tt
no_second_version line Short first cut = record { value = Two; rest = cut.rest; fits = tt; more = cut.more; goes_on = cut.goes_on; unended = cut.unended }
no_second_version line Wrong first second = no_version_line line first second
