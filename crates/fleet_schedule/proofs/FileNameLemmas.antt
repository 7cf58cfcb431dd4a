-- Names of files, and what they begin with.
use Rattle.std.proofs.Common.{◌≢◌, ℕ, List, [], ◌∷◌, ◌++◌, length, All, refl, sym, ap, subst, inl, inr, arith, length-append}
use Rattle.std.proofs.lemmas.List.{append-nil}
use Rattle.std.proofs.lemmas.List.Elements.{All-nil, All-cons, All-head, All-tail}
use Rattle.line_text.specs.Spelling.{BeginsOne}
use Rattle.line_text.specs.Words.{IsPlain, IsEnd}
use Rattle.fleet_schedule.specs.Lines.{IsFileFront}
use Rattle.fleet_schedule.specs.ScheduleText.{IsFileName, IsNameByte}

not_end : (b : ℕ) → IsNameByte b → IsEnd b → ⊥
not_end b within (inl is) = omega (arith, within.0)
not_end b within (inr is) = omega (arith, within.0)

all_plain : (text : List ℕ) → All IsNameByte text → IsPlain text
all_plain [] all = tt
all_plain (b ∷ text) all = (not_end b (All-head IsNameByte b text all), all_plain text (All-tail IsNameByte b text all))

pub name-IsPlain : (name : List ℕ) → IsFileName name → IsPlain name
name-IsPlain name is = all_plain name is.bytes

pub some_name : IsFileName (97 ∷ [])
some_name = record {
  some = λ none. cc;
  short = omega arith;
  bytes = All-cons IsNameByte 97 [] (omega arith, omega arith) (All-nil IsNameByte);
}

pub front_is_name : (text : List ℕ) → text ≢ [] → IsFileFront text → IsFileName text
front_is_name text some front = record { some = some; short = front.short; bytes = front.bytes }

pub name_of_front : (text : List ℕ) → IsFileFront text → BeginsOne IsFileName (λ name. name) text
name_of_front [] front = (97 ∷ [], 97 ∷ [], some_name, refl)
name_of_front (b ∷ text) front = (b ∷ text, [], front_is_name (b ∷ text) (λ none. cc) front, sym (append-nil (b ∷ text)))

bytes_front : (text rest : List ℕ) → All IsNameByte (text ++ rest) → All IsNameByte text
bytes_front [] rest all = All-nil IsNameByte
bytes_front (b ∷ text) rest all = All-cons IsNameByte b text (All-head IsNameByte b (text ++ rest) all) (bytes_front text rest (All-tail IsNameByte b (text ++ rest) all))

pub front_of_name : (text : List ℕ) → BeginsOne IsFileName (λ name. name) text → IsFileFront text
front_of_name text (name, rest, fits, is) = record {
  short = let short = fits.short in omega (arith, length-append text rest, ap length is);
  bytes = bytes_front text rest (subst (All IsNameByte) is fits.bytes);
}
