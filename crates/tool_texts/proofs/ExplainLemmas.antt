-- What `explain` makes of a file and why it refuses it never hold both, and it is refused with one status; what is said of the bytes
-- that were read is said of the file.
use Rattle.std.proofs.Common.{◌≡◌, ◌≢◌, ℕ, ◌+◌, ◌-◌, ◌≤◌, List, ◌++◌, length, take, drop, Option, Some, None, IfSome, inl, inr, refl, sym, ◌∙◌, ap, arith}
use Rattle.std.specs.Prelude.{codes, replicate}
use Rattle.code_reasons.specs.Reasons.{reason_of}
use Rattle.std.proofs.lemmas.List.{take_all, take-take, drop-take}
use Rattle.c_lexer.specs.TokenSpelling.{longest_text}
use Rattle.c_rules.specs.Accepted.{IsAcceptedAs}
use Rattle.c_tree.specs.Tree.{Program}
use Rattle.dm_base.specs.declared.mode.Mode.TheVariants.{Plain}
use Rattle.dm_base.specs.declared.verdict.Status.{Status}
use Rattle.dm_base.specs.declared.verdict.Status.TheVariants as statuses
use Rattle.dm_io.specs.Store.{Files, file_at, ReadsWhole}
use Rattle.text_places.specs.Lines.{ended_lines, first_line, last_line, part_before, part_from, shown}
use Rattle.text_places.specs.Locations.{SourceLocation, line_behind, located, location_text}
use Rattle.tool_texts.specs.Explained.{code_text, place_of, explanation, RefusesToExplain, ExplainsWhatChecks}
use Rattle.tool_texts.specs.Stopping.{IsStopOfExplained}
use Rattle.tool_frame.specs.declared.stop.Stop.{Stop}
use Rattle.tool_frame.specs.declared.stop.Stop.TheVariants as stops
use Rattle.tool_frame.specs.Stop.{Stops}
use Rattle.tool_texts.specs.SourceError.{SourceError}
use Rattle.tool_texts.specs.SourceError.TheVariants.{OutOfMemory, Lexical, Syntax, Nesting, Rule}
use Rattle.tool_texts.specs.Sources.{IsSourceCause, HasNoProgram, source_refusal}
use Rattle.tool_texts.proofs.SourceFiles.{refusal_told}
use Rattle.tool_texts.specs.Check.{Checks, IsReadyToCheck}

-- the part that is checked is the file up to one byte past its limit
pub reads_checked : (told : Option Files) (name text part : List ℕ) → ReadsWhole told name (longest_text Plain + 60) text → part ≡ take (longest_text Plain + 1) text → ReadsWhole told name (longest_text Plain + 1) part
reads_checked None name text part reads is = tt
reads_checked (Some files) name text part reads is =
    is ∙ ap (take (longest_text Plain + 1)) reads ∙ take-take (longest_text Plain + 1) (longest_text Plain + 60) (file_at files name) (omega arith)

-- where bytes end
abbrev location_behind : List ℕ → List ℕ → SourceLocation
location_behind name w = record { file = (line_behind name (ended_lines w)).file; line = (line_behind name (ended_lines w)).line; column = length (last_line w) + 1 }

-- two texts in which the bytes before a place and 60 from it on are the same have one explanation of an error there
same_explanation : (name text file : List ℕ) (error : SourceError) → take (place_of error) text ≡ take (place_of error) file → take 60 (drop (place_of error) text) ≡ take 60 (drop (place_of error) file) → explanation name text error ≡ explanation name file error
same_explanation name text file error before from =
    let where_is : located name text (place_of error) ≡ located name file (place_of error) = ap (λ w. location_behind name w) before in
    let left : part_before text (place_of error) ≡ part_before file (place_of error) = ap (λ w. last_line (drop (place_of error - 60) w)) before in
    let right : part_from text (place_of error) ≡ part_from file (place_of error) = ap first_line from in
    λ i. location_text (where_is i) ++ codes ": " ++ code_text error ++ codes ": " ++ reason_of (code_text error) ++ codes "\n"
    ++ shown (left i) ++ shown (right i) ++ codes "\n" ++ replicate (length (left i)) 32 ++ codes "^\n"

module _ (name file text : List ℕ) (cut : text ≡ take (longest_text Plain + 60) file) where
  explained_whole : (error : SourceError) → length file ≤ longest_text Plain → explanation name text error ≡ explanation name file error
  explained_whole error short = ap (λ w. explanation name w error) (cut ∙ take_all (longest_text Plain + 60) file (omega (arith, short)))

  pub explained_of_file : (error : SourceError) → IsSourceCause error file Plain → error ≢ OutOfMemory → explanation name text error ≡ explanation name file error
  explained_of_file OutOfMemory cause named = absurd (named refl)
  explained_of_file (Lexical code place) (inl long) named =
      same_explanation name text file (Lexical code place)
      (ap (take place) cut ∙ take-take place (longest_text Plain + 60) file (let p = long.is_place in omega (arith, p)))
      (ap (λ w. take 60 (drop place w)) cut ∙ ap (λ n. take 60 (drop place (take (n + 60) file))) (sym long.is_place) ∙ ap (take 60) (drop-take place 60 file) ∙ take-take 60 60 (drop place file) (omega arith))
  explained_of_file (Lexical code place) (inr stopped) named = explained_whole (Lexical code place) stopped.short
  explained_of_file (Syntax place) cause named = explained_whole (Syntax place) cause.lexed.short
  explained_of_file (Nesting place) cause named = explained_whole (Nesting place) cause.lexed.short
  explained_of_file (Rule code place) cause named = explained_whole (Rule code place) cause.lexed.short

-- why the file is refused
pub stops_explained : (told : Option Files) (name text part : List ℕ) (error : SourceError) (stop : Stop) (Lacking : Type 0) (before after : ℕ) → ReadsWhole told name (longest_text Plain + 60) text → part ≡ take (longest_text Plain + 1) text → IsSourceCause error part Plain → HasNoProgram error part Plain → IsStopOfExplained stop name text error
    → Stops stop (RefusesToExplain told name) Lacking before after
stops_explained told name text part error stops.Usage Lacking before after reads is cause none why = why
stops_explained told name text part error (stops.Source lines) Lacking before after reads is cause none why = (error, why.0, refl, (text, why.1), told_lines told reads (refusal_told told name part Plain error (reads_checked told name text part reads is) why.0 cause none))
  where
    told_lines : (t : Option Files) → ReadsWhole t name (longest_text Plain + 60) text → IfSome t (λ files. IsSourceCause error (file_at files name) Plain × ((p : Program) → IsAcceptedAs (file_at files name) Plain p → ⊥))
        → IfSome t (λ files. (lines.items ≡ explanation name (file_at files name) error) × IsSourceCause error (file_at files name) Plain × ((p : Program) → IsAcceptedAs (file_at files name) Plain p → ⊥))
    told_lines None reads refused = tt
    told_lines (Some files) reads refused = (why.1 ∙ explained_of_file name (file_at files name) text reads error refused.0 why.0, refused.0, refused.1)
stops_explained told name text part error (stops.Model lines) Lacking before after reads is cause none why = absurd why
stops_explained told name text part error (stops.Record lines) Lacking before after reads is cause none why = absurd why
stops_explained told name text part error stops.Read Lacking before after reads is cause none why = absurd why
stops_explained told name text part error stops.Write Lacking before after reads is cause none why = why
stops_explained told name text part error stops.OutOfMemory Lacking before after reads is cause none why = tt

-- what is made and what is refused

pub explain_ready : (told : Option Files) (name lines : List ℕ) (status : Status) → IsReadyToCheck told name → RefusesToExplain told name status lines → ⊥
explain_ready None name lines status ready refuses = ready
explain_ready (Some told) name lines status ready refuses = (refuses.4).2 ready.0 ready.1

pub explained_apart : (told : Files) (name text lines : List ℕ) (status : Status) → Checks told name text → RefusesToExplain (Some told) name status lines → ⊥
explained_apart told name text lines status makes refuses = (refuses.4).2 makes.0 makes.1

pub explain_status : (told : Option Files) (name lines : List ℕ) (status : Status) → RefusesToExplain told name status lines → status ≡ statuses.SourceRefused
explain_status told name lines status refuses = refuses.2

-- `explain` and `check` refuse the same files
pub explains_what_checks : ExplainsWhatChecks
explains_what_checks told name status = (
  λ lines refuses. (source_refusal refuses.0, (refuses.0, refuses.1, refuses.2, refl, ((refuses.4).1, (refuses.4).2)), (refuses.0, (refuses.4).0, refl)),
  λ line refuses. (explanation name (file_at told name) refuses.0, (refuses.0, refuses.1, refuses.2, (file_at told name, refl), (refl, (refuses.4).0, (refuses.4).1)), (refuses.0, refl, refuses.3)),
)
