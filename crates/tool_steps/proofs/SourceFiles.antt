-- A C text that was read up to one byte past its limit.
use Rattle.std.proofs.Common.{◌≡◌, ◌≢◌, ℕ, ◌+◌, ◌≤◌, List, length, take, Option, Some, None, IfSome, inl, inr, refl, sym, ◌∙◌, ap, subst, arith}
use Rattle.std.proofs.lemmas.List.{take_all, length-take}
use Rattle.dm_base.specs.declared.mode.Mode.{Mode}
use Rattle.dm_io.specs.Store.{Files, file_at, ReadsWhole}
use Rattle.c_lexer.specs.TokenSpelling.{longest_text}
use Rattle.c_rules.specs.Accepted.{IsAcceptedAs}
use Rattle.c_tree.specs.Tree.{Program}
use Rattle.tool_frame.specs.declared.stop.Stop.{Stop}
use Rattle.tool_frame.specs.declared.stop.Stop.TheVariants as stops
use Rattle.tool_frame.specs.Stop.{Stops}
use Rattle.tool_steps.specs.declared.error.SourceError.{SourceError}
use Rattle.tool_steps.specs.declared.error.SourceError.TheVariants.{OutOfMemory, Lexical, Syntax, Nesting, Rule}
use Rattle.tool_steps.specs.declared.source.Source.{Source}
use Rattle.tool_steps.specs.Sources.{IsSourceOf, IsSourceCause, HasNoProgram, RefusesSource}
use Rattle.tool_steps.specs.Stopping.{IsStopOfSource}

module _ (mode : Mode) (file text : List ℕ) (cut : text ≡ take (longest_text mode + 1) file) where
  -- what is read is the file where it is within the limit
  text_is_file : length text ≤ longest_text mode → text ≡ file
  text_is_file short =
      let long : length file ≤ longest_text mode + 1 = omega (arith, length-take (longest_text mode + 1) file, ap length cut, short) in
      cut ∙ take_all (longest_text mode + 1) file long

  pub source_is_file : (source : Source) → IsSourceOf text mode source → IsSourceOf file mode source
  source_is_file source is = subst (λ (w : List ℕ). IsSourceOf w mode source) (text_is_file is.lexed.short) is

  -- a cause that is shown of what is read is one of the file

  cause_of_file : (error : SourceError) → IsSourceCause error text mode → IsSourceCause error file mode
  cause_of_file OutOfMemory cause = tt
  cause_of_file (Lexical code place) (inl long) =
      inl (record { long = (let l = long.long in omega (arith, l, length-take (longest_text mode + 1) file, ap length cut)); is_code = long.is_code; is_place = long.is_place })
  cause_of_file (Lexical code place) (inr stopped) =
      subst (λ (w : List ℕ). IsSourceCause (Lexical code place) w mode) (text_is_file stopped.short) (inr stopped)
  cause_of_file (Syntax place) cause = subst (λ (w : List ℕ). IsSourceCause (Syntax place) w mode) (text_is_file cause.lexed.short) cause
  cause_of_file (Nesting place) cause = subst (λ (w : List ℕ). IsSourceCause (Nesting place) w mode) (text_is_file cause.lexed.short) cause
  cause_of_file (Rule code place) cause = subst (λ (w : List ℕ). IsSourceCause (Rule code place) w mode) (text_is_file cause.lexed.short) cause

  -- a file that is accepted is what is read
  none_of_file : ((p : Program) → IsAcceptedAs text mode p → ⊥) → (p : Program) → IsAcceptedAs file mode p → ⊥
  none_of_file none p is =
      let short : length text ≤ longest_text mode = (let s = is.lexed.short in omega (arith, s, length-take (longest_text mode + 1) file, ap length cut)) in
      none p (subst (λ (w : List ℕ). IsAcceptedAs w mode p) (sym (text_is_file short)) is)

-- what was read of a told file
pub source_of_file : (told : Option Files) (name text : List ℕ) (mode : Mode) (source : Source) → ReadsWhole told name (longest_text mode + 1) text → IsSourceOf text mode source → IfSome told (λ files. IsSourceOf (file_at files name) mode source)
source_of_file None name text mode source reads is = tt
source_of_file (Some files) name text mode source reads is = source_is_file mode (file_at files name) text reads source is

-- a refusal that is shown of what was read is one of the file, where the files are told
pub refusal_told : (told : Option Files) (name text : List ℕ) (mode : Mode) (error : SourceError) → ReadsWhole told name (longest_text mode + 1) text → error ≢ OutOfMemory → IsSourceCause error text mode → HasNoProgram error text mode
    → IfSome told (λ files. IsSourceCause error (file_at files name) mode × ((p : Program) → IsAcceptedAs (file_at files name) mode p → ⊥))
refusal_told None name text mode error reads named cause none = tt
refusal_told (Some files) name text mode error reads named cause none =
    (cause_of_file mode (file_at files name) text reads error cause, none_of_file mode (file_at files name) text reads (none named))

pub stops_source : (told : Option Files) (name text : List ℕ) (mode : Mode) (error : SourceError) (stop : Stop) (Lacking : Type 0) (before after : ℕ) → ReadsWhole told name (longest_text mode + 1) text → IsSourceCause error text mode → HasNoProgram error text mode → IsStopOfSource stop error
    → Stops stop (RefusesSource mode told name) Lacking before after
stops_source told name text mode error stops.Usage Lacking before after reads cause none why = why
stops_source told name text mode error (stops.Source line) Lacking before after reads cause none why =
    (error, why.0, refl, why.1, refusal_told told name text mode error reads why.0 cause none)
stops_source told name text mode error (stops.Model line) Lacking before after reads cause none why = absurd why
stops_source told name text mode error (stops.Record line) Lacking before after reads cause none why = absurd why
stops_source told name text mode error stops.Read Lacking before after reads cause none why = absurd why
stops_source told name text mode error stops.Write Lacking before after reads cause none why = why
stops_source told name text mode error stops.OutOfMemory Lacking before after reads cause none why = tt
