-- What `sites` makes of a file that was read up to one byte past the limit.
use Rattle.std.proofs.Common.{◌≡◌, ℕ, ◌+◌, ◌≤◌, List, length, take, Option, Some, None, IfSome, refl, sym, ◌∙◌, ap, ap₂, subst, arith}
use Rattle.std.proofs.lemmas.List.{take_all, length-take}
use Rattle.dm_base.specs.declared.mode.Mode.TheVariants.{Plain}
use Rattle.dm_base.specs.declared.verdict.Status.{Status}
use Rattle.dm_io.specs.Store.{Files, file_at, ReadsWhole}
use Rattle.c_lexer.specs.TokenSpelling.{longest_text}
use Rattle.c_syntax.specs.UnitView.{items_of}
use Rattle.c_tree.specs.View.{program_of}
use Rattle.tool_steps.specs.declared.source.Source.{Source}
use Rattle.tool_steps.specs.Sources.{IsSourceOf, RefusesSource}
use Rattle.c_rules_laws.specs.AreSites.{AreSitesOf}
use Rattle.site_lines.specs.SiteLines.{sites_text}
use Rattle.tool_texts.specs.Sites.{TellsSites, IsReadyToTellSites}

-- a text within the limit is the whole file
whole : (file read : List ℕ) → read ≡ take (longest_text Plain + 1) file → length read ≤ longest_text Plain → read ≡ file
whole file read cut short =
    let long : length file ≤ longest_text Plain + 1 = omega (arith, length-take (longest_text Plain + 1) file, ap length cut, short) in
    cut ∙ take_all (longest_text Plain + 1) file long

tells_of_file : (files : Files) (name file read text : List ℕ) (source : Source) → file_at files name ≡ file → read ≡ file → IsSourceOf read Plain source → AreSitesOf (items_of source.unit.items.items) (program_of source.program)
    → text ≡ sites_text name read (items_of source.unit.items.items) (program_of source.program) → TellsSites files name text
tells_of_file files name file read text source named same is sites tells =
    let here : read ≡ file_at files name = same ∙ sym named in
    let found : IsSourceOf (file_at files name) Plain source = subst (λ (w : List ℕ). IsSourceOf w Plain source) here is in
    record {
      program = program_of source.program;
      accepted = record { tokens = found.tokens; unit = items_of source.unit.items.items; lexed = found.lexed; spelled = found.spelled; typed = found.typed };
      sites = sites;
      tells = tells ∙ ap (λ (w : List ℕ). sites_text name w (items_of source.unit.items.items) (program_of source.program)) here;
    }

-- `bytes` and `given` are the name and what was read, as they were handed on
pub tells_sites : (told : Option Files) (name read bytes given text : List ℕ) (source : Source) → ReadsWhole told name (longest_text Plain + 1) read → IsSourceOf read Plain source → AreSitesOf (items_of source.unit.items.items) (program_of source.program)
    → bytes ≡ name → given ≡ read → text ≡ sites_text bytes given (items_of source.unit.items.items) (program_of source.program) → IfSome told (λ files. TellsSites files name text)
tells_sites None name read bytes given text source reads is sites named same tells = tt
tells_sites (Some files) name read bytes given text source reads is sites named same tells =
    tells_of_file files name (file_at files name) read text source refl (whole (file_at files name) read reads is.lexed.short) is sites
    (tells ∙ ap₂ (λ (f w : List ℕ). sites_text f w (items_of source.unit.items.items) (program_of source.program)) named same)

-- a file that is accepted isn't refused, and a refused one has one status

pub sites_ready : (told : Option Files) (name line : List ℕ) (status : Status) → IsReadyToTellSites told name → RefusesSource Plain told name status line → ⊥
sites_ready None name line status ready refuses = ready
sites_ready (Some files) name line status ready refuses = (refuses.4).1 ready.0 ready.1

pub sites_apart : (told : Files) (name text line : List ℕ) (status : Status) → TellsSites told name text → RefusesSource Plain (Some told) name status line → ⊥
sites_apart told name text line status makes refuses = (refuses.4).1 makes.program makes.accepted
