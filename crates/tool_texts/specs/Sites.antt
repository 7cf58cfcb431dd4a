-- What `sites FILE` makes of its file; it refuses it as a C text is refused.
use Rattle.std.specs.Prelude.{◌≡◌, List, ℕ, Option, IsSomeAnd}
use Rattle.dm_base.specs.declared.mode.Mode.TheVariants.{Plain}
use Rattle.dm_io.specs.Store.{Files, file_at}
use Rattle.c_tree.specs.Tree.{Program}
use Rattle.c_rules.specs.Accepted.{IsAcceptedAs}
use Rattle.c_rules_laws.specs.AreSites.{AreSitesOf}
use Rattle.site_lines.specs.SiteLines.{sites_text}

-- The file's text is accepted as a program, and these are the lines of the unit's call expressions, which are the sites of the program.
pub record TellsSites (files : Files) (name text : List ℕ) : Type 0 where
  pub program : Program
  pub accepted : IsAcceptedAs (file_at files name) Plain program
  pub sites : AreSitesOf accepted.unit program
  pub tells : text ≡ sites_text name (file_at files name) accepted.unit program

-- the file is told, and its text is accepted as a program
abbrev pub IsReadyToTellSites : Option Files → List ℕ → Type 0
IsReadyToTellSites files name = IsSomeAnd files (λ told. (p : Program) × IsAcceptedAs (file_at told name) Plain p)
