-- What `check FILE` makes of its file; it refuses it as a C text is refused.
use Rattle.std.specs.Prelude.{◌≡◌, ℕ, List, ◌++◌, length, Option, IsSomeAnd, codes, decimal}
use Rattle.dm_base.specs.declared.mode.Mode.TheVariants.{Plain}
use Rattle.dm_io.specs.Store.{Files, file_at}
use Rattle.c_rules.specs.Accepted.{IsAcceptedAs}
use Rattle.c_tree.specs.Functions.{defined}
use Rattle.c_tree.specs.Sites.{sites_of_program}
use Rattle.c_tree.specs.Tree.{Program}

-- how many functions a program defines, and how many call expressions it has
abbrev pub checked_text : Program → List ℕ
checked_text p = codes "ok functions " ++ decimal (defined p) ++ codes " sites " ++ decimal (length (sites_of_program p)) ++ codes "\n"

-- the file's text is accepted as a program, and these are its numbers
abbrev pub Checks : Files → List ℕ → List ℕ → Type 0
Checks files name text = (p : Program) × IsAcceptedAs (file_at files name) Plain p × (text ≡ checked_text p)

-- the file is told, and its text is accepted as a program
abbrev pub IsReadyToCheck : Option Files → List ℕ → Type 0
IsReadyToCheck files name = IsSomeAnd files (λ told. (p : Program) × IsAcceptedAs (file_at told name) Plain p)
