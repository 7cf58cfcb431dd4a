-- For private contracts and proofs alone: the parts of a line, and what was read of a file.
use Rattle.std.specs.Prelude.{ℕ, List, ◌++◌, flat_map, codes, decimal}
use Rattle.text_places.specs.Locations.{SourceLocation, location_text}
use Rattle.c_tree.specs.Tree.{Program}
use Rattle.c_meaning.specs.CallGraph.{candidates}
use Rattle.site_lines.specs.SiteLines.{kind_of_site, name_behind}

-- what stands before the location
abbrev pub site_front : Program → ℕ → List ℕ
site_front p n = decimal n ++ codes " " ++ kind_of_site p n ++ codes " "

-- what stands behind it
abbrev pub site_end : Program → ℕ → (caller : List ℕ) → List ℕ
site_end p n caller = codes " in " ++ caller ++ codes " calls" ++ flat_map (name_behind p) (candidates p n) ++ codes "\n"

-- the line of a site at this location
abbrev pub line_at : Program → ℕ → SourceLocation → (caller : List ℕ) → List ℕ
line_at p n location caller = site_front p n ++ location_text location ++ site_end p n caller
