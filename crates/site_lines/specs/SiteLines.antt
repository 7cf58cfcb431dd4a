-- The lines that tell the call expressions of a unit, which are the sites of the program that it is typed as.
use Rattle.std.specs.Prelude.{ℕ, suc, Bool, false, nat_le, if◌then◌else◌, List, [], ◌∷◌, ◌++◌, flat_map, Option, Some, None, codes, decimal}
use Rattle.text_places.specs.Locations.{located, location_text}
use Rattle.c_syntax.specs.Tree.{Items}
use Rattle.c_tree.specs.Functions.{defined, name_of_function}
use Rattle.c_tree.specs.Tree.{Program}
use Rattle.c_meaning.specs.CallGraph.{callee_at, candidates, marked}
use Rattle.c_meaning.specs.Mentions.{Callee, Direct, Through, mentions_of_program}
use Rattle.c_rules.specs.CallPlaces.{CallPlace, call_places}

-- what is called is a system call, by its name
abbrev pub is_system_call : Program → Option Callee → Bool
is_system_call p None = false
is_system_call p (Some (Direct f)) = nat_le (defined p) f
is_system_call p (Some (Through t)) = false

-- the word for the site n: a direct call of a system call, another one round which null calls stand in the instrumented text, or one round which none do
abbrev pub kind_of_site : Program → ℕ → List ℕ
kind_of_site p n =
    if is_system_call p (callee_at n (mentions_of_program p)) then codes "system"
    else if marked p n then codes "marked"
    else codes "silent"

-- the name of the function with this number, behind a blank
abbrev pub name_behind : Program → ℕ → List ℕ
name_behind p f = codes " " ++ name_of_function p f

-- The line of the site n, the call expression c of the text: its kind, where its first byte stands, the function in which it stands, and its candidates,
-- those of the program in their order and then the system calls in the order of the table.
abbrev pub site_line : (file text : List ℕ) → Program → (n : ℕ) → (c : CallPlace) → List ℕ
site_line file text p n c =
    decimal n ++ codes " " ++ kind_of_site p n ++ codes " " ++ location_text (located file text c.at) ++ codes " in " ++ c.caller ++ codes " calls" ++ flat_map (name_behind p) (candidates p n) ++ codes "\n"

-- the lines of call expressions, of which the first is the site n
abbrev pub site_lines : (file text : List ℕ) → Program → (n : ℕ) → List CallPlace → List ℕ
site_lines file text p n [] = []
site_lines file text p n (c ∷ cs) = site_line file text p n c ++ site_lines file text p (suc n) cs

-- the lines of a unit's call expressions
abbrev pub sites_text : (file text : List ℕ) → Items → Program → List ℕ
sites_text file text u p = site_lines file text p 0 (call_places u)
