-- The parts of a program.
use Rattle.std.proofs.Common.{◌≡◌, ℕ, zero, suc, ◌+◌, ◌<◌, ◌≤◌, All, List, [], ◌∷◌, ◌++◌, length, map, take, get_or, Bor, ap, sym, subst, ◌∙◌, arith, append_assoc}
use Rattle.std.proofs.lemmas.List.{map-append, take_all, take_more}
use Rattle.std.proofs.lemmas.List.Elements.{All-head, All-tail}
use Rattle.c_syntax.specs.SeenNames.{seen, bytes_of}
use Rattle.c_rules.specs.Limits.{most_cells}
use Rattle.c_rules.specs.Units.{static_string}
use Rattle.c_tree.specs.Counts.{AreCounts}
use Rattle.c_tree.specs.declared.tree.Function.{Function as FunctionTree}
use Rattle.c_tree.specs.declared.tree.Static.{Static as StaticTree}
use Rattle.c_tree.specs.declared.tree.StructMembers.{StructMembers}
use Rattle.c_tree.specs.Layout.{Structs}
use Rattle.c_tree.specs.Program.{IsProgram}
use Rattle.c_tree.specs.Tree.{Function, Static, Program}
use Rattle.c_tree.specs.View.{function_of, members_in, program_of, static_of}

seen_more : (xs : List (Bor (List ℕ))) (i : ℕ) (d : Bor (List ℕ)) → i < length xs → seen (take (i + 1) xs) ≡ seen (take i xs) ++ (get_or xs i d).now ∷ []
seen_more xs i d lt = ap seen (take_more xs i d lt) ∙ map-append bytes_of (take i xs) (get_or xs i d ∷ [])

pub statics_more : (xs : List (Bor (List ℕ))) (i : ℕ) (d : Bor (List ℕ)) (start : List Static) (old new : List StaticTree) (s : StaticTree) → i < length xs → map static_of old ≡ start ++ map static_string (seen (take i xs))
    → static_of s ≡ static_string (get_or xs i d).now → new ≡ old ++ s ∷ [] → map static_of new ≡ start ++ map static_string (seen (take (i + 1) xs))
statics_more xs i d start old new s lt before is step =
    ap (map static_of) step
    ∙ (map-append static_of old (s ∷ [])
    ∙ ((λ j. before j ++ is j ∷ [])
    ∙ (append_assoc start (map static_string (seen (take i xs))) (static_string (get_or xs i d).now ∷ [])
    ∙ ap (λ ys. start ++ ys) (sym (ap (map static_string) (seen_more xs i d lt) ∙ map-append static_string (seen (take i xs)) ((get_or xs i d).now ∷ []))))))

pub statics_all : (xs : List (Bor (List ℕ))) (i : ℕ) (start all : List Static) → length xs ≤ i → all ≡ start ++ map static_string (seen (take i xs)) → all ≡ start ++ map static_string (seen xs)
statics_all xs i start all over is = is ∙ ap (λ ys. start ++ map static_string (seen ys)) (take_all i xs over)

pub short_at : (xs : List (Bor (List ℕ))) (i : ℕ) (d : Bor (List ℕ)) → i < length xs → All (λ w. length w < most_cells) (seen xs) → length (get_or xs i d).now < most_cells
short_at [] i d lt h = absurd (omega (arith, lt))
short_at (x ∷ xs) zero d lt h = All-head (λ w. length w < most_cells) x.now (seen xs) h
short_at (x ∷ xs) (suc i) d lt h = short_at xs i d (omega (arith, lt)) (All-tail (λ w. length w < most_cells) x.now (seen xs) h)

-- ## The program

abbrev pub made : Structs → List Function → ℕ → List Static → Program
made structs fs n statics = record { structs = structs; functions = fs; main = n; statics = statics }

module _ (structs : List StructMembers) (fs : List FunctionTree) (n : ℕ) (statics : List StaticTree) (laid : Structs) (all : List Static) (is : map members_in structs ≡ laid) (objects : map static_of statics ≡ all) where
  pub program_same : program_of (record { structs = structs; functions = fs; main = n; statics = statics }) ≡ made laid (map function_of fs) n all
  program_same = λ i. made (is i) (map function_of fs) n (objects i)

  pub program_right : (sites : ℕ) → IsProgram (made laid (map function_of fs) n all) sites → IsProgram (program_of (record { structs = structs; functions = fs; main = n; statics = statics })) sites
  program_right sites h = subst (λ p. IsProgram p sites) (sym program_same) h

  pub counts_right : (counts : List ℕ) → AreCounts laid counts → AreCounts (map members_in structs) counts
  counts_right counts h = subst (λ l. AreCounts l counts) (sym is) h
