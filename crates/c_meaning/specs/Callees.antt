-- Which functions a call calls: those that the call graph has for its site.
use Rattle.std.specs.Prelude.{ℕ, Contains}
use Rattle.c_tree.specs.declared.value.Value.TheVariants.{Func}
use Rattle.c_tree.specs.Tree.{CType, Program}
use Rattle.c_tree.specs.Kinds.{Objects}
use Rattle.c_tree.specs.Program.{IsProgram}
use Rattle.c_meaning.specs.Mentions.{Direct, Through, Calls, mentions_of_program}
use Rattle.c_meaning.specs.CallGraph.{candidates}
use Rattle.c_meaning.specs.StoreTyping.{HasKind}

-- the function that a direct call names is a candidate of its site
abbrev pub NamedIsCandidate : Program → Type 0
NamedIsCandidate p = (s f : ℕ) → Contains (mentions_of_program p) (Calls s (Direct f)) → Contains (candidates p s) f

-- a function value of the type of the pointer that is called is a candidate of the site
abbrev pub ValueIsCandidate : Program → Type 0
ValueIsCandidate p =
    (s f : ℕ) (t : CType) (o : Objects) → Contains (mentions_of_program p) (Calls s (Through t)) → HasKind p o t (Func f) → Contains (candidates p s) f

-- each function that a call of a well-typed program calls is a candidate of its site
abbrev pub CalleesAreCandidates : Type 0
CalleesAreCandidates = (p : Program) (n : ℕ) → IsProgram p n → NamedIsCandidate p × ValueIsCandidate p
