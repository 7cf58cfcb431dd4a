-- The names that scopes hold, the newest first.
use Rattle.std.specs.Prelude.{ℕ, List, [], ◌∷◌, map, length, Option, Some, None, cond, bytes_eq}
use Rattle.c_tree.specs.View.{ctype_of}
use Rattle.c_check_scopes.specs.declared.meaning.Meaning.{Meaning as MeaningTree}
use Rattle.c_check_scopes.specs.declared.meaning.Meaning.TheVariants as m
use Rattle.c_rules.specs.Scopes.{Meaning, a_static, a_local, a_function, an_enumerator, Binding}

-- a name, how many blocks enclose its declaration, and what it means
pub record Bound : Type 0 where
  pub name : List ℕ
  pub depth : ℕ
  pub means : MeaningTree

abbrev pub bound : List ℕ → ℕ → MeaningTree → Bound
bound x d m = record { name = x; depth = d; means = m }

-- what they are in the rules
abbrev pub meaning_of : MeaningTree → Meaning
meaning_of (m.Static seen whole defined) = a_static (ctype_of seen) (ctype_of whole) defined
meaning_of (m.Local n seen whole) = a_local n (ctype_of seen) (ctype_of whole)
meaning_of (m.Function t defined) = a_function (ctype_of t) defined
meaning_of (m.Enumerator z) = an_enumerator z

abbrev pub binding_of : Bound → Binding
binding_of b = record { name = b.name; depth = b.depth; means = meaning_of b.means }

abbrev pub bindings_of : List Bound → List Binding
bindings_of bs = map binding_of bs

-- how many names stand behind the newest one with this name
abbrev pub place : List Bound → List ℕ → Option ℕ
place [] x = None
place (b ∷ bs) x = cond (bytes_eq b.name x) (Some (length bs)) (place bs x)
