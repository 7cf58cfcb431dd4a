-- Names of parameters, and `void *`.
use Rattle.std.proofs.Common.{◌≡◌, ℕ, Bool, true, false, ◌&&◌, List, [], ◌∷◌, Option, Some, None, Result, Ok, Err, OnOk, refl, ap, sym, subst, ◌∙◌}
use Rattle.std.specs.Prelude.{Box, is_none, is_some, not}
use Rattle.std.specs.Global.{Global}
use Rattle.c_syntax.proofs.NodeRows.{type_name_is, pointer_is}
use Rattle.c_syntax.specs.declared.tree.Declarator.{Declarator as DeclaratorTree}
use Rattle.c_syntax.specs.declared.tree.DeclaratorKind.{DeclaratorKind, Name, Pointer', Array', Function'}
use Rattle.c_syntax.specs.declared.tree.DeclaratorKind.TheVariants as dk
use Rattle.c_syntax.specs.declared.tree.TypeName.{TypeName as TypeTree, out-TypeName}
use Rattle.c_syntax.specs.Tree.{Ident, pointer}
use Rattle.c_syntax.specs.View.{spec_of, type_name_of, declarator_at, declarator_of}
use Rattle.c_syntax.specs.Writes.{declarator_in, declarator_behind}
use Rattle.c_tree.specs.Tree.{CType}
use Rattle.c_check_types.specs.CheckError.{CheckError}
use Rattle.c_check_types.specs.Agreement.{Names}
use Rattle.c_check_types.proofs.Parts.{names_second}
use Rattle.c_rules.specs.Checked.{fine, faults, both, met}
use Rattle.c_rules.specs.Declarators.{behind_parameter, is_bare_pointer, is_void_pointer, is_void_spec, new_name, place_or, with_name_demands}
use Rattle.c_check_counts.specs.Bound.{Bound}
use Rattle.c_check_counts.specs.Environment.{Environment}
use Rattle.c_check_expressions.specs.Parts.{Declares}
use Rattle.c_rules.specs.Scopes.{Env, a_local, meaning_or_unknown, with_name}

-- ## Names

pub demands_met : (env : Env) (o : Option Ident) (x : Ident) (t : CType) → o ≡ Some x → new_name env x ≡ fine met → with_name_demands env o (fine t) ≡ fine t
demands_met env o x t h q = ap (λ p. with_name_demands env p (fine t)) h ∙ ap (λ r. both (fine t) r (λ u _. fine u)) q

pub demands_fail : (e : CheckError) (env : Env) (o : Option Ident) (x : Ident) (t : CType) → o ≡ Some x → Names e (faults (new_name env x)) → Names e (faults (with_name_demands env o (fine t)))
demands_fail e env o x t h n =
    subst (λ p. Names e (faults (with_name_demands env p (fine t)))) (sym h) (names_second e (fine t) (new_name env x) (λ u _. fine u) n)

pub behind_named : (env : Env) (k : ℕ) (o : Option Ident) (x : Ident) (t : CType) → o ≡ Some x → new_name env x ≡ fine met → behind_parameter env k o (fine t) ≡ with_name env x.name (a_local k t t)
behind_named env k o x t h q =
    ap (λ p. behind_parameter env k p (fine t)) h
    ∙ ap (λ r. with_name env x.name (meaning_or_unknown (both (fine t) r (λ u _. fine (a_local k u u))))) q

-- ## `void *`

named_kind : (at p : ℕ) (kind : DeclaratorKind) → is_bare_pointer (pointer p (declarator_at at kind)) ≡ false
named_kind at p (Name x) = refl
named_kind at p kind = refl

bare_behind : (p : ℕ) (inner : Option (Box DeclaratorTree Global)) → is_bare_pointer (pointer p (declarator_behind inner)) ≡ is_none inner
bare_behind p None = refl
bare_behind p (Some b) = named_kind b.value.at p b.value.kind

pub bare_pointer : (d : DeclaratorTree) (inner : Option (Box DeclaratorTree Global)) → d.kind ≡ dk.Pointer inner → is_bare_pointer (declarator_of d) ≡ is_none inner
bare_pointer d inner is = ap (λ k. is_bare_pointer (declarator_at d.at k)) is ∙ (ap is_bare_pointer (pointer_is d.at inner) ∙ bare_behind d.at inner)

pub void_pointer : (n : TypeTree) → is_void_pointer (type_name_of n) ≡ is_void_spec (spec_of (out-TypeName n).spec) && is_bare_pointer (declarator_in (out-TypeName n).declarator)
void_pointer n = ap is_void_pointer (type_name_is n)

pub none_when : {A : Type 0} (o : Option A) (r : Bool) → is_some o ≡ not r → r ≡ is_none o
none_when None true h = refl
none_when None false h = cc
none_when (Some x) true h = cc
none_when (Some x) false h = refl

-- ## Places

place_kind : (at p : ℕ) (kind : DeclaratorKind) → place_or at (declarator_at p kind) ≡ p
place_kind at p (Name x) = refl
place_kind at p kind = refl

pub declarator_place : (at : ℕ) (d : DeclaratorTree) → d.at ≡ place_or at (declarator_of d)
declarator_place at d = sym (place_kind at d.at d.kind)

-- ## One more name

pub declared_one : {E : Type 0} (r : Result (Unit {0}) E) (a : Environment) (names : List Bound) (b : Bound) → OnOk r (names ≡ b ∷ a.names) → OnOk r (Declares a ((λ (w : List Bound). record a { names = w }) names))
declared_one (Ok u) a names b h = (b ∷ [], λ i. record a { names = h i })
declared_one (Err e) a names b h = h
