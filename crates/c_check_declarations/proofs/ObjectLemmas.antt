-- Types, sizes and demands of declared objects.
use Rattle.std.proofs.Common.{◌≡◌, ℕ, zero, suc, ◌≤◌, Bool, true, false, List, length, Option, Some, Result, Vec, Global, nat_le, refl, sym, ap, subst, ◌∙◌, arith, [], ◌∷◌}
use Rattle.std.proofs.lemmas.Bool.{leb-true}
use Rattle.c_check_values.specs.declared.error.CheckError.{CheckError}
use Rattle.c_check_values.specs.declared.error.CheckError.TheVariants as errors
use Rattle.c_check_values.specs.Agreement.{Names, AgreesWith}
use Rattle.c_check_values.proofs.Parts.{names_on, names_first}
use Rattle.c_syntax.proofs.NodeRows.{list_is}
use Rattle.c_check_declarations.specs.Texts.{is_unsized, sized_by_count}
use Rattle.c_rules.specs.Checked.{Checked, fine, faults, demand, on, and_also, gives, Met, met}
use Rattle.c_rules.specs.Codes.{C13, C14}
use Rattle.c_rules.specs.Conversions.{complete}
use Rattle.c_rules.specs.Limits.{most_cells}
use Rattle.c_rules.specs.Items.{member_typed, without_init}
use Rattle.c_rules.specs.Objects.{Object, sized_by_init, with_size, of_known_size, object_of, object_declared}
use Rattle.c_rules.specs.Scopes.{Env, layout_of}
use Rattle.c_rules.specs.Declarators.{place_or}
use Rattle.c_rules.specs.Expressions.{type_declared}
use Rattle.c_syntax.specs.declared.tree.Init.{Init as InitTree}
use Rattle.c_syntax.specs.declared.tree.InitKind.{InitKind, One, List'}
use Rattle.c_syntax.specs.declared.tree.InitKind.TheVariants.{List as listed}
use Rattle.c_syntax.specs.Tree.{Spec, Declarator, Ident, MaybeInit, no_init, an_init}
use Rattle.c_syntax.specs.UnitView.{init_at, init_of, maybe_init_of}
use Rattle.c_rules.proofs.Below.{Holds, held, on_holds, Any, anything}
use Rattle.c_tree.specs.declared.tree.CType.{CType as TypeTree}
use Rattle.c_tree.specs.Layout.{cells}
use Rattle.c_tree.specs.View.{ctype_of}
use Rattle.c_tree.specs.Tree.{CType, void, integer, pointer, array, struct, function}
use Rattle.c_check_values.proofs.NumberLemmas.{not_so}
use Rattle.c_rules.specs.Initialisers.{count_inits}
use Rattle.c_syntax.specs.WritesUnit.{inits_of}

pub count_is : (is : List InitTree) → count_inits (inits_of is) ≡ length is
count_is [] = refl
count_is (i ∷ is) = ap suc (count_is is)

-- ## Initialisers

-- an array whose list of initialisers gives its size
pub list_judged : (name : ℕ) (t : CType) (i : InitTree) (v : Vec InitTree Global) (n : ℕ) (result : Result TypeTree CheckError) → i.kind ≡ listed v → n ≡ length v.items
    → AgreesWith ctype_of result (sized_by_count name t n) → AgreesWith ctype_of result (sized_by_init name t (init_of i))
list_judged name t i v n result is counted h =
    subst (λ r. AgreesWith ctype_of result r) (sym (ap (λ k. sized_by_init name t (init_at i.at k)) is ∙ (ap (sized_by_init name t) (list_is i.at v) ∙ ap (sized_by_count name t) (count_is v.items ∙ sym counted)))) h

kind_fails : (at : ℕ) (k : InitKind) → Names (errors.At C14 at) (faults (without_init (an_init (init_at at k))))
kind_fails at (One e) = (0, omega arith, refl)
kind_fails at (List' shape row) = (0, omega arith, refl)

-- an initialiser where none may stand
pub init_fails : (m : Option InitTree) (i : InitTree) → m ≡ Some i → Names (errors.At C14 i.at) (faults (without_init (maybe_init_of m)))
init_fails m i is = rw is (kind_fails i.at i.kind)

-- ## Demands

pub name_fails : (e : CheckError) (p q : Checked Met) (o : Object) → Names e (faults p) → Names e (faults (gives (and_also p q) (λ _. o)))
name_fails e p q o h = names_on e (and_also p q) (λ _. fine o) (names_first e p q (λ _ _. fine met) h)

-- ## Types of members

sized_is : (name : ℕ) (t : CType) → is_unsized t ≡ false → with_size name no_init t ≡ fine t
sized_is name void h = refl
sized_is name (integer i) h = refl
sized_is name (pointer t) h = refl
sized_is name (array t zero) h = absurd (not_so (sym h))
sized_is name (array t (suc n)) h = refl
sized_is name (struct s) h = refl
sized_is name (function t ts) h = refl

module _ (env : Env) (place name : ℕ) (t : CType) where
  pub incomplete_fails : (e : CheckError) → is_unsized t ≡ false → Names e (faults (complete env place t)) → Names e (faults (member_typed env place name t))
  incomplete_fails e h k = rw (sized_is name t h) (names_on e (complete env place t) (λ _. fine t) k)

  pub member_fits : is_unsized t ≡ false → complete env place t ≡ fine met → member_typed env place name t ≡ fine t
  member_fits h k = rw (sized_is name t h, k) refl

-- ## Objects have few cells

abbrev HasFew : Env → Object → Type 0
HasFew env o = cells (layout_of env) o.whole ≤ most_cells

known_few : (env : Env) (place name : ℕ) (t : CType) → Holds (λ u. cells (layout_of env) u ≤ most_cells) (of_known_size env place name t)
known_few env place name t = on_holds Any (λ u. cells (layout_of env) u ≤ most_cells) (complete env place t) (λ _. demand (nat_le (cells (layout_of env) t) most_cells) C13 name t) (anything (complete env place t)) (λ _ _. by_test (nat_le (cells (layout_of env) t) most_cells) refl)
  where
    by_test : (few : Bool) → nat_le (cells (layout_of env) t) most_cells ≡ few → Holds (λ u. cells (layout_of env) u ≤ most_cells) (demand few C13 name t)
    by_test true is = leb-true (cells (layout_of env) t) most_cells is
    by_test false is = tt

typed_few : (env : Env) (place name : ℕ) (m : MaybeInit) (t : CType) → Holds (HasFew env) (object_of env place name m t)
typed_few env place name m t =
    let sized : CType → Checked Object = λ u. on (of_known_size env place name u) (λ w. fine (record { seen = t; whole = w })) in
    on_holds Any (HasFew env) (with_size name m t) sized (anything (with_size name m t))
    (λ u _. on_holds (λ w. cells (layout_of env) w ≤ most_cells) (HasFew env) (of_known_size env place name u) (λ w. fine (record { seen = t; whole = w })) (known_few env place name u) (λ w few. few))

pub object_few : (env : Env) (at : ℕ) (s : Spec) (d : Declarator) (x : Ident) (m : MaybeInit) (o : Object) → object_declared env at s d x m ≡ fine o → cells (layout_of env) o.whole ≤ most_cells
object_few env at s d x m o is =
    held (HasFew env) (object_declared env at s d x m) o
    (on_holds Any (HasFew env) (type_declared env at s d) (object_of env (place_or at d) x.at m) (anything (type_declared env at s d)) (λ t _. typed_few env (place_or at d) x.at m t)) is
