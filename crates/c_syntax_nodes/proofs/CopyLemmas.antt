-- Lists of trees are told by their parts, and nodes with lists by these.
use Rattle.std.proofs.Common.{◌≡◌, ℕ, List, [], ◌∷◌, map, Option, Some, None, Vec, Global, Result, Ok, Err, refl, ap, sym, ◌∙◌}
use Rattle.std.specs.Prelude.{Box, IfOk}
use Rattle.c_syntax.specs.declared.tree.Expr.{Expr as ExprTree}
use Rattle.c_syntax.specs.declared.tree.ExprKind.TheVariants.{Comma, Call}
use Rattle.c_syntax.specs.declared.tree.TypeName.{TypeName as TypeTree, out-TypeName, roll-TypeName}
use Rattle.c_syntax.specs.declared.tree.Param.{Param as ParamTree, Param', out-Param, roll-Param}
use Rattle.c_syntax.specs.declared.tree.Spec.{Spec as Specified}
use Rattle.c_syntax.specs.declared.tree.Declarator.{Declarator as DeclaratorTree}
use Rattle.c_syntax.specs.declared.tree.DeclaratorKind.TheVariants.{Pointer, Array, Function}
use Rattle.c_syntax.specs.declared.tree.Init.{Init as InitTree}
use Rattle.c_syntax.specs.declared.tree.InitKind.TheVariants.{List as listed}
use Rattle.c_syntax.specs.declared.tree.DeclPart.{DeclPart}
use Rattle.c_syntax.specs.declared.tree.Label.{Label}
use Rattle.c_syntax.specs.declared.tree.LabelKind.{LabelKind}
use Rattle.c_syntax.specs.declared.tree.LabelKind.TheVariants.{Case, Default}
use Rattle.c_syntax.specs.declared.tree.Member.{Member}
use Rattle.c_syntax.specs.declared.tree.Enumerator.{Enumerator}
use Rattle.c_syntax.specs.Tree.{Spec, type_name, Expr, comma, call, Exprs, no_exprs, more_exprs, Params, no_params, more_params, Declarator, pointer, array, function, Init, list, Inits, no_inits, more_inits, Parts, no_parts, more_parts, Labels, no_labels, case_label, default_label, Declarators, no_declarators, more_declarators, Members, no_members, more_members, Enumerators, no_enumerators, more_enumerators}
use Rattle.c_syntax.specs.View.{spec_of, expr_at, expr_of, type_name_of, declarator_at, declarator_of, param_before}
use Rattle.c_syntax.specs.UnitView.{init_at, init_of, parts_of, label_before, labels_of, declarators_of, members_of, enumerators_of}
use Rattle.c_syntax.specs.Writes.{exprs_of, params_of, declarator_in, declarator_behind, expr_behind}
use Rattle.c_syntax.specs.WritesUnit.{inits_of}
use Rattle.c_syntax.proofs.NodeRows.{comma_is, call_is, type_name_is, param_is, pointer_is, array_is, function_is, list_is}
use Rattle.c_syntax_nodes.specs.Copied.{param_of, label_of, part_of, member_of, enumerator_of}

-- ## Lists

abbrev exprs_from : List Expr → Exprs
exprs_from [] = no_exprs
exprs_from (e ∷ es) = more_exprs e (exprs_from es)

exprs_are : (es : List ExprTree) → exprs_from (map expr_of es) ≡ exprs_of es
exprs_are [] = refl
exprs_are (e ∷ es) = ap (more_exprs (expr_of e)) (exprs_are es)

pub same_exprs : (es fs : List ExprTree) → map expr_of es ≡ map expr_of fs → exprs_of es ≡ exprs_of fs
same_exprs es fs q = sym (exprs_are es) ∙ (ap exprs_from q ∙ exprs_are fs)

abbrev param_then : Params → Params → Params
param_then no_params rest = rest
param_then (more_params at s d more) rest = more_params at s d rest

abbrev pub params_from : List Params → Params
params_from [] = no_params
params_from (p ∷ ps) = param_then p (params_from ps)

pub params_are : (ps : List ParamTree) → params_from (map param_of ps) ≡ params_of ps
params_are [] = refl
params_are (Param' s held at ∷ ps) = ap (param_before (Param' s held at)) (params_are ps)

pub same_params : (ps qs : List ParamTree) → map param_of ps ≡ map param_of qs → params_of ps ≡ params_of qs
same_params ps qs q = sym (params_are ps) ∙ (ap params_from q ∙ params_are qs)

abbrev label_then : Labels → Labels → Labels
label_then no_labels rest = rest
label_then (case_label at e more) rest = case_label at e rest
label_then (default_label at more) rest = default_label at rest

abbrev labels_from : List Labels → Labels
labels_from [] = no_labels
labels_from (x ∷ xs) = label_then x (labels_from xs)

label_more : (at : ℕ) (k : LabelKind) (rest : Labels) → label_then (label_before at k no_labels) rest ≡ label_before at k rest
label_more at (Case e) rest = refl
label_more at Default rest = refl

labels_are : (xs : List Label) → labels_from (map label_of xs) ≡ labels_of xs
labels_are [] = refl
labels_are (x ∷ xs) = label_more x.at x.kind (labels_from (map label_of xs)) ∙ ap (label_before x.at x.kind) (labels_are xs)

pub same_labels : (xs ys : List Label) → map label_of xs ≡ map label_of ys → labels_of xs ≡ labels_of ys
same_labels xs ys q = sym (labels_are xs) ∙ (ap labels_from q ∙ labels_are ys)

abbrev declarators_from : List Declarator → Declarators
declarators_from [] = no_declarators
declarators_from (d ∷ ds) = more_declarators d (declarators_from ds)

declarators_are : (ds : List DeclaratorTree) → declarators_from (map declarator_of ds) ≡ declarators_of ds
declarators_are [] = refl
declarators_are (d ∷ ds) = ap (more_declarators (declarator_of d)) (declarators_are ds)

pub same_declarators : (ds es : List DeclaratorTree) → map declarator_of ds ≡ map declarator_of es → declarators_of ds ≡ declarators_of es
same_declarators ds es q = sym (declarators_are ds) ∙ (ap declarators_from q ∙ declarators_are es)

abbrev member_then : Members → Members → Members
member_then no_members rest = rest
member_then (more_members at s ds more) rest = more_members at s ds rest

abbrev members_from : List Members → Members
members_from [] = no_members
members_from (x ∷ xs) = member_then x (members_from xs)

members_are : (xs : List Member) → members_from (map member_of xs) ≡ members_of xs
members_are [] = refl
members_are (x ∷ xs) = ap (member_then (member_of x)) (members_are xs)

pub same_members : (xs ys : List Member) → map member_of xs ≡ map member_of ys → members_of xs ≡ members_of ys
same_members xs ys q = sym (members_are xs) ∙ (ap members_from q ∙ members_are ys)

abbrev enumerator_then : Enumerators → Enumerators → Enumerators
enumerator_then no_enumerators rest = rest
enumerator_then (more_enumerators x m more) rest = more_enumerators x m rest

abbrev enumerators_from : List Enumerators → Enumerators
enumerators_from [] = no_enumerators
enumerators_from (x ∷ xs) = enumerator_then x (enumerators_from xs)

enumerators_are : (xs : List Enumerator) → enumerators_from (map enumerator_of xs) ≡ enumerators_of xs
enumerators_are [] = refl
enumerators_are (x ∷ xs) = ap (enumerator_then (enumerator_of x)) (enumerators_are xs)

pub same_enumerators : (xs ys : List Enumerator) → map enumerator_of xs ≡ map enumerator_of ys → enumerators_of xs ≡ enumerators_of ys
same_enumerators xs ys q = sym (enumerators_are xs) ∙ (ap enumerators_from q ∙ enumerators_are ys)

abbrev inits_from : List Init → Inits
inits_from [] = no_inits
inits_from (i ∷ is) = more_inits i (inits_from is)

inits_are : (is : List InitTree) → inits_from (map init_of is) ≡ inits_of is
inits_are [] = refl
inits_are (i ∷ is) = ap (more_inits (init_of i)) (inits_are is)

pub same_inits : (is js : List InitTree) → map init_of is ≡ map init_of js → inits_of is ≡ inits_of js
same_inits is js q = sym (inits_are is) ∙ (ap inits_from q ∙ inits_are js)

abbrev pub part_then : Parts → Parts → Parts
part_then no_parts rest = rest
part_then (more_parts d m more) rest = more_parts d m rest

abbrev parts_from : List Parts → Parts
parts_from [] = no_parts
parts_from (p ∷ ps) = part_then p (parts_from ps)

parts_are : (ps : List DeclPart) → parts_from (map part_of ps) ≡ parts_of ps
parts_are [] = refl
parts_are (p ∷ ps) = ap (part_then (part_of p)) (parts_are ps)

pub same_parts : (ps qs : List DeclPart) → map part_of ps ≡ map part_of qs → parts_of ps ≡ parts_of qs
same_parts ps qs q = sym (parts_are ps) ∙ (ap parts_from q ∙ parts_are qs)

-- ## Nodes with lists

pub comma_same : (e : ExprTree) (v w : Vec ExprTree Global) → e.kind ≡ Comma v → map expr_of w.items ≡ map expr_of v.items → comma e.at (exprs_of w.items) ≡ expr_of e
comma_same e v w is q = ap (comma e.at) (same_exprs w.items v.items q) ∙ (sym (comma_is e.at v) ∙ sym (ap (expr_at e.at) is))

pub call_same : (e : ExprTree) (d : Box ExprTree Global) (v w : Vec ExprTree Global) (f : Expr) → e.kind ≡ Call d v → f ≡ expr_of d.value → map expr_of w.items ≡ map expr_of v.items → call e.at f (exprs_of w.items) ≡ expr_of e
call_same e d v w f is g q = ap (λ f. call e.at f (exprs_of w.items)) g ∙ (ap (call e.at (expr_of d.value)) (same_exprs w.items v.items q) ∙ (sym (call_is e.at d v) ∙ sym (ap (expr_at e.at) is)))

pub pointer_same : (d : DeclaratorTree) (i : Option (Box DeclaratorTree Global)) (j : Declarator) → d.kind ≡ Pointer i → j ≡ declarator_behind i → pointer d.at j ≡ declarator_of d
pointer_same d i j is g = ap (pointer d.at) g ∙ (sym (pointer_is d.at i) ∙ sym (ap (declarator_at d.at) is))

pub array_same : (d : DeclaratorTree) (i : Option (Box DeclaratorTree Global)) (n m : Option (Box ExprTree Global)) (j : Declarator) → d.kind ≡ Array i n → j ≡ declarator_behind i → expr_behind m ≡ expr_behind n → array d.at j (expr_behind m) ≡ declarator_of d
array_same d i n m j is g h = ap (λ k. array d.at k (expr_behind m)) g ∙ (ap (array d.at (declarator_behind i)) h ∙ (sym (array_is d.at i n) ∙ sym (ap (declarator_at d.at) is)))

pub function_same : (d : DeclaratorTree) (i : Option (Box DeclaratorTree Global)) (v w : Vec ParamTree Global) (f : Declarator) → d.kind ≡ Function i v → f ≡ declarator_behind i → map param_of w.items ≡ map param_of v.items → function d.at f (params_of w.items) ≡ declarator_of d
function_same d i v w f is g q = ap (λ k. function d.at k (params_of w.items)) g ∙ (ap (function d.at (declarator_behind i)) (same_params w.items v.items q) ∙ (sym (function_is d.at i v) ∙ sym (ap (declarator_at d.at) is)))

pub list_same : (x : InitTree) (v w : Vec InitTree Global) → x.kind ≡ listed v → map init_of w.items ≡ map init_of v.items → list x.at (inits_of w.items) ≡ init_of x
list_same x v w is q = ap (list x.at) (same_inits w.items v.items q) ∙ (sym (list_is x.at v) ∙ sym (ap (init_at x.at) is))

-- ## Names of types and parameters

pub type_name_made : (s : Specified) (d : Option DeclaratorTree) (at : ℕ) → type_name_of (roll-TypeName (record { spec = s; declarator = d; at = at })) ≡ type_name at (spec_of s) (declarator_in d)
unfolding roll-TypeName denote.Hole.Carrier.roll
type_name_made s None at = refl
type_name_made s (Some d) at = refl

pub param_made : (s : Specified) (d : Option DeclaratorTree) (at : ℕ) (rest : Params) → param_before (roll-Param (record { spec = s; declarator = d; at = at })) rest ≡ more_params at (spec_of s) (declarator_in d) rest
unfolding roll-Param denote.Hole.Carrier.roll
param_made s None at rest = refl
param_made s (Some d) at rest = refl

pub type_same : (n : TypeTree) (s : Spec) (d : Declarator) → s ≡ spec_of (out-TypeName n).spec → d ≡ declarator_in (out-TypeName n).declarator → type_name (out-TypeName n).at s d ≡ type_name_of n
type_same n s d p q = ap (λ x. type_name (out-TypeName n).at x d) p ∙ (ap (type_name (out-TypeName n).at (spec_of (out-TypeName n).spec)) q ∙ sym (type_name_is n))

pub param_same : (n : ParamTree) (s : Spec) (d : Declarator) → s ≡ spec_of (out-Param n).spec → d ≡ declarator_in (out-Param n).declarator → more_params (out-Param n).at s d no_params ≡ param_of n
param_same n s d p q = ap (λ x. more_params (out-Param n).at x d no_params) p ∙ (ap (λ y. more_params (out-Param n).at (spec_of (out-Param n).spec) y no_params) q ∙ sym (param_is n no_params))

-- what was made, by other words
pub made_as : {A B E : Type 0} (f : A → B) (r : Result A E) (x y : B) → x ≡ y → IfOk r (λ m. f m ≡ x) → IfOk r (λ m. f m ≡ y)
made_as f (Ok a) x y q h = h ∙ q
made_as f (Err e) x y q h = tt
