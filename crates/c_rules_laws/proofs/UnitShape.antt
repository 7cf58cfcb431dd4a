-- What the items of a unit give, in the order of the unit: the functions and objects that it defines, with the types that their names have behind all items.
use Rattle.std.proofs.Common.{◌≡◌, ℕ, zero, suc, Bool, true, false, cond, List, [], ◌∷◌, ◌++◌, length, Some, None, slice_get, refl, ap, ap₂, sym, subst, ◌∙◌}
use Rattle.c_tree.specs.Tree.{CType, function, Function, Static}
use Rattle.dm_base.specs.Name.{IsName}
use Rattle.c_tree.specs.Tree as typed
use Rattle.c_syntax.specs.Tree.{Ident, Spec, Declarator, BlockItems}
use Rattle.c_rules.specs.Checked.{Checked, fine, demand, met}
use Rattle.c_rules.specs.Names.{Name, with_new}
use Rattle.c_rules.specs.Scopes.{Env, Binding, Meaning, a_static, a_function, with_name, meaning_or_unknown, lookup, declared_here, Before}
use Rattle.c_rules.specs.Declarators.{place_or}
use Rattle.c_rules.specs.Objects.{Object}
use Rattle.c_rules.specs.Functions.{parameters_of, are_named, variables_of, function_laid, body_of, is_defined_by, function_declared, items_of_body, defined_as}
use Rattle.c_rules.specs.Items.{Output, no_output, with_output, static_of, output_of_function, behind_global, behind_defined}
use Rattle.c_rules_laws.proofs.Holding.{first_fine, demand_fine}
use Rattle.c_rules_laws.proofs.Definitions.{definition_fine}
use Rattle.c_rules_laws.proofs.FileScopes.{Agrees, Follows, follows_on}
use Rattle.c_rules_laws.proofs.FileItems.{IsFunctionNamed}
use Rattle.c_rules_laws.proofs.DistinctNames.{itself}
use Rattle.c_rules_laws.proofs.NamesOfItems.{defined_true, Gives, starts, declares, an_object, a_definition, one_and_more, gives_step}
use Rattle.c_rules.specs.TypedExpression.{TypedExpression}

-- two lists side by side
abbrev pub Zip : {A B : Type 0} → (A → B → Type 0) → List A → List B → Type 0
Zip R [] [] = Unit {0}
Zip R (x ∷ xs) (y ∷ ys) = R x y × Zip R xs ys
Zip R xs ys = ⊥

pub zip_both : {A B : Type 0} (R : A → B → Type 0) (xs zs : List A) (ys ws : List B) → Zip R xs ys → Zip R zs ws → Zip R (xs ++ zs) (ys ++ ws)
zip_both R [] zs [] ws h k = k
zip_both R (x ∷ xs) zs (y ∷ ys) ws h k = (h.0, zip_both R xs zs ys ws h.1 k)
zip_both R xs zs ys ws h k = absurd h

pub zip_at : {A B : Type 0} (R : A → B → Type 0) (xs : List A) (ys : List B) (i : ℕ) (x : A) → Zip R xs ys → slice_get xs i ≡ Some x → (y : B) × (slice_get ys i ≡ Some y) × R x y
zip_at R [] ys i x h e = absurd (let q : None ≡ Some x = e in cc)
zip_at R (z ∷ xs) [] i x h e = absurd h
zip_at R (z ∷ xs) (y ∷ ys) zero x h e = (y, refl, subst (λ w. R w y) (let q : Some z ≡ Some x = e in cc) h.0)
zip_at R (z ∷ xs) (y ∷ ys) (suc i) x h e = zip_at R xs ys i x h.1 e

pub zip_long : {A B : Type 0} (R : A → B → Type 0) (xs : List A) (ys : List B) → Zip R xs ys → length ys ≡ length xs
zip_long R [] [] h = refl
zip_long R (x ∷ xs) (y ∷ ys) h = ap suc (zip_long R xs ys h.1)
zip_long R xs ys h = absurd h

-- the function has the name, which means it behind all items
abbrev pub IsFunctionOf : Env → Name → Function → Type 0
IsFunctionOf last x f = (f.name ≡ x) × IsName x × ((b : Binding) × (lookup last.names x ≡ Some b) × (b.means ≡ a_function f.ctype true))

abbrev pub IsObjectOf : Env → Name → Static → Type 0
IsObjectOf last x s = (s.string ≡ false) × ((b : Binding) × (seen : CType) × (d : Bool) × (lookup last.names x ≡ Some b) × (b.means ≡ a_static seen s.ctype d))

pub record HasShape (last : Env) (names objects : List Name) (p : Output) : Type 0 where
  pub functions : Zip (IsFunctionOf last) names p.functions
  pub statics : Zip (IsObjectOf last) objects p.statics

shape_none : (last : Env) → HasShape last [] [] no_output
shape_none last = record { functions = tt; statics = tt }

shape_both : (last : Env) (xs ys zs ws : List Name) (p q : Output) → HasShape last xs ys p → HasShape last zs ws q → HasShape last (xs ++ zs) (ys ++ ws) (with_output p q)
shape_both last xs ys zs ws p q h k = record { functions = zip_both (IsFunctionOf last) xs zs p.functions q.functions h.functions k.functions; statics = zip_both (IsObjectOf last) ys ws p.statics q.statics h.statics k.statics }

pub just_declared : (env : Env) (x : Name) (m : Meaning) → lookup (with_name env x m).names x ≡ Some (record { name = x; depth = env.depth; means = m })
just_declared env x m = ap (λ b. cond b (Some (record { name = x; depth = env.depth; means = m })) (lookup env.names x)) (itself x)

-- what a function's name means later
later_function : (t : CType) (d : Bool) (m : Meaning) → Agrees (a_function t d) m → d ≡ true → m ≡ a_function t true
later_function t d (a_function u e) h q = ap₂ (λ x y. a_function x y) (sym h.0) (h.1 q)
later_function t d m h q = absurd h

later_object : (s t : CType) (d : Bool) (m : Meaning) → Agrees (a_static s t d) m → (seen : CType) × (e : Bool) × (m ≡ a_static seen t e)
later_object s t d (a_static r u e) h = (r, e, ap (λ x. a_static r x e) (sym h.0))
later_object s t d m h = absurd h

-- what a definition gives
function_shape : (env : Env) (b : Before) (place : ℕ) (d : Declarator) (x : Ident) (is : BlockItems) (u : CType) (f : Function) → defined_as env b place d x is u ≡ fine f → (f.name ≡ x.name) × (f.ctype ≡ u)
function_shape env b place d x is (function t ts) f e =
    let i = first_fine (demand (are_named (parameters_of d)) 3 place met) (body_of env b t d ts is) (λ _ q. function_laid env x t ts q) f (definition_fine env b place d x is t ts f e) in
    let j = demand_fine _ 13 x.at (record { name = x.name; ctype = function t ts; variables = variables_of ts i.1; body = typed.block i.1.tree }) f i.4 in
    (ap (λ f. f.name) (sym j.1), ap (λ f. f.ctype) (sym j.1))
function_shape env b place d x is u f e = absurd (cc)

-- ## Functions and objects

definition_shape : (last env : Env) (b : Before) (at : ℕ) (s : Spec) (d : Declarator) (is : BlockItems) (x : Ident) (m : Meaning) (u : CType) (f : Function) → IsName x.name → function_declared env true at s d x ≡ fine m → IsFunctionNamed env true x u m
    → defined_as (behind_defined env at s d x) b (place_or at d) d x is u ≡ fine f → Follows (behind_defined env at s d x) last → HasShape last (x.name ∷ []) [] (output_of_function f)
definition_shape last env b at s d is x m u f n c named e g =
    let r : Checked Meaning = function_declared env true at s d x in
    let shape = function_shape (behind_defined env at s d x) b (place_or at d) d x is u f e in
    let means : meaning_or_unknown r ≡ a_function u (is_defined_by true (declared_here env x.name)) = ap meaning_or_unknown c ∙ named.is in
    let here = just_declared (record env { functions = with_new env.functions x.name }) x.name (meaning_or_unknown r) in
    let later = g.later x.name (record { name = x.name; depth = env.depth; means = meaning_or_unknown r }) here in
    let last_means : later.0.means ≡ a_function u true = later_function u (is_defined_by true (declared_here env x.name)) later.0.means (subst (λ z. Agrees z later.0.means) means later.2) (defined_true (declared_here env x.name)) in
    record { functions = ((shape.0, n, (later.0, later.1, last_means ∙ ap (λ t. a_function t true) (sym shape.1))), tt); statics = tt }

object_shape : (last env : Env) (x : Ident) (o : Object) (gs : List TypedExpression) → Follows (behind_global env true x (fine o)) last → HasShape last [] (x.name ∷ []) (static_of o gs)
object_shape last env x o gs g =
    let m : Meaning = a_static o.whole o.whole (is_defined_by true (declared_here env x.name)) in
    let later = g.later x.name (record { name = x.name; depth = env.depth; means = m }) (just_declared env x.name m) in
    let l = later_object o.whole o.whole (is_defined_by true (declared_here env x.name)) later.0.means later.2 in
    record { functions = tt; statics = ((refl, (later.0, l.0, l.1, later.1, l.2)), tt) }

pub gives_shape : (last : Env) {env inner : Env} {b a : Before} {q : Output} {xs ys : List Name} → Gives env b inner a q xs ys → Follows inner last → HasShape last xs ys q
gives_shape last (starts w) g = shape_none last
gives_shape last {inner = inner} (declares {middle = c} h s d) g = gives_shape last h (follows_on c inner last s.1 g)
gives_shape last {env} (an_object x m o gs w l n f s) g = object_shape last env x o gs g
gives_shape last {env} {b = b} (a_definition at s d body x m u f w n l k c e h i t) g = definition_shape last env b at s d (items_of_body body) x m u f n c h i g
gives_shape last {inner = inner} (one_and_more {middle = c} {q = q} {r = r} {xs = xs} {ys = ys} {zs = zs} {ws = ws} h k) g = shape_both last xs ys zs ws q r (gives_shape last h (follows_on c inner last (gives_step k).1 g)) (gives_shape last k g)
