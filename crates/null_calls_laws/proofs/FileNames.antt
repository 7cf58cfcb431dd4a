-- Names at file scope in the two units.
use Rattle.std.proofs.Common.{◌≡◌, ℕ, suc, ◌<◌, Bool, true, false, ◌||◌, cond, if◌then◌else◌, List, [], ◌∷◌, ◌++◌, length, Some, nat_lt, refl, ap, sym, subst, ◌∙◌, arith, true≢false}
use Rattle.std.proofs.lemmas.Bool.{false_from_ne_true}
use Rattle.std.specs.Prelude.{bytes_eq}
use Rattle.std.proofs.lemmas.Bool.Decides.{Decides-ltb}
use Rattle.std.proofs.lemmas.Slice.Eq.{bytes_eq-Decides}
use Rattle.c_syntax.specs.Tree.{Ident, Spec, Declarator}
use Rattle.c_rules.specs.Checked.{Checked, fine}
use Rattle.c_rules.specs.Names.{Name, is_among, is_reserved, with_new}
use Rattle.c_rules.specs.Scopes.{Env, Binding, Meaning, lookup, with_name, meaning_or_unknown}
use Rattle.c_rules.specs.Functions.{behind_function, function_declared}
use Rattle.null_calls_laws.specs.Temporaries.{pre_name, post_name}
use Rattle.c_rules_laws.specs.TypedAlike.{More, TypedAlike, beside, AreUnreserved, MeanAlike}
use Rattle.c_rules_laws.proofs.DistinctNames.{among_split}
use Rattle.c_rules_laws.proofs.Leads.{Leads, fine_leads}
use Rattle.c_rules_laws.proofs.Names.{left, right, alike_of}
use Rattle.c_rules.proofs.Modes.{Alike}
use Rattle.c_rules.proofs.ModeFunctions.{Few}
use Rattle.c_rules.proofs.ModeFunctions as modes
use Rattle.null_calls_laws.specs.Tabled.{IsNullCall, AreNullCalls}
use Rattle.null_calls_laws.specs.FileScopes.{HasNullCalls, FilesBeside, files_beside}

-- ## Lists of names

-- names that differ
pub other : (x y : Name) → (x ≡ y → ⊥) → bytes_eq x y ≡ false
other x y h = false_from_ne_true (bytes_eq x y) (λ e. h ((bytes_eq-Decides x y).0 e))

pub other_name : (x y : Name) → is_reserved x ≡ false → is_reserved y ≡ true → bytes_eq x y ≡ false
other_name x y u r = other x y (λ e. true≢false (sym r ∙ (ap is_reserved (sym e) ∙ u)))

pub other_way : (x y : Name) → is_reserved x ≡ false → is_reserved y ≡ true → bytes_eq y x ≡ false
other_way x y u r = other y x (λ e. true≢false (sym r ∙ (ap is_reserved e ∙ u)))

-- a name that isn't the first one stands among the others
pub among_past : (y x : Name) (ys : List Name) → bytes_eq y x ≡ false → is_among (y ∷ ys) x ≡ is_among ys x
among_past y x ys e = among_split y x ys ∙ ap (λ t. t || is_among ys x) e

among_nulls : (x : Name) (ys : List Name) → is_reserved x ≡ false → is_among (pre_name ∷ post_name ∷ ys) x ≡ is_among ys x
among_nulls x ys u = among_past pre_name x (post_name ∷ ys) (other_way x pre_name u refl) ∙ among_past post_name x ys (other_way x post_name u refl)

if_past : (t : Bool) (x : Name) (ys : List Name) → (if t then pre_name ∷ post_name ∷ ys else (pre_name ∷ post_name ∷ ys) ++ x ∷ []) ≡ pre_name ∷ post_name ∷ (if t then ys else ys ++ x ∷ [])
if_past true x ys = refl
if_past false x ys = refl

new_past : (x : Name) (ys : List Name) → is_reserved x ≡ false → with_new (pre_name ∷ post_name ∷ ys) x ≡ pre_name ∷ post_name ∷ with_new ys x
new_past x ys u = ap (λ t. if t then pre_name ∷ post_name ∷ ys else (pre_name ∷ post_name ∷ ys) ++ x ∷ []) (among_nulls x ys u) ∙ if_past (is_among ys x) x ys

-- ## Scopes

pub scopes_of : (e f : Env) → FilesBeside e f → TypedAlike e f
scopes_of e f (files_beside env more p q l) = beside env more p q

null_past : (b : Binding) (names : List Binding) (y : Name) → bytes_eq b.name y ≡ false → IsNullCall names y → IsNullCall (b ∷ names) y
null_past b names y e h = (h.0, h.1, ap (λ t. cond t (Some b) (lookup names y)) e ∙ h.2, h.3)

pub nulls_past : (b : Binding) (names : List Binding) → is_reserved b.name ≡ false → AreNullCalls names → AreNullCalls (b ∷ names)
nulls_past b names u h = record { before = null_past b names pre_name (other_name b.name pre_name u refl) h.before; behind = null_past b names post_name (other_name b.name post_name u refl) h.behind }

module _ (env : Env) (more : More) (p : AreUnreserved env.names) (q : MeanAlike env.names more.names) (l : HasNullCalls env more) where
  -- behind a name that has the same meaning in both
  pub named_files : (x : Name) (r s : Checked Meaning) (m : Meaning) → is_reserved x ≡ false → r ≡ fine m → s ≡ fine m → FilesBeside (with_name (left env) x (meaning_or_unknown r)) (with_name (right env more) x (meaning_or_unknown s))
  named_files x r s m u g h =
      let b : Binding = record { name = x; depth = env.depth; means = m } in
      subst (λ y. FilesBeside (with_name (left env) x (meaning_or_unknown y)) (with_name (right env more) x (meaning_or_unknown s))) (sym g)
      (subst (λ z. FilesBeside (with_name (left env) x m) (with_name (right env more) x (meaning_or_unknown z))) (sym h)
      (files_beside (with_name env x m) (record { names = b ∷ more.names; functions = more.functions; tags = more.tags }) (u, p) (λ y v. ap (cond (bytes_eq x y) (Some b)) (q y v)) (record { runs = l.runs; nulls = nulls_past b more.names u l.nulls; fresh = λ y r n. ap (λ t. cond t (Some b) (lookup more.names y)) (other_name x y u r) ∙ l.fresh y r n; functions = l.functions; tags = l.tags })))

-- ## Functions

pub files_alike : (e f : Env) → FilesBeside e f → Alike e f
files_alike e f w = alike_of e f (scopes_of e f w)

pub behind_name : (e f : Env) → FilesBeside e f → (x : Name) (r s : Checked Meaning) (m : Meaning) → is_reserved x ≡ false → r ≡ fine m → s ≡ fine m → FilesBeside (with_name e x (meaning_or_unknown r)) (with_name f x (meaning_or_unknown s))
behind_name e f (files_beside env more p q l) x r s m u g h = named_files env more p q l x r s m u g h

or_more : (a b c d : Bool) → (a ≡ true → c ≡ true) → (b ≡ true → d ≡ true) → (a || b) ≡ true → (c || d) ≡ true
or_more true b c d f g e = ap (λ t. t || d) (f refl)
or_more false b true d f g e = refl
or_more false b false d f g e = g e

few_more : (e f : Env) → FilesBeside e f → Few e f
few_more e f (files_beside env more p q l) x u r =
    or_more (is_among env.functions x) (nat_lt (length env.functions) 4096) (is_among more.functions x) (nat_lt (length more.functions) 4098)
    (λ h. ap (λ ys. is_among ys x) l.functions ∙ (among_nulls x env.functions u ∙ h))
    (λ h. ap (λ ys. nat_lt (length ys) 4098) l.functions ∙ (Decides-ltb (suc (suc (length env.functions))) 4098).1 (let k : length env.functions < 4096 = (Decides-ltb (length env.functions) 4096).0 h in omega (arith, k))) r

pub function_declared_leads : (e f : Env) → FilesBeside e f → (d : Bool) (at : ℕ) (s : Spec) (c : Declarator) (x : Ident) → Leads (function_declared e d at s c x) (function_declared f d at s c x)
function_declared_leads e f w d at s c x = modes.function_declared_leads e f (files_alike e f w) (few_more e f w) d at s c x

-- behind the declaration of a function that is fine
pub function_files : (e f : Env) → FilesBeside e f → (d : Bool) (at : ℕ) (s : Spec) (c : Declarator) (x : Ident) (m : Meaning) → function_declared e d at s c x ≡ fine m → FilesBeside (behind_function e x.name (function_declared e d at s c x)) (behind_function f x.name (function_declared f d at s c x))
function_files e f (files_beside env more p q l) d at s c x m g =
    let u : is_reserved x.name ≡ false = modes.function_named_plain (left env) (right env more) (files_alike _ _ (files_beside env more p q l)) d at s c x m g in
    named_files (record env { functions = with_new env.functions x.name }) (record more { functions = with_new more.functions x.name }) p q
    (record { runs = l.runs; nulls = l.nulls; fresh = l.fresh; functions = ap (λ ys. with_new ys x.name) l.functions ∙ new_past x.name env.functions u; tags = l.tags })
    x.name (function_declared (left env) d at s c x) (function_declared (right env more) d at s c x) m u g (fine_leads _ _ m (function_declared_leads _ _ (files_beside env more p q l) d at s c x) g)
