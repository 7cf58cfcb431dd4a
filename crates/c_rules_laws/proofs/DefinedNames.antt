-- Which functions a part of a unit defines, by what names mean before it and behind it.
use Rattle.std.proofs.Common.{◌≡◌, ◌≢◌, ◌⊎◌, inl, inr, ◌≤◌, ℤ, Bool, true, false, cond, List, [], ◌++◌, length, Option, Some, refl, ap, sym, subst, ◌∙◌}
use Rattle.std.specs.Prelude.{bytes_eq}
use Rattle.c_tree.specs.Tree.{CType}
use Rattle.c_rules.specs.Checked.{Fault}
use Rattle.c_rules.specs.Names.{Name, is_among, given_names}
use Rattle.c_rules.specs.Scopes.{Env, Binding, Meaning, a_static, a_function, an_enumerator, unknown, lookup, with_name}
use Rattle.c_rules_laws.proofs.FileScopes.{Agrees, Follows}
use Rattle.c_rules_laws.proofs.DistinctNames.{Differ, differ_both, among_left, among_right}
use Rattle.c_rules_laws.proofs.Holding.{Each, each_map, each_both}

-- the name means a function whose definition stands before
abbrev pub IsDefined : List Binding → Name → Type 0
IsDefined names x = (b : Binding) × (t : CType) × (lookup names x ≡ Some b) × (b.means ≡ a_function t true)

-- Between these scopes the functions with these names are defined, none of them before and none twice. They are no system calls, and
-- stand among the functions that are counted, which stay within their limit.
pub record Defines (old new : Env) (xs : List Name) : Type 0 where
  pub fresh : Each (λ x. IsDefined old.names x → ⊥) xs
  pub differ : Differ xs
  pub defined : Each (IsDefined new.names) xs
  pub only : (x : Name) → IsDefined new.names x → IsDefined old.names x ⊎ (is_among xs x ≡ true)
  pub listed : (x : Name) → is_among old.functions x ≡ true → is_among new.functions x ≡ true
  pub own : Each (λ x. is_among new.functions x ≡ true) xs
  pub few : length old.functions ≤ 4098 → length new.functions ≤ 4098
  pub apart : Each (λ x. is_among (given_names old.whole.mode) x ≡ false) xs

-- ## One part after another

-- what is defined stays so
kept_meaning : (t : CType) (m : Meaning) → Agrees (a_function t true) m → m ≡ a_function t true
kept_meaning t (a_function u e) h = ap (λ u. a_function u e) (sym h.0) ∙ ap (a_function t) (h.1 refl)
kept_meaning t m h = absurd h

kept : (old new : Env) → Follows old new → (x : Name) → IsDefined old.names x → IsDefined new.names x
kept old new f x d = (let c = f.later x d.0 d.2 in (c.0, d.1, c.1, kept_meaning d.1 c.0.means (subst (λ m. Agrees m c.0.means) d.3 c.2)))

pub defines_both : (a b c : Env) (xs ys : List Name) → Follows a b → Follows b c → Defines a b xs → Defines b c ys → Defines a c (xs ++ ys)
defines_both a b c xs ys f g h k = record {
  fresh = each_both (λ x. IsDefined a.names x → ⊥) xs ys h.fresh (each_map (λ x. IsDefined b.names x → ⊥) (λ x. IsDefined a.names x → ⊥) (λ x n d. n (kept a b f x d)) ys k.fresh);
  differ = differ_both xs ys h.differ k.differ (each_map (IsDefined b.names) (λ x. Each (λ y. x ≢ y) ys) (λ x d. each_map (λ y. IsDefined b.names y → ⊥) (λ y. x ≢ y) (λ y n e. n (subst (IsDefined b.names) e d)) ys k.fresh) xs h.defined);
  defined = each_both (IsDefined c.names) xs ys (each_map (IsDefined b.names) (IsDefined c.names) (kept b c g) xs h.defined) k.defined;
  only = λ x d. first x (k.only x d);
  listed = λ x e. k.listed x (h.listed x e);
  own = each_both (λ x. is_among c.functions x ≡ true) xs ys (each_map (λ x. is_among b.functions x ≡ true) (λ x. is_among c.functions x ≡ true) k.listed xs h.own) k.own;
  few = λ l. k.few (h.few l);
  apart = each_both (λ x. is_among (given_names a.whole.mode) x ≡ false) xs ys h.apart (subst (λ w. Each (λ x. is_among (given_names w.mode) x ≡ false) ys) f.whole k.apart);
}
  where
    second : (x : Name) → IsDefined a.names x ⊎ (is_among xs x ≡ true) → IsDefined a.names x ⊎ (is_among (xs ++ ys) x ≡ true)
    second x (inl d) = inl d
    second x (inr e) = inr (among_left xs ys x e)

    first : (x : Name) → IsDefined b.names x ⊎ (is_among ys x ≡ true) → IsDefined a.names x ⊎ (is_among (xs ++ ys) x ≡ true)
    first x (inl d) = second x (h.only x d)
    first x (inr e) = inr (among_right xs ys x e)

-- ## Parts that define no function

-- where nothing is defined, what is defined behind it was so before
pub nothing_new : (old new : Env) → ((x : Name) → IsDefined new.names x → IsDefined old.names x) → ((x : Name) → is_among old.functions x ≡ true → is_among new.functions x ≡ true) → (length old.functions ≤ 4098 → length new.functions ≤ 4098) → Defines old new []
nothing_new old new f g h = record { fresh = tt; differ = tt; defined = tt; only = λ x d. inl (f x d); listed = g; own = tt; few = h; apart = tt }

no_other : (A : Type 0) (x : Name) → A ⊎ (is_among [] x ≡ true) → A
no_other A x (inl a) = a
no_other A x (inr e) = absurd (let q : false ≡ true = e in cc)

pub nothing_both : (a b c : Env) → Defines a b [] → Defines b c [] → Defines a c []
nothing_both a b c h k = nothing_new a c (λ x d. no_other (IsDefined a.names x) x (h.only x (no_other (IsDefined b.names x) x (k.only x d)))) (λ x e. k.listed x (h.listed x e)) (λ l. k.few (h.few l))

pub nothing_same : (old new : Env) → new.names ≡ old.names → new.functions ≡ old.functions → Defines old new []
nothing_same old new e f = nothing_new old new (λ x d. subst (λ ns. IsDefined ns x) e d) (λ x h. subst (λ fs. is_among fs x ≡ true) (sym f) h) (λ l. subst (λ fs. length fs ≤ 4098) (sym f) l)

-- the newest declaration of a name, or an older one
pub newest_or_older : (b : Bool) (new : Binding) (o : Option Binding) (found : Binding) → cond b (Some new) o ≡ Some found → ((b ≡ true) × (found ≡ new)) ⊎ (o ≡ Some found)
newest_or_older true new o found e = inl (refl, (let q : Some new ≡ Some found = e in cc))
newest_or_older false new o found e = inr e

abbrev pub IsNoFunction : Meaning → Type 0
IsNoFunction m = (t : CType) (d : Bool) → m ≡ a_function t d → ⊥

pub static_no_function : (s w : CType) (e : Bool) → IsNoFunction (a_static s w e)
static_no_function s w e t d q = cc

pub enumerator_no_function : (z : ℤ) → IsNoFunction (an_enumerator z)
enumerator_no_function z t d q = cc

pub unknown_no_function : (f : Fault) (fs : List Fault) → IsNoFunction (unknown f fs)
unknown_no_function f fs t d q = cc

pub nothing_named : (env : Env) (x : Name) (m : Meaning) → IsNoFunction m → Defines env (with_name env x m) []
nothing_named env x m n = nothing_new env (with_name env x m) (λ y d. older y d (newest_or_older (bytes_eq x y) (record { name = x; depth = env.depth; means = m }) (lookup env.names y) d.0 d.2)) (λ y e. e) (λ l. l)
  where
    older : (y : Name) (d : IsDefined (with_name env x m).names y) → ((bytes_eq x y ≡ true) × (d.0 ≡ record { name = x; depth = env.depth; means = m })) ⊎ (lookup env.names y ≡ Some d.0) → IsDefined env.names y
    older y d (inl h) = absurd (n d.1 true (sym (ap (λ b. b.means) h.1) ∙ d.3))
    older y d (inr e) = (d.0, d.1, e, d.3)
