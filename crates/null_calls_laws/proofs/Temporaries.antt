-- The temporaries of a body are new names, and mean the variables that their declarations declare.
use Rattle.std.proofs.Common.{◌≡◌, ◌≢◌, ◌⊎◌, inl, inr, ℕ, suc, Bool, true, false, not, cond, List, [], ◌∷◌, ◌++◌, Some, None, refl, ap, sym, subst, ◌∙◌, true≢false}
use Rattle.std.proofs.lemmas.Bool.{false_from_ne_true, true_from_ne_false}
use Rattle.std.specs.Prelude.{is_none, bytes_eq}
use Rattle.c_tree.specs.Tree.{Program}
use Rattle.c_rules.specs.Checked.{Checked, fine, demand, and_also, Met, met}
use Rattle.c_rules.specs.Codes.{C2, C11, C12}
use Rattle.c_rules.specs.Names.{Name, is_among, is_reserved, is_added, null_calls, system_calls}
use Rattle.c_rules.specs.Scopes.{Env, Binding, a_local, lookup, at_depth}
use Rattle.c_rules.specs.Declarators.{new_name}
use Rattle.null_calls_laws.specs.Temporaries.{Temporary, pre_name, post_name, designator_name, argument_name, result_name}
use Rattle.c_rules_laws.proofs.Holding.{Each, each_map}
use Rattle.null_calls_laws.specs.TemporaryDeclarations.{with_temporaries, AreNew}
use Rattle.null_calls_laws.specs.TemporaryNames.{IsFreeName}
use Rattle.null_calls_laws.proofs.NameLemmas.{names_are_free}
use Rattle.c_rules_laws.specs.TypedAlike.{More, plain_scope, instrumented_scope, AreUnreserved, MeanAlike}
use Rattle.null_calls_laws.specs.Tabled.{AreFound, IsNullCall}
use Rattle.null_calls_laws.specs.Standing.{StandBeside, stand_beside}
use Rattle.null_calls_laws.proofs.Scopes.{unadded}
use Rattle.null_calls_laws.specs.FileScopes.{HasNullCalls}
use Rattle.null_calls_laws.specs.Functions.{HasFunctions}
use Rattle.null_calls_laws.specs.Scopes.{AreWrittenTemporaries, IsOfSite, AreOfSites, DiffersFrom, AllDiffer}
use Rattle.null_calls_laws.proofs.Closed.{spelled}
use Rattle.c_rules_laws.proofs.DistinctNames.{itself, among_right}
use Rattle.null_calls_laws.proofs.FileNames.{other}

-- ## Names of temporaries

among_rest : (xs ys : List Name) (x : Name) → is_among (xs ++ ys) x ≡ false → is_among ys x ≡ false
among_rest xs ys x h = false_from_ne_true (is_among ys x) (λ e. true≢false (sym (among_right xs ys x e) ∙ h))

reserved : (x : Name) → is_added x ≡ true → is_reserved x ≡ true
reserved x h = true_from_ne_false (is_reserved x) (λ e. true≢false (sym h ∙ unadded x e))

free_by : (x : Temporary) (s i : ℕ) → (x.name ≡ designator_name s) ⊎ ((x.name ≡ argument_name s i) ⊎ (x.name ≡ result_name s)) → IsFreeName x.name
free_by x s i (inl e) = subst IsFreeName (sym e) (names_are_free s i).designator
free_by x s i (inr (inl e)) = subst IsFreeName (sym e) (names_are_free s i).argument
free_by x s i (inr (inr e)) = subst IsFreeName (sym e) (names_are_free s i).result

abbrev pub AllFree : List Temporary → Type 0
AllFree xs = Each (λ (x : Temporary). IsFreeName x.name) xs

pub all_free : (lo n : ℕ) (xs : List Temporary) → AreOfSites lo n xs → AllFree xs
all_free lo n = each_map (IsOfSite lo n) (λ (x : Temporary). IsFreeName x.name) (λ x s. free_by x s.site s.argument s.named)

-- ## Scopes behind them

abbrev pub temporary_binding : (depth k : ℕ) → Temporary → Binding
temporary_binding d k x = record { name = x.name; depth = d; means = a_local k x.ctype x.ctype }

abbrev pub names_behind : (depth k : ℕ) → List Temporary → List Binding → List Binding
names_behind d k [] ns = ns
names_behind d k (x ∷ xs) ns = names_behind d (suc k) xs (temporary_binding d k x ∷ ns)

pub behind_is : (env : Env) (more : More) (k : ℕ) (xs : List Temporary) → with_temporaries (instrumented_scope env more) k xs ≡ instrumented_scope env (record more { names = names_behind env.depth k xs more.names })
behind_is env more k [] = refl
behind_is env more k (x ∷ xs) = behind_is env (record more { names = temporary_binding env.depth k x ∷ more.names }) (suc k) xs

abbrev OtherThan : Name → List Temporary → Type 0
OtherThan y xs = Each (λ (x : Temporary). bytes_eq x.name y ≡ false) xs

past_all : (y : Name) (d k : ℕ) (xs : List Temporary) (ns : List Binding) → OtherThan y xs → lookup (names_behind d k xs ns) y ≡ lookup ns y
past_all y d k [] ns h = refl
past_all y d k (x ∷ xs) ns h = past_all y d (suc k) xs (temporary_binding d k x ∷ ns) h.1 ∙ ap (λ t. cond t (Some (temporary_binding d k x)) (lookup ns y)) h.0

others : (x : Temporary) (xs : List Temporary) → DiffersFrom x xs → OtherThan x.name xs
others x = each_map (λ (y : Temporary). x.name ≢ y.name) (λ (y : Temporary). bytes_eq y.name x.name ≡ false) (λ y n. other y.name x.name (λ e. n (sym e)))

-- they are found
pub found_all : (d k : ℕ) (xs : List Temporary) (ns : List Binding) → AllDiffer xs → AreFound (names_behind d k xs ns) k xs
found_all d k [] ns h = tt
found_all d k (x ∷ xs) ns h =
    let b : Binding = temporary_binding d k x in
    ((b, past_all x.name d (suc k) xs (b ∷ ns) (others x xs h.0) ∙ ap (λ t. cond t (Some b) (lookup ns x.name)) (itself x.name), refl), found_all d (suc k) xs (b ∷ ns) h.1)

-- a name that isn't reserved is no temporary
unreserved_other : (y : Name) (xs : List Temporary) → is_reserved y ≡ false → AllFree xs → OtherThan y xs
unreserved_other y xs u h = each_map (λ (x : Temporary). IsFreeName x.name) (λ (x : Temporary). bytes_eq x.name y ≡ false) (λ x f. other x.name y (λ e. true≢false (sym (reserved x.name f.added) ∙ (ap is_reserved e ∙ u)))) xs h

-- nor is a null call
null_other : (y : Name) (xs : List Temporary) → is_among null_calls y ≡ true → AllFree xs → OtherThan y xs
null_other y xs u h = each_map (λ (x : Temporary). IsFreeName x.name) (λ (x : Temporary). bytes_eq x.name y ≡ false) (λ x f. other x.name y (λ e. true≢false (sym u ∙ (ap (is_among null_calls) (sym e) ∙ among_rest system_calls null_calls x.name f.other)))) xs h

-- ## They are new

abbrev AllAbsent : List Binding → List Temporary → Type 0
AllAbsent ns xs = Each (λ (x : Temporary). lookup ns x.name ≡ None) xs

still_absent : (b : Binding) (x : Temporary) (xs : List Temporary) (ns : List Binding) → b.name ≡ x.name → DiffersFrom x xs → AllAbsent ns xs → AllAbsent (b ∷ ns) xs
still_absent b x [] ns e h a = tt
still_absent b x (y ∷ ys) ns e h a = (ap (λ t. cond t (Some b) (lookup ns y.name)) (other b.name y.name (λ q. h.0 (sym e ∙ q))) ∙ a.0, still_absent b x ys ns e h.1 a.1)

abbrev three : (a b c : Bool) → (at : ℕ) → Checked Met
three a b c at = and_also (and_also (demand a C12 at met) (demand b C11 at met)) (demand c C2 at met)

is_new : (env : Env) (more : More) (at : ℕ) (x : Name) → IsFreeName x → lookup more.names x ≡ None → new_name (instrumented_scope env more) (record { name = x; at = at }) ≡ fine met
is_new env more at x f a = λ i. three (f.declarable i) (ap not f.other i) (ap (λ o. is_none (at_depth env.depth o)) a i) at

are_new : (env : Env) (more : More) (stood : List Name) (at k : ℕ) (xs : List Temporary) → AreWrittenTemporaries env.enums env.whole.tags stood xs → AllFree xs → AllDiffer xs → AllAbsent more.names xs → AreNew (instrumented_scope env more) at k xs
are_new env more stood at k [] w f d a = tt
are_new env more stood at k (x ∷ xs) w f d a =
    let b : Binding = temporary_binding env.depth k x in
    (w.0, spelled env.enums env.whole.tags stood x.ctype w.1, f.0.added, is_new env more at x.name f.0 a.0, are_new env (record more { names = b ∷ more.names }) stood at (suc k) xs w.2 f.1 d.1 (still_absent b x xs more.names refl d.0 a.1))

all_absent : (env : Env) (more : More) → HasNullCalls env more → (xs : List Temporary) → AllFree xs → AllAbsent more.names xs
all_absent env more l xs h = each_map (λ (x : Temporary). IsFreeName x.name) (λ (x : Temporary). lookup more.names x.name ≡ None) (λ x f. l.fresh x.name (reserved x.name f.added) (among_rest system_calls null_calls x.name f.other)) xs h

pub temporaries_new : (env : Env) (more : More) → HasNullCalls env more → (stood : List Name) (at k : ℕ) (xs : List Temporary) → AreWrittenTemporaries env.enums env.whole.tags stood xs → AllFree xs → AllDiffer xs → AreNew (instrumented_scope env more) at k xs
temporaries_new env more l stood at k xs w f d = are_new env more stood at k xs w f d (all_absent env more l xs f)

-- ## The scopes stand beside each other

null_stays : (y : Name) (d k : ℕ) (xs : List Temporary) (ns : List Binding) → is_among null_calls y ≡ true → AllFree xs → IsNullCall ns y → IsNullCall (names_behind d k xs ns) y
null_stays y d k xs ns u f h = (h.0, h.1, past_all y d k xs ns (null_other y xs u f) ∙ h.2, h.3)

pub stand_behind : (p : Program) (env : Env) (more : More) → AreUnreserved env.names → MeanAlike env.names more.names → HasNullCalls env more → HasFunctions p env.whole.functions → (k : ℕ) (xs : List Temporary) → AllFree xs
    → StandBeside p (names_behind env.depth k xs more.names) (plain_scope env) (with_temporaries (instrumented_scope env more) k xs)
stand_behind p env more u m l g k xs f =
    let ns : List Binding = names_behind env.depth k xs more.names in
    subst (StandBeside p ns (plain_scope env)) (sym (behind_is env more k xs))
    (stand_beside env (record more { names = ns }) u (λ y v. past_all y env.depth k xs more.names (unreserved_other y xs v f) ∙ m y v)
    (record { runs = l.runs; named = record { before = null_stays pre_name env.depth k xs more.names refl f l.nulls.before; behind = null_stays post_name env.depth k xs more.names refl f l.nulls.behind }; functions = g.long; pre_free = g.pre_free; post_free = g.post_free })
    (λ y v. refl))
