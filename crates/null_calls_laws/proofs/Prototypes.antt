-- The prototypes of the null calls, which begin a unit with null calls round its marked calls.
use Rattle.std.proofs.Common.{◌≡◌, ℕ, Bool, true, false, not, ◌&&◌, ◌||◌, cond, List, [], ◌∷◌, Option, Some, None, refl, ap, sym, ◌∙◌, true≢false}
use Rattle.std.specs.Prelude.{bytes_eq, slice_get}
use Rattle.dm_base.specs.declared.mode.Mode.TheVariants.{Plain, Instrumented}
use Rattle.c_tree.specs.Tree.{CType, void}
use Rattle.c_tree.specs.Functions.{unsigned_int, of_one, sys_types}
use Rattle.c_syntax.specs.Tree.{Ident, Declarator, no_init, more_params, no_params, nothing, Items, more_items}
use Rattle.c_syntax.specs.Tree as syntax
use Rattle.c_rules.specs.Checked.{fine, on, both, demand, and_also, met}
use Rattle.c_rules.specs.Codes.{C2, C11, C12, C13}
use Rattle.c_rules.specs.Names.{Name, number_among, is_among, given_names, given_types, may_be_declared, with_new, is_given_type}
use Rattle.c_rules.specs.Scopes.{Env, Binding, a_function, Whole, empty_env, lookup, at_depth, Before}
use Rattle.c_rules.specs.Functions.{given_as, is_few, may_follow_function, is_defined_by, behind_function, function_declared}
use Rattle.c_rules.specs.Items.{Output, no_output, with_output, prototype, item, behind_item, items, behind_items, after_items, with_tags}
use Rattle.null_calls_laws.specs.Temporaries.{pre_name, post_name}
use Rattle.null_calls_laws.specs.Instrumented.{null_prototype}
use Rattle.c_rules_laws.specs.TypedAlike.{plain_scope, instrumented_scope}
use Rattle.c_rules_laws.proofs.DistinctNames.{among_split}
use Rattle.null_calls_laws.proofs.Nodes.{both_gives}
use Rattle.null_calls_laws.specs.FileScopes.{FilesBeside, files_beside}
use Rattle.null_calls_laws.proofs.FileNames.{other_way}
use Rattle.null_calls_laws.proofs.BehindArguments.{pre_given, post_given}

-- ## A prototype

abbrev null_type : CType
null_type = of_one void unsigned_int

abbrev declarator : Name → Declarator
declarator x = syntax.function 0 (syntax.named 0 (record { name = x; at = 0 })) (more_params 0 syntax.unsigned_int nothing no_params)

abbrev ident : Name → Ident
ident x = record { name = x; at = 0 }

pre_typed : slice_get (given_types Instrumented) 24 ≡ Some null_type
unfolding sys_types
pre_typed = refl

post_typed : slice_get (given_types Instrumented) 25 ≡ Some null_type
unfolding sys_types
post_typed = refl

as_given : (o : Option ℕ) (i : ℕ) → o ≡ Some i → slice_get (given_types Instrumented) i ≡ Some null_type → (w : Whole) (names : List Binding) (functions : List Name) → given_as (record (empty_env (record w { mode = Instrumented })) { names = names; functions = functions }) false null_type o ≡ true
as_given o i e t w names functions =
    ap (given_as (record (empty_env (record w { mode = Instrumented })) { names = names; functions = functions }) false null_type) e
    ∙ ap (λ q. not false && is_given_type q null_type) t

-- the scope in which such functions are declared
abbrev scope : Whole → List Binding → List Name → Env
scope w names functions = record (empty_env (record w { mode = Instrumented })) { names = names; functions = functions }

module _ (w : Whole) (names : List Binding) (functions : List Name) (x : Name) (i : ℕ) (may : may_be_declared Instrumented x ≡ true) (given : number_among (given_names Instrumented) x ≡ Some i) (typed : slice_get (given_types Instrumented) i ≡ Some null_type)
    (absent : lookup names x ≡ None) (few : is_few (scope w names functions) x ≡ true) where
  declared : function_declared (scope w names functions) false 0 syntax.void (declarator x) (ident x) ≡ fine (a_function null_type false)
  declared =
      let g : given_as (scope w names functions) false null_type (number_among (given_names Instrumented) x) ≡ true = as_given (number_among (given_names Instrumented) x) i given typed w names functions in
      λ k. on (and_also (demand (may k) C12 0 met) (and_also (demand (g k) C11 0 met) (and_also (demand (may_follow_function false null_type (at_depth 0 (absent k))) C2 0 met) (demand (few k) C13 0 met)))) (λ _. fine (a_function null_type (is_defined_by false (at_depth 0 (absent k)))))

  abbrev behind : Env
  behind = scope w (record { name = x; depth = 0; means = a_function null_type false } ∷ names) (with_new functions x)

  item_fine : (b : Before) → item (scope w names functions) b (null_prototype x) ≡ fine no_output
  item_fine b = ap (λ r. both (prototype no_init r) (fine no_output) (λ p q. fine (with_output p q))) declared

  behind_is : (b : Before) → behind_item (scope w names functions) b (null_prototype x) ≡ behind
  behind_is b = ap (λ r. with_tags (behind_function (scope w names functions) x r) (null_prototype x)) declared

  pub items_behind : (b : Before) (rest : Items) (out : Output) → items behind b rest ≡ fine out → items (scope w names functions) b (more_items (null_prototype x) rest) ≡ fine out
  items_behind b rest out h =
      both_gives (item (scope w names functions) b (null_prototype x)) (items (behind_item (scope w names functions) b (null_prototype x)) b rest) (λ p q. fine (with_output p q)) no_output out (item_fine b)
      (ap (λ e. items e b rest) (behind_is b) ∙ h)

  pub env_behind_is : (b : Before) (rest : Items) → behind_items (scope w names functions) b (more_items (null_prototype x) rest) ≡ behind_items behind b rest
  env_behind_is b rest = ap (λ e. behind_items e b rest) (behind_is b)

  pub strings_behind : (b : Before) (rest : Items) → (after_items (scope w names functions) b (more_items (null_prototype x) rest)).strings ≡ (after_items behind b rest).strings
  strings_behind b rest = ap (λ e. (after_items e b rest).strings) (behind_is b)

-- ## Both

abbrev pub both_names : List Binding
both_names = record { name = post_name; depth = 0; means = a_function null_type false } ∷ record { name = pre_name; depth = 0; means = a_function null_type false } ∷ []

-- the scope behind them
abbrev pub start : Whole → Env
start w = instrumented_scope (empty_env w) (record { names = both_names; functions = pre_name ∷ post_name ∷ []; tags = [] })

abbrev one_name : List Binding
one_name = record { name = pre_name; depth = 0; means = a_function null_type false } ∷ []

abbrev pub new_env : Whole → Env
new_env w = empty_env (record w { mode = Instrumented })

pub items_start : (w : Whole) (b : Before) (rest : Items) (out : Output) → items (start w) b rest ≡ fine out → items (new_env w) b (more_items (null_prototype pre_name) (more_items (null_prototype post_name) rest)) ≡ fine out
items_start w b rest out h =
    items_behind w [] [] pre_name 24 refl pre_given pre_typed refl refl b (more_items (null_prototype post_name) rest) out
    (items_behind w one_name (pre_name ∷ []) post_name 25 refl post_given post_typed refl refl b rest out h)

pub env_start : (w : Whole) (b : Before) (rest : Items) → behind_items (new_env w) b (more_items (null_prototype pre_name) (more_items (null_prototype post_name) rest)) ≡ behind_items (start w) b rest
env_start w b rest =
    env_behind_is w [] [] pre_name 24 refl pre_given pre_typed refl refl b (more_items (null_prototype post_name) rest)
    ∙ env_behind_is w one_name (pre_name ∷ []) post_name 25 refl post_given post_typed refl refl b rest

pub strings_start : (w : Whole) (b : Before) (rest : Items) → (after_items (new_env w) b (more_items (null_prototype pre_name) (more_items (null_prototype post_name) rest))).strings ≡ (after_items (start w) b rest).strings
strings_start w b rest =
    strings_behind w [] [] pre_name 24 refl pre_given pre_typed refl refl b (more_items (null_prototype post_name) rest)
    ∙ strings_behind w one_name (pre_name ∷ []) post_name 25 refl post_given post_typed refl refl b rest

not_first : (y x : Name) (ys : List Name) → is_among (y ∷ ys) x ≡ false → (bytes_eq y x ≡ false) × (is_among ys x ≡ false)
not_first y x ys e = by_test (bytes_eq y x) (is_among ys x) (sym (among_split y x ys) ∙ e)
  where
    by_test : (t u : Bool) → (t || u) ≡ false → (t ≡ false) × (u ≡ false)
    by_test true u h = absurd (true≢false h)
    by_test false u h = (refl, h)

two_names : (x : Name) (a c : Binding) → bytes_eq a.name x ≡ false → bytes_eq c.name x ≡ false → lookup (a ∷ c ∷ []) x ≡ None
two_names x a c h k = ap (λ t. cond t (Some a) (lookup (c ∷ []) x)) h ∙ ap (λ t. cond t (Some c) None) k

-- it stands beside the file scope of the plain unit
pub start_files : (w : Whole) → w.mode ≡ Plain → FilesBeside (plain_scope (empty_env w)) (start w)
start_files w m =
    let post : Binding = record { name = post_name; depth = 0; means = a_function null_type false } in
    let pre : Binding = record { name = pre_name; depth = 0; means = a_function null_type false } in
    files_beside (empty_env w) (record { names = both_names; functions = pre_name ∷ post_name ∷ []; tags = [] }) tt
    (λ x u. two_names x post pre (other_way x post_name u refl) (other_way x pre_name u refl))
    (record {
      runs = refl;
      nulls = record { before = (pre, false, refl, refl); behind = (post, false, refl, refl) };
      fresh = λ x r n. (let k = not_first pre_name x (post_name ∷ []) n in two_names x post pre (not_first post_name x [] k.1).0 k.0);
      functions = refl;
      tags = λ x e. e;
    })
