-- What items keep of what is known: the whole unit, and how many structs there are.
use Rattle.std.proofs.Common.{◌≡◌, ℕ, zero, suc, Bool, true, false, ℤ, List, [], ◌∷◌, length, Option, Some, None, slice_set, refl, ap, sym, ◌∙◌}
use Rattle.std.specs.Prelude.{pos, replicate}
use Rattle.dm_base.specs.declared.mode.Mode.{Mode}
use Rattle.c_syntax.specs.Tree.{Ident, Spec, Declarator, Storage, MaybeInit, Parts, no_parts, more_parts, decl, Enumerators, no_enumerators, more_enumerators, Tag, no_tag, tag}
use Rattle.c_syntax.specs.Tree.{Item, struct_item, enum_item, tag_item, decl_item, function_item, Items, no_items, more_items}
use Rattle.c_rules.specs.Checked.{Checked, fine}
use Rattle.c_rules.specs.Declarators.{name_of}
use Rattle.c_rules.specs.Functions.{declares_function}
use Rattle.c_rules.specs.Items.{behind_enum_tag, behind_enumerator, behind_enumerators, enumerator_value, one_more_than, behind_declared, behind_named_part, behind_file_part, behind_file_parts, after_file_part, behind_function_named, behind_by_form, struct_definition, struct_or_unknown, behind_item, behind_items, after_item}
use Rattle.c_rules.specs.Scopes.{Env, Before, Struct, incomplete, nothing_before, tag_number}
use Rattle.c_rules.specs.Units.{env_before, env_behind, tags_of, whole_of}

-- the same unit, and as many structs
pub record Keeps (new old : Env) : Type 0 where
  pub whole : new.whole ≡ old.whole
  pub structs : length new.structs ≡ length old.structs

pub keeps_itself : (e : Env) → Keeps e e
keeps_itself e = record { whole = refl; structs = refl }

pub keeps_on : (new mid old : Env) → Keeps new mid → Keeps mid old → Keeps new old
keeps_on new mid old h k = record { whole = h.whole ∙ k.whole; structs = h.structs ∙ k.structs }

set_long : (ss : List Struct) (n : ℕ) (s : Struct) → length (slice_set ss n s) ≡ length ss
set_long [] n s = refl
set_long (x ∷ xs) zero s = refl
set_long (x ∷ xs) (suc n) s = ap suc (set_long xs n s)

-- ## Enums

tag_kept : (env : Env) (t : Tag) → Keeps (behind_enum_tag env t) env
tag_kept env no_tag = keeps_itself env
tag_kept env (tag x) = record { whole = refl; structs = refl }

enumerators_kept : (env : Env) (r : Checked ℤ) (es : Enumerators) → Keeps (behind_enumerators env r es) env
enumerators_kept env r no_enumerators = keeps_itself env
enumerators_kept env r (more_enumerators x m es) =
    let v : Checked ℤ = enumerator_value env r x m in
    let k : Keeps (behind_enumerators (behind_enumerator env x v) (one_more_than v) es) (behind_enumerator env x v) = enumerators_kept (behind_enumerator env x v) (one_more_than v) es in
    record { whole = k.whole; structs = k.structs }

-- ## Declarations

declared_kept : (env : Env) (b : Before) (at : ℕ) (class : Storage) (s : Spec) (d : Declarator) (m : MaybeInit) (k : Bool) (x : Ident) → Keeps (behind_declared env b at class s d m k x) env
declared_kept env b at class s d m true x = record { whole = refl; structs = refl }
declared_kept env b at class s d m false x = record { whole = refl; structs = refl }

named_kept : (env : Env) (b : Before) (at : ℕ) (class : Storage) (s : Spec) (d : Declarator) (m : MaybeInit) (o : Option Ident) → Keeps (behind_named_part env b at class s d m o) env
named_kept env b at class s d m None = keeps_itself env
named_kept env b at class s d m (Some x) = declared_kept env b at class s d m (declares_function d) x

parts_kept : (env : Env) (b : Before) (at : ℕ) (class : Storage) (s : Spec) (ps : Parts) → Keeps (behind_file_parts env b at class s ps) env
parts_kept env b at class s no_parts = keeps_itself env
parts_kept env b at class s (more_parts d m ps) =
    keeps_on (behind_file_parts (behind_file_part env b at class s d m) (after_file_part env b at class s d m) at class s ps) (behind_file_part env b at class s d m) env
    (parts_kept (behind_file_part env b at class s d m) (after_file_part env b at class s d m) at class s ps) (named_kept env b at class s d m (name_of d))

function_kept : (env : Env) (at : ℕ) (s : Spec) (d : Declarator) (o : Option Ident) → Keeps (behind_function_named env at s d o) env
function_kept env at s d None = keeps_itself env
function_kept env at s d (Some x) = record { whole = refl; structs = refl }

-- ## Items

form_kept : (env : Env) (b : Before) (i : Item) → Keeps (behind_by_form env b i) env
form_kept env b (struct_item at x ms) = record { whole = refl; structs = set_long env.structs (tag_number env x.name) (struct_or_unknown (struct_definition env x ms)) }
form_kept env b (enum_item at x es) = keeps_on (behind_enum_tag (behind_enumerators env (fine (pos 0)) es) x) (behind_enumerators env (fine (pos 0)) es) env (tag_kept (behind_enumerators env (fine (pos 0)) es) x) (enumerators_kept env (fine (pos 0)) es)
form_kept env b (tag_item at x) = keeps_itself env
form_kept env b (decl_item at (decl here class s ps)) = parts_kept env b here class s ps
form_kept env b (function_item at class s d body) = function_kept env at s d (name_of d)

item_kept : (env : Env) (b : Before) (i : Item) → Keeps (behind_item env b i) env
item_kept env b i = let k : Keeps (behind_by_form env b i) env = form_kept env b i in record { whole = k.whole; structs = k.structs }

pub items_kept : (env : Env) (b : Before) (is : Items) → Keeps (behind_items env b is) env
items_kept env b no_items = keeps_itself env
items_kept env b (more_items i is) =
    keeps_on (behind_items (behind_item env b i) (after_item env b i) is) (behind_item env b i) env (items_kept (behind_item env b i) (after_item env b i) is) (item_kept env b i)

replicate_long : {A : Type 0} (n : ℕ) (a : A) → length (replicate n a) ≡ n
replicate_long zero a = refl
replicate_long (suc n) a = ap suc (replicate_long n a)

-- behind all items there are as many structs as tags of them
pub structs_counted : (m : Mode) (u : Items) → length (env_behind m u).structs ≡ length (env_behind m u).whole.tags
structs_counted m u =
    let k : Keeps (env_behind m u) (env_before m u) = items_kept (env_before m u) nothing_before u in
    k.structs ∙ (replicate_long (length (tags_of u)) incomplete ∙ sym (ap (λ w. length w.tags) k.whole))

-- and the same unit is known
pub unit_kept : (m : Mode) (u : Items) → (env_behind m u).whole ≡ whole_of m u
unit_kept m u = (items_kept (env_before m u) nothing_before u).whole
