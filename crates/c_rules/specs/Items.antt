-- What stands at file scope (6.7, 6.9): what each item gives, what is known behind it, and how much stands before what follows it.
use Rattle.std.specs.Prelude.{ℕ, ◌+◌, Bool, true, false, not, ◌&&◌, List, [], ◌∷◌, ◌++◌, map, length, Option, Some, None, nat_le, ℤ, pos, ◌+ℤ◌}
use Rattle.c_tree.specs.Tree.{CType, Function, Static}
use Rattle.c_tree.specs.Layout.{cells, cells_of_all}
use Rattle.c_syntax.specs.Tree.{Ident, Storage, extern, Spec, Declarator, MaybeInit, no_init, an_init, one, list, Parts, no_parts, more_parts, Decl, decl}
use Rattle.c_syntax.specs.Tree.{Maybe, absent, there, Declarators, no_declarators, more_declarators, Members, no_members, more_members, Enumerators, no_enumerators, more_enumerators}
use Rattle.c_syntax.specs.Tree.{Tag, no_tag, tag, Stmt, Item, struct_item, enum_item, tag_item, decl_item, function_item, Items, no_items, more_items}
use Rattle.c_tree.specs.Operators.{fits_int}
use Rattle.c_rules.specs.Constants.{number_of}
use Rattle.c_rules.specs.Checked.{Checked, fine, faulty, fault, demand, on, both, gives, and_also, Met, met}
use Rattle.c_rules.specs.Codes.{C2, C3, C6, C11, C12, C13, C14}
use Rattle.c_rules.specs.Limits.{most_cells, most_members, most_static_cells}
use Rattle.c_rules.specs.Names.{Name, is_among, may_be_declared, given_names}
use Rattle.c_rules.specs.Types.{same_type}
use Rattle.c_rules.specs.Scopes.{Env, Meaning, a_static, an_enumerator, unknown, Struct, incomplete, unknown_struct, defined_struct, Member, type_of_member, declared_here, with_name, meaning_or_unknown, with_struct, struct_of, tag_number, layout_of, Before}
use Rattle.c_rules.specs.Counts.{place_of, past}
use Rattle.c_rules.specs.TypedExpression.{TypedExpression}
use Rattle.c_rules.specs.Conversions.{complete}
use Rattle.c_rules.specs.Declarators.{name_of, place_or, constant_value, new_name}
use Rattle.c_rules.specs.Expressions.{type_declared, folded_value}
use Rattle.c_rules.specs.Initialisers.{initialised_static, value_of_cell, held_by, calls_of_maybe_init}
use Rattle.c_rules.specs.Objects.{Object, object_declared, with_size}
use Rattle.c_rules.specs.Tags.{tags_of_enumerators, tags_of_item}
use Rattle.c_rules.specs.Variables.{calls_of_block}
use Rattle.c_rules.specs.Functions.{declares_function, held_by_typed, is_defined_by, behind_function, function_declared, items_of_body, defined_as}

-- the functions and the static objects that an item defines
pub record Output : Type 0 where
  pub functions : List Function
  pub statics : List Static

abbrev pub no_output : Output
no_output = record { functions = []; statics = [] }

abbrev pub with_output : Output → Output → Output
with_output p q = record { functions = p.functions ++ q.functions; statics = p.statics ++ q.statics }

-- a tag that may be declared
abbrev pub free_tag : Env → Ident → Checked Met
free_tag env x = demand (may_be_declared env.whole.mode x.name) C12 x.at met

-- ## Structs (6.7.2.1)

-- a member: an object of known size
abbrev pub member_typed : Env → (place name : ℕ) → CType → Checked CType
member_typed env place name t = on (with_size name no_init t) (λ u. gives (complete env place u) (λ _. u))

-- its name is no name of an earlier member
abbrev pub new_member : Env → List Name → Ident → Checked Met
new_member env earlier x =
    and_also (demand (may_be_declared env.whole.mode x.name) C12 x.at met) (demand (not (is_among earlier x.name)) C2 x.at met)

abbrev pub member_named : Env → List Name → (at : ℕ) → Spec → Declarator → Option Ident → Checked Member
member_named env earlier at s d None = fault C3 (place_or at d)
member_named env earlier at s d (Some x) =
    both (new_member env earlier x) (on (type_declared env at s d) (member_typed env (place_or at d) x.at)) (λ _ t. fine (record { name = x.name; ctype = t }))

abbrev pub member_declared : Env → List Name → (at : ℕ) → Spec → Declarator → Checked Member
member_declared env earlier at s d = member_named env earlier at s d (name_of d)

abbrev pub with_option : Option Ident → List Name → List Name
with_option None xs = xs
with_option (Some x) xs = x.name ∷ xs

-- the names of members behind declarators
abbrev pub names_behind : List Name → Declarators → List Name
names_behind earlier no_declarators = earlier
names_behind earlier (more_declarators d ds) = names_behind (with_option (name_of d) earlier) ds

abbrev pub members_declared : Env → List Name → (at : ℕ) → Spec → Declarators → Checked (List Member)
members_declared env earlier at s no_declarators = fine []
members_declared env earlier at s (more_declarators d ds) =
    both (member_declared env earlier at s d) (members_declared env (with_option (name_of d) earlier) at s ds) (λ m ms. fine (m ∷ ms))

-- the members of a struct, in order
abbrev pub members : Env → List Name → Members → Checked (List Member)
members env earlier no_members = fine []
members env earlier (more_members at s ds rest) =
    both (members_declared env earlier at s ds) (members env (names_behind earlier ds) rest) (λ ms others. fine (ms ++ others))

-- the limits on a struct
abbrev pub struct_laid : Env → Ident → List Member → Checked Struct
struct_laid env x ms =
    on (and_also (demand (nat_le (length ms) most_members) C13 x.at met) (demand (nat_le (cells_of_all (layout_of env) (map type_of_member ms)) most_cells) C13 x.at met))
    (λ _. fine (defined_struct ms))

abbrev pub is_incomplete : Struct → Bool
is_incomplete incomplete = true
is_incomplete s = false

-- a tag has one definition, and names a struct or an enum throughout (6.7.2.3 paragraph 1)
abbrev pub new_struct : Env → Ident → Checked Met
new_struct env x =
    and_also (free_tag env x) (demand (is_incomplete (struct_of env (tag_number env x.name)) && not (is_among env.enums x.name)) C2 x.at met)

-- the definition of a struct; the struct is incomplete until its end (6.2.5 paragraph 22)
abbrev pub struct_definition : Env → Ident → Members → Checked Struct
struct_definition env x ms = both (new_struct env x) (on (members env [] ms) (struct_laid env x)) (λ _ s. fine s)

abbrev pub struct_or_unknown : Checked Struct → Struct
struct_or_unknown (fine s) = s
struct_or_unknown (faulty f fs) = unknown_struct f fs

-- a declaration of a tag alone (6.7.2.3 paragraph 7)
abbrev pub tag_declaration : Env → Ident → Checked Met
tag_declaration env x = and_also (free_tag env x) (demand (not (is_among env.enums x.name)) C2 x.at met)

-- ## Enums (6.7.2.2)

-- a value that is an int (paragraph 2)
abbrev pub int_value : (place : ℕ) → ℤ → Checked ℤ
int_value place z = demand (fits_int z) C6 place z

-- the value of an enumerator: that of its expression, or one more than the value before (paragraph 3)
abbrev pub enumerator_value : Env → (before : Checked ℤ) → Ident → Maybe → Checked ℤ
enumerator_value env before x absent = on before (int_value x.at)
enumerator_value env before x (there e) =
    on (on (folded_value env e) (constant_value (place_of e))) (λ v. int_value (place_of e) (number_of v))

-- what stands for the next value
abbrev pub one_more_than : Checked ℤ → Checked ℤ
one_more_than (fine z) = fine (z +ℤ pos 1)
one_more_than (faulty f fs) = faulty f fs

abbrev pub enumerator_meaning : Env → Ident → Checked ℤ → Checked Meaning
enumerator_meaning env x r = both (new_name env x) r (λ _ z. fine (an_enumerator z))

-- behind an enumerator (6.2.1 paragraph 7)
abbrev pub behind_enumerator : Env → Ident → Checked ℤ → Env
behind_enumerator env x r = with_name env x.name (meaning_or_unknown (enumerator_meaning env x r))

abbrev pub enumerators : Env → (before : Checked ℤ) → Enumerators → Checked Met
enumerators env before no_enumerators = fine met
enumerators env before (more_enumerators x m es) =
    let r : Checked ℤ = enumerator_value env before x m in
    both (enumerator_meaning env x r) (enumerators (behind_enumerator env x r) (one_more_than r) es) (λ _ _. fine met)

abbrev pub behind_enumerators : Env → (before : Checked ℤ) → Enumerators → Env
behind_enumerators env before no_enumerators = env
behind_enumerators env before (more_enumerators x m es) =
    let r : Checked ℤ = enumerator_value env before x m in
    behind_enumerators (behind_enumerator env x r) (one_more_than r) es

-- the tag of an enum, in whose list these tags of structs stand
abbrev pub new_enum : Env → Tag → (within : List Name) → Checked Met
new_enum env no_tag within = fine met
new_enum env (tag x) within =
    and_also (free_tag env x) (demand (not (is_among env.enums x.name) && (not (is_among env.tags x.name) && not (is_among within x.name))) C2 x.at met)

-- the tag is declared behind the list (6.7.2.3 paragraph 3)
abbrev pub behind_enum_tag : Env → Tag → Env
behind_enum_tag env no_tag = env
behind_enum_tag env (tag x) = record env { enums = x.name ∷ env.enums }

-- ## Static objects and prototypes

-- a declaration is a definition unless it is extern without an initialiser (6.9.2 paragraph 1)
abbrev pub defines : Storage → MaybeInit → Bool
defines extern no_init = false
defines class m = true

-- an object may be declared again with its type, and is defined once (6.7 paragraph 4, 6.9 paragraph 5); a declaration that fails asks
-- nothing of later ones
abbrev pub may_follow_object : (defined : Bool) → CType → Option Meaning → Bool
may_follow_object defined t None = true
may_follow_object defined t (Some (a_static seen whole was)) = same_type t whole && not (defined && was)
may_follow_object defined t (Some (unknown f fs)) = true
may_follow_object defined t (Some m) = false

abbrev pub object_name : Env → (defined : Bool) → Ident → CType → Checked Met
object_name env defined x t =
    and_also (demand (may_be_declared env.whole.mode x.name) C12 x.at met)
    (and_also (demand (not (is_among (given_names env.whole.mode) x.name)) C11 x.at met) (demand (may_follow_object defined t (declared_here env x.name)) C2 x.at met))

-- the limit on the cells of static objects and strings, of which so many stand before
abbrev pub few_static : Env → (defined : Bool) → Before → Ident → CType → Checked Met
few_static env false b x t = fine met
few_static env true b x t = demand (nat_le (b.cells + cells (layout_of env) t) most_static_cells) C13 x.at met

-- the object, with the demands on its name and its size
abbrev pub global_object : Env → (defined : Bool) → Before → Ident → Object → Checked Object
global_object env defined b x o = gives (and_also (object_name env defined x o.whole) (few_static env defined b x o.whole)) (λ _. o)

abbrev pub global_declared : Env → (defined : Bool) → Before → (at : ℕ) → Spec → Declarator → Ident → MaybeInit → Checked Object
global_declared env defined b at s d x m = on (object_declared env at s d x m) (global_object env defined b x)

-- what its name means within its own initialiser, and behind it
abbrev pub meaning_of_global : Env → (defined : Bool) → Ident → Checked Object → Checked Meaning
meaning_of_global env defined x r = gives r (λ o. a_static o.whole o.whole (is_defined_by defined (declared_here env x.name)))

abbrev pub seen_of_global : Env → (defined : Bool) → Ident → Checked Object → Checked Meaning
seen_of_global env defined x r = gives r (λ o. a_static o.seen o.whole (is_defined_by defined (declared_here env x.name)))

abbrev pub behind_global : Env → (defined : Bool) → Ident → Checked Object → Env
behind_global env defined x r = with_name env x.name (meaning_or_unknown (meaning_of_global env defined x r))

abbrev pub within_global : Env → (defined : Bool) → Ident → Checked Object → Env
within_global env defined x r = with_name env x.name (meaning_or_unknown (seen_of_global env defined x r))

-- the static object with these cells
abbrev pub static_of : Object → List TypedExpression → Output
static_of o gs = record { functions = []; statics = record { ctype = o.whole; cells = map value_of_cell gs; string = false } ∷ [] }

-- so much stands before the initialiser of a static object
abbrev pub after_object : Env → Before → CType → Before
after_object env b t = record b { cells = b.cells + cells (layout_of env) t }

abbrev pub definition_of : Env → Before → MaybeInit → Object → Checked Output
definition_of env b m o = gives (initialised_static env (after_object env b o.whole) o.whole m) (static_of o)

-- an object at file scope
abbrev pub global : Env → (defined : Bool) → Before → Ident → MaybeInit → Checked Object → Checked Output
global env false b x m r = gives r (λ _. no_output)
global env true b x m r = on r (definition_of (within_global env true x r) b m)

-- a function has no initialiser (6.7.8 paragraph 3)
abbrev pub without_init : MaybeInit → Checked Met
without_init no_init = fine met
without_init (an_init (one at e)) = fault C14 at
without_init (an_init (list at is)) = fault C14 at

abbrev pub prototype : MaybeInit → Checked Meaning → Checked Output
prototype m r = both r (without_init m) (λ _ _. fine no_output)

-- one declarator with its initialiser
abbrev pub declared_part : Env → Before → (at : ℕ) → Storage → Spec → Declarator → MaybeInit → (function : Bool) → Ident → Checked Output
declared_part env b at class s d m true x = prototype m (function_declared env false at s d x)
declared_part env b at class s d m false x = global env (defines class m) b x m (global_declared env (defines class m) b at s d x m)

abbrev pub named_part : Env → Before → (at : ℕ) → Storage → Spec → Declarator → MaybeInit → Option Ident → Checked Output
named_part env b at class s d m None = fault C3 (place_or at d)
named_part env b at class s d m (Some x) = declared_part env b at class s d m (declares_function d) x

abbrev pub behind_declared : Env → Before → (at : ℕ) → Storage → Spec → Declarator → MaybeInit → (function : Bool) → Ident → Env
behind_declared env b at class s d m true x = behind_function env x.name (function_declared env false at s d x)
behind_declared env b at class s d m false x =
    behind_global env (defines class m) x (global_declared env (defines class m) b at s d x m)

abbrev pub behind_named_part : Env → Before → (at : ℕ) → Storage → Spec → Declarator → MaybeInit → Option Ident → Env
behind_named_part env b at class s d m None = env
behind_named_part env b at class s d m (Some x) = behind_declared env b at class s d m (declares_function d) x

-- behind one declarator
abbrev pub behind_file_part : Env → Before → (at : ℕ) → Storage → Spec → Declarator → MaybeInit → Env
behind_file_part env b at class s d m = behind_named_part env b at class s d m (name_of d)

-- so much stands before what follows an object; a function and an extern declaration count nothing
abbrev pub after_global : Env → Before → MaybeInit → Checked Object → Before
after_global env b m (fine o) = past (after_object env b o.whole) (calls_of_maybe_init m) (held_by env o.whole m)
after_global env b m (faulty f fs) = b

abbrev pub after_declared : Env → Before → (at : ℕ) → Spec → Declarator → MaybeInit → (defines_object : Bool) → Option Ident → Before
after_declared env b at s d m false x = b
after_declared env b at s d m true None = b
after_declared env b at s d m true (Some x) = after_global env b m (object_declared env at s d x m)

abbrev pub after_file_part : Env → Before → (at : ℕ) → Storage → Spec → Declarator → MaybeInit → Before
after_file_part env b at class s d m =
    after_declared env b at s d m (not (declares_function d) && defines class m) (name_of d)

abbrev pub file_parts : Env → Before → (at : ℕ) → Storage → Spec → Parts → Checked Output
file_parts env b at class s no_parts = fine no_output
file_parts env b at class s (more_parts d m ps) =
    both (named_part env b at class s d m (name_of d))
    (file_parts (behind_file_part env b at class s d m) (after_file_part env b at class s d m) at class s ps)
    (λ p q. fine (with_output p q))

abbrev pub behind_file_parts : Env → Before → (at : ℕ) → Storage → Spec → Parts → Env
behind_file_parts env b at class s no_parts = env
behind_file_parts env b at class s (more_parts d m ps) =
    behind_file_parts (behind_file_part env b at class s d m) (after_file_part env b at class s d m) at class s ps

abbrev pub after_file_parts : Env → Before → (at : ℕ) → Storage → Spec → Parts → Before
after_file_parts env b at class s no_parts = b
after_file_parts env b at class s (more_parts d m ps) =
    after_file_parts (behind_file_part env b at class s d m) (after_file_part env b at class s d m) at class s ps

abbrev pub file_decl : Env → Before → Decl → Checked Output
file_decl env b (decl at class s ps) = file_parts env b at class s ps

abbrev pub behind_file_decl : Env → Before → Decl → Env
behind_file_decl env b (decl at class s ps) = behind_file_parts env b at class s ps

abbrev pub after_file_decl : Env → Before → Decl → Before
after_file_decl env b (decl at class s ps) = after_file_parts env b at class s ps

-- ## Definitions of functions

abbrev pub output_of_function : Function → Output
output_of_function f = record { functions = f ∷ []; statics = [] }

-- behind the name of a function that is defined
abbrev pub behind_defined : Env → (at : ℕ) → Spec → Declarator → Ident → Env
behind_defined env at s d x = behind_function env x.name (function_declared env true at s d x)

abbrev pub function_named : Env → Before → (at : ℕ) → Spec → Declarator → Stmt → (function : Bool) → Option Ident → Checked Output
function_named env b at s d body false x = fault C3 (place_or at d)
function_named env b at s d body true None = fault C3 (place_or at d)
function_named env b at s d body true (Some x) =
    both (function_declared env true at s d x)
    (on (type_declared env at s d) (defined_as (behind_defined env at s d x) b (place_or at d) d x (items_of_body body)))
    (λ _ f. fine (output_of_function f))

abbrev pub behind_function_named : Env → (at : ℕ) → Spec → Declarator → Option Ident → Env
behind_function_named env at s d None = env
behind_function_named env at s d (Some x) = behind_defined env at s d x

-- so much stands before what follows a function: the calls and strings of its body
abbrev pub after_function : Env → Before → (at : ℕ) → Spec → Declarator → Stmt → Before
after_function env b at s d body =
    past b (calls_of_block (items_of_body body)) (held_by_typed (behind_function_named env at s d (name_of d)) d (items_of_body body) (type_declared env at s d))

-- ## Items

-- what an item gives
abbrev pub item : Env → Before → Item → Checked Output
item env b (struct_item at x ms) = gives (struct_definition env x ms) (λ _. no_output)
item env b (enum_item at x es) = both (new_enum env x (tags_of_enumerators es)) (enumerators env (fine (pos 0)) es) (λ _ _. fine no_output)
item env b (tag_item at x) = gives (tag_declaration env x) (λ _. no_output)
item env b (decl_item at d) = file_decl env b d
item env b (function_item at class s d body) = function_named env b at s d body (declares_function d) (name_of d)

-- the names, structs and enums behind an item
abbrev pub behind_by_form : Env → Before → Item → Env
behind_by_form env b (struct_item at x ms) = with_struct env x.name (struct_or_unknown (struct_definition env x ms))
behind_by_form env b (enum_item at x es) = behind_enum_tag (behind_enumerators env (fine (pos 0)) es) x
behind_by_form env b (tag_item at x) = env
behind_by_form env b (decl_item at d) = behind_file_decl env b d
behind_by_form env b (function_item at class s d body) = behind_function_named env at s d (name_of d)

-- with the tags of structs that stand in an item
abbrev pub with_tags : Env → Item → Env
with_tags env i = record env { tags = tags_of_item false i ++ env.tags }

abbrev pub behind_item : Env → Before → Item → Env
behind_item env b i = with_tags (behind_by_form env b i) i

-- so much stands before what follows an item
abbrev pub after_item : Env → Before → Item → Before
after_item env b (struct_item at x ms) = b
after_item env b (enum_item at x es) = b
after_item env b (tag_item at x) = b
after_item env b (decl_item at d) = after_file_decl env b d
after_item env b (function_item at class s d body) = after_function env b at s d body

-- what items give, in the order of the text
abbrev pub items : Env → Before → Items → Checked Output
items env b no_items = fine no_output
items env b (more_items i is) = both (item env b i) (items (behind_item env b i) (after_item env b i) is) (λ p q. fine (with_output p q))

-- what is known behind all items
abbrev pub behind_items : Env → Before → Items → Env
behind_items env b no_items = env
behind_items env b (more_items i is) = behind_items (behind_item env b i) (after_item env b i) is

-- what stands before the end of all items
abbrev pub after_items : Env → Before → Items → Before
after_items env b no_items = b
after_items env b (more_items i is) = after_items (behind_item env b i) (after_item env b i) is
