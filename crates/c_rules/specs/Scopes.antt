-- Scopes (6.2.1): what names mean where a part of the unit stands.
use Rattle.std.specs.Prelude.{ℕ, suc, ℤ, Bool, List, [], ◌∷◌, map, length, replicate, Option, Some, None, if◌then◌else◌, cond, nat_eq, bytes_eq, slice_get, slice_set, unwrap_or}
use Rattle.c_tree.specs.Mode.{Mode}
use Rattle.c_tree.specs.Tree.{CType}
use Rattle.c_tree.specs.Layout.{Structs}
use Rattle.c_rules.specs.Checked.{Fault, Checked, fine, faulty}
use Rattle.c_rules.specs.Names.{Name, number_among}

-- What an ordinary name means. An object has two types, which differ within its own initialiser alone: an array without a
-- size has its size at the end of the initialiser that gives it one (6.7.8 paragraph 22), and `seen` is its type so far.
pub data Meaning : Type 0 where
  -- a static object, and whether its definition stands before
  a_static : (seen whole : CType) → (defined : Bool) → Meaning
  -- a variable of the function, by its number
  a_local : (number : ℕ) → (seen whole : CType) → Meaning
  -- a function, and whether its definition stands before
  a_function : CType → (defined : Bool) → Meaning
  an_enumerator : ℤ → Meaning
  -- a name whose declaration fails, with its demands that fail: each use fails with them
  unknown : (first : Fault) (others : List Fault) → Meaning

-- a name, how many blocks enclose its declaration, and what it means
pub record Binding : Type 0 where
  pub name : Name
  pub depth : ℕ
  pub means : Meaning

pub record Member : Type 0 where
  pub name : Name
  pub ctype : CType

-- what is known of a struct
pub data Struct : Type 0 where
  -- its definition doesn't stand before (6.7.2.3 paragraph 3)
  incomplete : Struct
  -- its definition fails, with its demands that fail
  unknown_struct : (first : Fault) (others : List Fault) → Struct
  defined_struct : List Member → Struct

-- whether what stands here is evaluated when the program runs
pub data Context : Type 0 where
  evaluated : Context
  -- in the operand of sizeof (6.5.3.4 paragraph 2)
  sized : Context
  -- in an array size, a case value or the value of an enumerator (6.6)
  folded : Context

-- What is known of the whole unit from its syntax alone: the mode in which it is read, the functions and the static objects in
-- the order of their definitions, and the tags of structs in the order of their numbers.
pub record Whole : Type 0 where
  pub mode : Mode
  pub functions : List Name
  pub objects : List Name
  pub tags : List Name

-- What is known where a part stands: the names with the newest first, how many blocks enclose the part, the structs by their
-- numbers, the tags of enums, and the functions and the tags of structs that stand in earlier items.
pub record Env : Type 0 where
  pub whole : Whole
  pub names : List Binding
  pub depth : ℕ
  pub structs : List Struct
  pub enums : List Name
  pub functions : List Name
  pub tags : List Name
  pub context : Context

-- where nothing stands before
abbrev pub empty_env : Whole → Env
empty_env w = record {
  whole = w;
  names = [];
  depth = 0;
  structs = replicate (length w.tags) incomplete;
  enums = [];
  functions = [];
  tags = [];
  context = evaluated;
}

-- the newest declaration of a name (6.2.1 paragraph 4)
abbrev pub lookup : List Binding → Name → Option Binding
lookup [] x = None
lookup (b ∷ bs) x = cond (bytes_eq b.name x) (Some b) (lookup bs x)

-- what a name means here
abbrev pub binding_of : Env → Name → Option Binding
binding_of env x = lookup env.names x

-- the meaning of a name that is declared in the innermost scope; names of outer scopes may be declared anew
abbrev pub at_depth : ℕ → Option Binding → Option Meaning
at_depth d None = None
at_depth d (Some b) = if nat_eq b.depth d then Some b.means else None

abbrev pub declared_here : Env → Name → Option Meaning
declared_here env x = at_depth env.depth (binding_of env x)

-- with a name declared in the innermost scope
abbrev pub with_name : Env → Name → Meaning → Env
with_name env x m = record env { names = record { name = x; depth = env.depth; means = m } ∷ env.names }

-- the meaning that a declaration gives: a name whose declaration fails is unknown
abbrev pub meaning_or_unknown : Checked Meaning → Meaning
meaning_or_unknown (fine m) = m
meaning_or_unknown (faulty f fs) = unknown f fs

-- inside a block
abbrev pub inside : Env → Env
inside env = record env { depth = suc env.depth }

abbrev pub in_context : Env → Context → Env
in_context env c = record env { context = c }

-- the number of a tag of a struct
abbrev pub tag_number : Env → Name → ℕ
tag_number env x = unwrap_or (number_among env.whole.tags x) 0

-- what is known of the struct with this number
abbrev pub struct_of : Env → ℕ → Struct
struct_of env s = unwrap_or (slice_get env.structs s) incomplete

abbrev pub with_struct : Env → Name → Struct → Env
with_struct env x s = record env { structs = slice_set env.structs (tag_number env x) s }

abbrev pub type_of_member : Member → CType
type_of_member m = m.ctype

-- the types of its members, where it has a definition
abbrev pub types_of_struct : Struct → Option (List CType)
types_of_struct incomplete = None
types_of_struct (unknown_struct f fs) = None
types_of_struct (defined_struct ms) = Some (map type_of_member ms)

-- the structs as the layout of objects has them
abbrev pub layout_of : Env → Structs
layout_of env = map types_of_struct env.structs

-- What stands before a part in the unit: so many calls that are evaluated, the strings that the typed program holds, and so many cells
-- of static objects and of such strings.
pub record Before : Type 0 where
  pub sites : ℕ
  pub strings : List (List ℕ)
  pub cells : ℕ

abbrev pub nothing_before : Before
nothing_before = record { sites = 0; strings = []; cells = 0 }
