-- What the parts of an environment in Rust are in the rules.
use Rattle.std.specs.Prelude.{List, map, reverse, Option, Some, None}
use Rattle.std.specs.Borrow.{Bor}
use Rattle.c_tree.specs.View.{ctype_of}
use Rattle.c_rules.specs.Scopes as rules
use Rattle.c_rules.specs.Scopes.{Env, Whole, Binding, Struct, incomplete, defined_struct, Member}
use Rattle.c_check_scopes.specs.declared.structs.StructMember.{StructMember}
use Rattle.c_check_scopes.specs.Known.{Known}
use Rattle.c_check_scopes.specs.Shown.{defined_in}
use Rattle.c_check_scopes.specs.declared.scopes.Entry.{Entry}
use Rattle.c_check_scopes.specs.declared.environment.Context.{Context}
use Rattle.c_check_scopes.specs.declared.environment.Context.TheVariants as c
use Rattle.c_check_scopes.specs.declared.environment.Environment.{Environment}
use Rattle.c_check_scopes.specs.Bound.{binding_of, bindings_of}

-- a declaration that was looked up
abbrev pub entry_of : Entry → Binding
entry_of e = binding_of (record { name = e.name.now; depth = e.depth; means = e.means })

abbrev pub found : Option (Bor Entry) → Option Binding
found None = None
found (Some e) = Some (entry_of e.now)

abbrev pub context_of : Context → rules.Context
context_of c.Evaluated = rules.evaluated
context_of c.Sized = rules.sized
context_of c.Folded = rules.folded

-- what is known of a struct
abbrev pub member_of : Known → Member
member_of k = record { name = k.name; ctype = ctype_of k.ctype }

abbrev pub struct_known : Option (List Known) → Struct
struct_known None = incomplete
struct_known (Some ks) = defined_struct (map member_of ks)

abbrev pub structs_of : List (Option (List Known)) → List Struct
structs_of structs = map struct_known structs

-- members that were looked up
abbrev pub struct_in : Option (Bor (List StructMember)) → Struct
struct_in r = struct_known (defined_in r)

-- what is known of the whole unit
abbrev pub whole_of : Environment → Whole
whole_of e = record { mode = e.mode; functions = e.defined_functions; objects = e.objects; tags = e.struct_tags }

-- the environment of the rules
abbrev pub env_of : Environment → Env
env_of e = record {
  whole = whole_of e;
  names = bindings_of e.names;
  depth = e.depth;
  structs = structs_of e.structs;
  enums = reverse e.enums;
  functions = e.functions;
  tags = reverse e.tags;
  context = context_of e.context;
}

-- what stands before, which Rust sees as the rules do
abbrev pub before_of : rules.Before → rules.Before
before_of b = b
