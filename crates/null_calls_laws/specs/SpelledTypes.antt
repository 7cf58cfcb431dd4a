-- How a type is written: the specifier and the declarator of an object of that type (C99 6.7.5). Parameters of functions have no names.
use Rattle.std.specs.Prelude.{ℕ, false, List, slice_index_or, []}
use Rattle.c_meaning.specs.IntType.{IntType}
use Rattle.c_meaning.specs.IntType.TheVariants.{Char, Uchar, Int, Uint}
use Rattle.c_meaning.specs.Tree.{CType, CTypes, no_types, more_types}
use Rattle.c_meaning.specs.Tree as typed
use Rattle.c_rules.specs.Tree.{Spec, Declarator, Params, no_params, more_params, there, an_int}
use Rattle.c_rules.specs.Tree as syntax
use Rattle.c_rules.specs.Names.{Name}

-- integers (6.7.2)
abbrev pub integer_spec : IntType → Spec
integer_spec Char = syntax.char
integer_spec Uchar = syntax.unsigned_char
integer_spec Int = syntax.int
integer_spec Uint = syntax.unsigned_int

-- the tags of structs by their numbers, and the place that every new part gets
module _ (tags : List Name) (at : ℕ) where
  abbrev mutual
    -- the specifier with which a declarator of this type is written
    pub spec_of : CType → Spec
    spec_of typed.void = syntax.void
    spec_of (typed.integer i) = integer_spec i
    spec_of (typed.struct s) = syntax.struct (record { name = slice_index_or tags s []; at = at })
    spec_of (typed.pointer t) = spec_of t
    spec_of (typed.array t n) = spec_of t
    spec_of (typed.function t ts) = spec_of t

    -- the declarator of what has this type, round what is declared
    pub declarator_of : CType → Declarator → Declarator
    declarator_of typed.void d = d
    declarator_of (typed.integer i) d = d
    declarator_of (typed.struct s) d = d
    declarator_of (typed.pointer t) d = declarator_of t (syntax.pointer at d)
    declarator_of (typed.array t n) d = declarator_of t (syntax.array at d (there (an_int at n false)))
    declarator_of (typed.function t ts) d = declarator_of t (syntax.function at d (params_of ts))

    pub params_of : CTypes → Params
    params_of no_types = no_params
    params_of (more_types t ts) = more_params at (spec_of t) (declarator_of t syntax.nothing) (params_of ts)
