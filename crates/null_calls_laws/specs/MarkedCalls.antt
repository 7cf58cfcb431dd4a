-- What the instrumenter has to know of a program: at which sites null calls are to stand, and what is called there.
use Rattle.std.specs.Prelude.{ℕ, Option, None, Some, if◌then◌else◌}
use Rattle.c_meaning.specs.Tree.{CType, pointer, function, CTypes, Program}
use Rattle.c_meaning.specs.Functions.{value_type}
use Rattle.c_meaning.specs.Mentions.{Callee, Direct, Through, mentions_of_program}
use Rattle.c_meaning.specs.CallGraph.{callee_at, is_marked}

-- What a marked call calls: the type of its pointer where it calls through one, and the types of its result and parameters.
pub record Called : Type 0 where
  pub pointer_type : Option CType
  pub returns : CType
  pub parameters : CTypes

-- for each site the call between whose null calls it stands, where it is marked
abbrev pub Sites : Type 0
Sites = ℕ → Option Called

abbrev pub called_as : Option CType → CType → Option Called
called_as pointer_type (function t ts) = Some (record { pointer_type = pointer_type; returns = t; parameters = ts })
called_as pointer_type t = None

abbrev pub called_by_type : Option CType → Option CType → Option Called
called_by_type pointer_type None = None
called_by_type pointer_type (Some t) = called_as pointer_type t

abbrev pub called_through : CType → Option Called
called_through (pointer t) = called_as (Some (pointer t)) t
called_through t = None

abbrev pub called_of : Program → Callee → Option Called
called_of p (Direct f) = called_by_type None (value_type p f)
called_of p (Through t) = called_through t

abbrev pub marked_of : Program → Option Callee → Option Called
marked_of p None = None
marked_of p (Some callee) = if is_marked p callee then called_of p callee else None

-- the marked sites of a program
abbrev pub sites_of : Program → Sites
sites_of p site = marked_of p (callee_at site (mentions_of_program p))
