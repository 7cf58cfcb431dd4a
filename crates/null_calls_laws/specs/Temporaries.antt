-- The names of the instrumenter, and the temporaries of a marked call: where the designator, the arguments and the result are kept.
use Rattle.std.specs.Prelude.{ℕ, zero, suc, ◌+◌, ◌/◌, ◌%◌, Bool, false, List, [], ◌∷◌, ◌++◌, Option, None, Some, codes, nat_lt, if◌then◌else◌}
use Rattle.c_meaning.specs.Tree.{CType, void, CTypes, no_types, more_types}
use Rattle.c_rules.specs.Names.{Name}
use Rattle.c_rules.specs.Tree.{named, no_storage, Decl, decl, more_parts, no_parts, no_init, BlockItems, block_decl}
use Rattle.null_calls_laws.specs.MarkedCalls.{Called}
use Rattle.null_calls_laws.specs.SpelledTypes.{spec_of, declarator_of}

-- the digits of a number below 10 ^ k (its canonical decimal text)
abbrev pub digits_within : (k n : ℕ) → List ℕ
digits_within zero n = []
digits_within (suc k) n = if nat_lt n 10 then (48 + n) ∷ [] else digits_within k (n / 10) ++ (48 + n % 10) ∷ []

-- the decimal text of a number below 10 ^ 10, as sites and numbers of arguments are
abbrev pub digits_of : ℕ → List ℕ
digits_of n = digits_within 10 n

-- the names of the two null calls
abbrev pub pre_name : Name
pre_name = codes "__dyck_pre"

abbrev pub post_name : Name
post_name = codes "__dyck_post"

-- the temporary that keeps the designator of the call at a site
abbrev pub designator_name : ℕ → Name
designator_name site = codes "__dyck_f" ++ digits_of site

-- the temporary that keeps an argument, counted from 0
abbrev pub argument_name : (site i : ℕ) → Name
argument_name site i = codes "__dyck_a" ++ (digits_of site ++ (codes "_" ++ digits_of i))

-- the temporary that keeps the result
abbrev pub result_name : ℕ → Name
result_name site = codes "__dyck_r" ++ digits_of site

pub record Temporary : Type 0 where
  pub name : Name
  pub ctype : CType

-- the designator is kept where it is no name of a function
abbrev pub designator_kept : (site : ℕ) → Option CType → List Temporary
designator_kept site None = []
designator_kept site (Some t) = record { name = designator_name site; ctype = t } ∷ []

-- each argument is kept in the type of its parameter
abbrev pub arguments_kept : (site i : ℕ) → CTypes → List Temporary
arguments_kept site i no_types = []
arguments_kept site i (more_types t ts) = record { name = argument_name site i; ctype = t } ∷ arguments_kept site (suc i) ts

-- a result is kept where it is wanted and there is one
abbrev pub is_kept : (wanted : Bool) → CType → Bool
is_kept wanted void = false
is_kept wanted t = wanted

abbrev pub result_kept : (site : ℕ) → (wanted : Bool) → CType → List Temporary
result_kept site wanted t = if is_kept wanted t then record { name = result_name site; ctype = t } ∷ [] else []

-- the temporaries of the marked call at a site
abbrev pub temporaries_of : (site : ℕ) → (wanted : Bool) → Called → List Temporary
temporaries_of site wanted c =
    designator_kept site c.pointer_type ++ (arguments_kept site 0 c.parameters ++ result_kept site wanted c.returns)

abbrev pub temporaries_where : (site : ℕ) → (wanted : Bool) → Option Called → List Temporary
temporaries_where site wanted None = []
temporaries_where site wanted (Some c) = temporaries_of site wanted c

-- the declaration of a temporary
abbrev pub declaration_of : List Name → (at : ℕ) → Temporary → Decl
declaration_of tags at x =
    decl at no_storage (spec_of tags at x.ctype)
    (more_parts (declarator_of tags at x.ctype (named at (record { name = x.name; at = at }))) no_init no_parts)

-- declarations of temporaries before other items of a block
abbrev pub declared_before : List Name → (at : ℕ) → List Temporary → BlockItems → BlockItems
declared_before tags at [] is = is
declared_before tags at (x ∷ xs) is = block_decl (declaration_of tags at x) (declared_before tags at xs is)
