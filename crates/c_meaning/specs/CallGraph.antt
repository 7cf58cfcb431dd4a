-- The call graph of a program: which functions may be called at each site, and which may come to a system call.
use Rattle.std.specs.Prelude.{ℕ, zero, suc, ◌+◌, Bool, true, false, ◌&&◌, ◌||◌, nat_eq, nat_lt, List, [], ◌∷◌, Option, None, Some, filter, slice_get, if◌then◌else◌}
use Rattle.std.specs.List.{range_with_len}
use Rattle.c_tree.specs.declared.value.IntType.{IntType}
use Rattle.c_tree.specs.declared.value.IntType.TheVariants.{Char, Uchar, Int, Uint}
use Rattle.c_tree.specs.Tree.{CType, void, integer, pointer, array, struct, function, CTypes, no_types, more_types, Function, Program}
use Rattle.c_tree.specs.Functions.{defined, value_type}
use Rattle.c_meaning.specs.Mentions.{Callee, Direct, Through, Mention, Named, Calls, mentions_of_function, mentions_of_program}

-- whether the number stands in the list
abbrev pub is_in : ℕ → List ℕ → Bool
is_in f [] = false
is_in f (g ∷ gs) = nat_eq f g || is_in f gs

-- whether some item passes the test
abbrev pub has_one : {X : Type 0} → (X → Bool) → List X → Bool
has_one test [] = false
has_one test (x ∷ xs) = test x || has_one test xs

-- whether two types are the same
abbrev pub rank_of : IntType → ℕ
rank_of Char = 0
rank_of Uchar = 1
rank_of Int = 2
rank_of Uint = 3

abbrev mutual
  pub same_type : CType → CType → Bool
  same_type void void = true
  same_type (integer i) (integer j) = nat_eq (rank_of i) (rank_of j)
  same_type (pointer t) (pointer u) = same_type t u
  same_type (array t n) (array u m) = same_type t u && nat_eq n m
  same_type (struct s) (struct r) = nat_eq s r
  same_type (function t ts) (function u us) = same_type t u && same_types ts us
  same_type _ _ = false

  pub same_types : CTypes → CTypes → Bool
  same_types no_types no_types = true
  same_types (more_types t ts) (more_types u us) = same_type t u && same_types ts us
  same_types _ _ = false

-- whether a mention is the name of the function, other than to call it
abbrev pub names : ℕ → Mention → Bool
names f (Named g) = nat_eq f g
names f (Calls s callee) = false

-- the function's name stands in the program other than to call it, or it is in a cell of a static object
abbrev pub is_taken : Program → ℕ → Bool
is_taken p f = has_one (names f) (mentions_of_program p)

-- whether what is pointed to is the function's type
abbrev pub is_typed : CType → Option CType → Bool
is_typed (pointer t) (Some u) = same_type t u
is_typed _ _ = false

-- the defined functions and the system calls
abbrev pub functions_of : Program → List ℕ
functions_of p = range_with_len 0 (defined p + 24)

-- what a call may call: the function that it names, or the taken functions of the type that its pointer points to
abbrev pub callees : Program → Callee → List ℕ
callees p (Direct f) = f ∷ []
callees p (Through t) = filter (λ f. is_taken p f && is_typed t (value_type p f)) (functions_of p)

-- whether some of these functions may be called there
abbrev pub enters : Program → List ℕ → Mention → Bool
enters p fs (Named f) = false
enters p fs (Calls s callee) = has_one (λ f. is_in f fs) (callees p callee)

-- what a function's body says of functions; a system call has no body
abbrev pub said_by : Option Function → List Mention
said_by None = []
said_by (Some f) = mentions_of_function f

-- these functions, and those whose body has a call that may call one of them
abbrev pub one_round : Program → List ℕ → List ℕ
one_round p fs =
    filter (λ f. is_in f fs || has_one (enters p fs) (said_by (slice_get p.functions f))) (functions_of p)

-- the functions that may come to a system call, found in so many rounds from the system calls on
abbrev pub reaching : Program → ℕ → List ℕ
reaching p zero = range_with_len (defined p) 24
reaching p (suc n) = one_round p (reaching p n)

-- the function may come to a system call; as many rounds as there are defined functions are enough
abbrev pub reaches : Program → ℕ → Bool
reaches p f = is_in f (reaching p (defined p))

-- whether null calls stand round a call: it may call a function that may come to a system call, and is no direct call of a system call
abbrev pub is_marked : Program → Callee → Bool
is_marked p (Direct f) = nat_lt f (defined p) && reaches p f
is_marked p (Through t) = has_one (λ f. reaches p f) (callees p (Through t))

-- the call at a site
abbrev pub callee_at : ℕ → List Mention → Option Callee
callee_at s [] = None
callee_at s (Named f ∷ ms) = callee_at s ms
callee_at s (Calls r callee ∷ ms) = if nat_eq s r then Some callee else callee_at s ms

abbrev pub called_where : Program → Option Callee → List ℕ
called_where p None = []
called_where p (Some callee) = callees p callee

-- the functions that may be called at a site, by their numbers
abbrev pub candidates : Program → ℕ → List ℕ
candidates p s = called_where p (callee_at s (mentions_of_program p))

abbrev pub marked_where : Program → Option Callee → Bool
marked_where p None = false
marked_where p (Some callee) = is_marked p callee

-- whether null calls stand round the call at a site
abbrev pub marked : Program → ℕ → Bool
marked p s = marked_where p (callee_at s (mentions_of_program p))
