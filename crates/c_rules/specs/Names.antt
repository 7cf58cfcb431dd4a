-- Names: lists of them, those of system calls, and those that are reserved (7.1.3).
use Rattle.std.specs.Prelude.{ℕ, suc, Bool, true, false, not, ◌&&◌, ◌||◌, List, [], ◌∷◌, ◌++◌, map, if◌then◌else◌, Option, Some, None, is_some, option_map, nat_eq, nat_le, codes, bytes_eq}
use Rattle.c_tree.specs.Mode.{Mode}
use Rattle.c_tree.specs.Mode.TheVariants.{Plain, Instrumented}
use Rattle.c_tree.specs.Table.{Row, table}
use Rattle.c_tree.specs.Functions.{sys_types, null_types}
use Rattle.c_tree.specs.Tree.{CType}
use Rattle.c_rules.specs.Types.{same_type}

-- a name is its bytes
abbrev pub Name : Type 0
Name = List ℕ

-- the name's place in a list, where it stands there
abbrev pub number_among : List Name → Name → Option ℕ
number_among [] x = None
number_among (y ∷ ys) x = if bytes_eq y x then Some 0 else option_map suc (number_among ys x)

-- the name stands in the list
abbrev pub is_among : List Name → Name → Bool
is_among ys x = is_some (number_among ys x)

-- the list with the name at its end, where it isn't there yet
abbrev pub with_new : List Name → Name → List Name
with_new ys x = if is_among ys x then ys else ys ++ x ∷ []

-- the names of a list, each once
abbrev pub each_once : List Name → List Name → List Name
each_once ys [] = ys
each_once ys (x ∷ xs) = each_once (with_new ys x) xs

-- the names of the system calls, by their numbers
abbrev pub name_of_row : Row → Name
name_of_row r = r.name

abbrev pub system_calls : List Name
system_calls = map name_of_row table

-- the two null calls, that before a call and that after it
abbrev pub null_calls : List Name
null_calls = codes "__dyck_pre" ∷ codes "__dyck_post" ∷ []

-- what follows the first list in the second one, which begins with it
abbrev pub after_front : Name → Name → Option Name
after_front [] x = Some x
after_front (b ∷ bs) [] = None
after_front (b ∷ bs) (c ∷ cs) = if nat_eq b c then after_front bs cs else None

abbrev pub begins_with : Name → Name → Bool
begins_with front x = is_some (after_front front x)

-- the two underscores that reserve a name (7.1.3)
abbrev pub is_reserved : Name → Bool
is_reserved = begins_with (codes "__")

-- a name of the instrumenter: variables of such names are numbered after the others
abbrev pub is_added : Name → Bool
is_added = begins_with (codes "__dyck_")

abbrev pub is_digit : ℕ → Bool
is_digit b = nat_le 48 b && nat_le b 57

-- digits alone
abbrev pub are_digits : Name → Bool
are_digits [] = true
are_digits (b ∷ bs) = is_digit b && are_digits bs

-- a digit at least
abbrev pub is_number : Name → Bool
is_number [] = false
is_number (b ∷ bs) = are_digits (b ∷ bs)

-- digits, an underscore, and a number
abbrev pub is_rest_of_pair : Name → Bool
is_rest_of_pair [] = false
is_rest_of_pair (b ∷ bs) = if nat_eq b 95 then is_number bs else is_digit b && is_rest_of_pair bs

-- a number, an underscore, and a number
abbrev pub is_pair : Name → Bool
is_pair [] = false
is_pair (b ∷ bs) = is_digit b && is_rest_of_pair bs

abbrev pub is_some_and : (Name → Bool) → Option Name → Bool
is_some_and f None = false
is_some_and f (Some x) = f x

-- a variable of the instrumenter: the designator, an argument or the result of a marked call
abbrev pub is_temporary : Name → Bool
is_temporary x =
    is_some_and is_number (after_front (codes "__dyck_f") x)
    || (is_some_and is_number (after_front (codes "__dyck_r") x) || is_some_and is_pair (after_front (codes "__dyck_a") x))

-- names with a meaning of their own: they may be declared although they are reserved
abbrev pub is_instrumented : Mode → Name → Bool
is_instrumented Plain x = false
is_instrumented Instrumented x = is_among null_calls x || is_temporary x

-- the name may be declared
abbrev pub may_be_declared : Mode → Name → Bool
may_be_declared m x = not (is_reserved x) || is_instrumented m x

-- the functions that have no definition: the system calls, and the two null calls in an instrumented unit
abbrev pub given_names : Mode → List Name
given_names Plain = system_calls
given_names Instrumented = system_calls ++ null_calls

-- their types
abbrev pub given_types : Mode → List CType
given_types Plain = sys_types
given_types Instrumented = sys_types ++ null_types

-- this type is given
abbrev pub is_given_type : Option CType → CType → Bool
is_given_type None t = false
is_given_type (Some u) t = same_type t u
