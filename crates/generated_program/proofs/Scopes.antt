-- The scopes of the generated unit in closed form: what is known behind its first functions, and what their names mean there.
use Rattle.std.proofs.Common.{◌≡◌, ℕ, zero, suc, ◌+◌, ◌<◌, ◌≤◌, Bool, true, false, List, [], ◌∷◌, ◌++◌, length, length-append, Option, Some, None, codes, refl, sym, ap, ap₂, subst, ◌∙◌, inl, inr, arith}
use Rattle.std.specs.Prelude.{◌⊎◌, nat_eq, ◌/◌, ◌%◌, option_map, is_some, bytes_eq, if◌then◌else◌}
use Rattle.std.proofs.lemmas.Bool.{cases_eq, cond-true, cond-false}
use Rattle.dm_base.specs.declared.mode.Mode.TheVariants.{Plain}
use Rattle.sys_table.specs.Table.{table}
use Rattle.c_tree.specs.Functions.{int, of_none}
use Rattle.c_rules.specs.Names.{Name, number_among, is_among, given_names}
use Rattle.c_rules.specs.Scopes.{Binding, a_function, evaluated, Whole, Env, lookup, Before}
use Rattle.c_rules.specs.PrimaryExpressions.{given_number, number_or, function_number}
use Rattle.generated_program.specs.Generator.{system_call_by, function_name}
use Rattle.generated_program.specs.Typed.{getpid_number, getppid_number, system_number_by}
use Rattle.generated_program.proofs.Names.{itself, names_differ}

-- ## Closed forms

-- the names of so many functions behind the one with the number i, and then others
abbrev pub names_behind : (i count : ℕ) → List Name → List Name
names_behind i zero rest = rest
names_behind i (suc count) rest = function_name (suc i) ∷ names_behind (suc i) count rest

-- the names of the functions that are defined, in order
abbrev pub all_names : (last : ℕ) → List Name
all_names last = function_name 0 ∷ names_behind 0 last (codes "main" ∷ [])

-- a plain unit in which these functions are defined, and no static object and no struct
abbrev pub known : List Name → Whole
known fs = record { mode = Plain; functions = fs; objects = []; tags = [] }

-- such a unit's scope with these names, so many blocks round it, and these functions declared
abbrev pub scope : (fs : List Name) → List Binding → (depth : ℕ) → List Name → Env
scope fs bs depth ds =
    record { whole = known fs; names = bs; depth = depth; structs = []; enums = []; functions = ds; tags = []; context = evaluated }

-- so many calls stand before, and no string and no static object
abbrev pub at_site : ℕ → Before
at_site s = record { sites = s; strings = []; cells = 0 }

-- the name of a function int NAME(void), and whether its definition stands before
abbrev pub function_bound : Name → Bool → Binding
function_bound x d = record { name = x; depth = 0; means = a_function (of_none int) d }

-- the names behind the function with the number i, the newest first
abbrev pub bindings : (i : ℕ) → List Binding
bindings zero = function_bound (function_name 0) true ∷ function_bound (codes "getppid") false ∷ function_bound (codes "getpid") false ∷ []
bindings (suc i) = function_bound (function_name (suc i)) true ∷ bindings i

-- the functions that are declared there, in order
abbrev pub declared : (i : ℕ) → List Name
declared zero = codes "getpid" ∷ codes "getppid" ∷ function_name 0 ∷ []
declared (suc i) = declared i ++ (function_name (suc i) ∷ [])

-- the number of a function that is called by its name
abbrev pub number_by : List Name → Name → Option ℕ
number_by fs x = function_number (scope fs [] 0 []) x

-- ## Numbers of functions

first_number : (y x : Name) (ys : List Name) → bytes_eq y x ≡ true → number_among (y ∷ ys) x ≡ Some 0
first_number y x ys e = ap (λ b. if b then Some 0 else option_map suc (number_among ys x)) e

later_number : (y x : Name) (ys : List Name) (o : Option ℕ) → bytes_eq y x ≡ false → number_among ys x ≡ o → number_among (y ∷ ys) x ≡ option_map suc o
later_number y x ys o e k = ap₂ (λ b q. if b then Some 0 else option_map suc q) e k

number_behind : (i count j n : ℕ) (rest : List Name) → j < count → i + count < 500 → n ≡ suc (i + j) → number_among (names_behind i count rest) (function_name n) ≡ Some j
number_behind i zero j n rest below small e = absurd (omega (arith, below))
number_behind i (suc count) zero n rest below small e =
    let same : suc i ≡ n = omega (arith, e) in
    first_number (function_name (suc i)) (function_name n) (names_behind (suc i) count rest) (subst (λ k. bytes_eq (function_name (suc i)) (function_name k) ≡ true) same (itself (function_name (suc i))))
number_behind i (suc count) (suc j) n rest below small e =
    later_number (function_name (suc i)) (function_name n) (names_behind (suc i) count rest) (Some j) (names_differ (suc i) n (omega (arith, small)) (omega (arith, small, below, e)) (λ q. omega (arith, q, e)))
    (number_behind (suc i) count j n rest (omega (arith, below)) (omega (arith, small)) (omega (arith, e)))

function_numbered : (last j : ℕ) → j ≤ last → last < 500 → number_among (all_names last) (function_name j) ≡ Some j
function_numbered last zero below small = first_number (function_name 0) (function_name 0) (names_behind 0 last (codes "main" ∷ [])) (itself (function_name 0))
function_numbered last (suc j) below small =
    later_number (function_name 0) (function_name (suc j)) (names_behind 0 last (codes "main" ∷ [])) (Some j) (names_differ 0 (suc j) (omega arith) (omega (arith, below, small)) (λ q. omega (arith, q)))
    (number_behind 0 last j (suc j) (codes "main" ∷ []) (omega (arith, below)) (omega (arith, small)) (omega arith))

main_behind : (i count : ℕ) → number_among (names_behind i count (codes "main" ∷ [])) (codes "main") ≡ Some count
main_behind i zero = refl
main_behind i (suc count) = ap (option_map suc) (main_behind (suc i) count)

pub main_numbered : (last : ℕ) → number_among (all_names last) (codes "main") ≡ Some (suc last)
main_numbered last = ap (option_map suc) (main_behind 0 last)

no_getpid : (i count : ℕ) → number_among (names_behind i count (codes "main" ∷ [])) (codes "getpid") ≡ None
no_getpid i zero = refl
no_getpid i (suc count) = ap (option_map suc) (no_getpid (suc i) count)

no_getppid : (i count : ℕ) → number_among (names_behind i count (codes "main" ∷ [])) (codes "getppid") ≡ None
no_getppid i zero = refl
no_getppid i (suc count) = ap (option_map suc) (no_getppid (suc i) count)

length_behind : (i count : ℕ) → length (names_behind i count (codes "main" ∷ [])) ≡ suc count
length_behind i zero = refl
length_behind i (suc count) = ap suc (length_behind (suc i) count)

pub length_all : (last : ℕ) → length (all_names last) ≡ last + 2
length_all last = let k = length_behind 0 last in omega (arith, k)

-- ## What names mean

first_found : (b : Binding) (x : Name) (bs : List Binding) → bytes_eq b.name x ≡ true → lookup (b ∷ bs) x ≡ Some b
first_found b x bs e = cond-true (bytes_eq b.name x) (Some b) (lookup bs x) e

later_found : (b : Binding) (x : Name) (bs : List Binding) → bytes_eq b.name x ≡ false → lookup (b ∷ bs) x ≡ lookup bs x
later_found b x bs e = cond-false (bytes_eq b.name x) (Some b) (lookup bs x) e

function_found : (i j : ℕ) → j ≤ i → i < 500 → lookup (bindings i) (function_name j) ≡ Some (function_bound (function_name j) true)
function_found zero zero below small = first_found (function_bound (function_name 0) true) (function_name 0) (function_bound (codes "getppid") false ∷ function_bound (codes "getpid") false ∷ []) (itself (function_name 0))
function_found zero (suc j) below small = absurd (omega (arith, below))
function_found (suc i) j below small = by (cases_eq (suc i) j) (λ k. function_found i j k (omega (arith, small)))
  where
    by : (suc i ≡ j) ⊎ (suc i ≡ j → ⊥) → (j ≤ i → lookup (bindings i) (function_name j) ≡ Some (function_bound (function_name j) true)) → lookup (bindings (suc i)) (function_name j) ≡ Some (function_bound (function_name j) true)
    by (inl e) more = subst (λ k. lookup (bindings (suc i)) (function_name k) ≡ Some (function_bound (function_name k) true)) e (first_found (function_bound (function_name (suc i)) true) (function_name (suc i)) (bindings i) (itself (function_name (suc i))))
    by (inr unlike) more =
        later_found (function_bound (function_name (suc i)) true) (function_name j) (bindings i) (names_differ (suc i) j small (omega (arith, below, small)) unlike)
        ∙ more (omega (arith, below, unlike))

-- a later function's name is bound by none of them
pub not_found : (i n : ℕ) → i < n → n < 500 → lookup (bindings i) (function_name n) ≡ None
not_found zero n below small = later_found (function_bound (function_name 0) true) (function_name n) (function_bound (codes "getppid") false ∷ function_bound (codes "getpid") false ∷ []) (names_differ 0 n (omega arith) small (λ q. omega (arith, q, below)))
not_found (suc i) n below small =
    later_found (function_bound (function_name (suc i)) true) (function_name n) (bindings i) (names_differ (suc i) n (omega (arith, below, small)) small (λ q. omega (arith, q, below))) ∙ not_found i n (omega (arith, below)) small

pub main_not_found : (i : ℕ) → lookup (bindings i) (codes "main") ≡ None
main_not_found zero = refl
main_not_found (suc i) = main_not_found i

pub counter_not_found : (i : ℕ) → lookup (bindings i) (codes "i") ≡ None
counter_not_found zero = refl
counter_not_found (suc i) = counter_not_found i

getpid_found : (i : ℕ) → lookup (bindings i) (codes "getpid") ≡ Some (function_bound (codes "getpid") false)
getpid_found zero = refl
getpid_found (suc i) = getpid_found i

getppid_found : (i : ℕ) → lookup (bindings i) (codes "getppid") ≡ Some (function_bound (codes "getppid") false)
getppid_found zero = refl
getppid_found (suc i) = getppid_found i

-- ## Which functions are declared

found_and_not : (n : ℕ) (o : Option ℕ) → o ≡ Some n → o ≡ None → ⊥
found_and_not n o e h = let k : Some n ≡ None = sym e ∙ h in cc

among_push : (ys : List Name) (y x : Name) → number_among ys x ≡ None → bytes_eq y x ≡ false → number_among (ys ++ (y ∷ [])) x ≡ None
among_push [] y x h e = later_number y x [] None e refl
among_push (z ∷ ys) y x h e = by (bytes_eq z x) refl (λ k. among_push ys y x k e)
  where
    none : (o : Option ℕ) → option_map suc o ≡ None → o ≡ None
    none None k = refl
    none (Some n) k = cc

    by : (b : Bool) → bytes_eq z x ≡ b → (number_among ys x ≡ None → number_among (ys ++ (y ∷ [])) x ≡ None) → number_among (z ∷ (ys ++ (y ∷ []))) x ≡ None
    by true k more = absurd (found_and_not 0 (number_among (z ∷ ys) x) (first_number z x ys k) h)
    by false k more = later_number z x (ys ++ (y ∷ [])) None k (more (none (number_among ys x) (sym (later_number z x ys (number_among ys x) k refl) ∙ h)))

function_not_declared : (i n : ℕ) → i < n → n < 500 → number_among (declared i) (function_name n) ≡ None
function_not_declared zero n below small = ap (λ o. option_map suc (option_map suc o)) (later_number (function_name 0) (function_name n) [] None (names_differ 0 n (omega arith) small (λ q. omega (arith, q, below))) refl)
function_not_declared (suc i) n below small =
    among_push (declared i) (function_name (suc i)) (function_name n) (function_not_declared i n (omega (arith, below)) small) (names_differ (suc i) n (omega (arith, below, small)) small (λ q. omega (arith, q, below)))

pub not_declared : (i n : ℕ) → i < n → n < 500 → is_among (declared i) (function_name n) ≡ false
not_declared i n below small = ap is_some (function_not_declared i n below small)

main_none : (i : ℕ) → number_among (declared i) (codes "main") ≡ None
main_none zero = refl
main_none (suc i) = among_push (declared i) (function_name (suc i)) (codes "main") (main_none i) refl

pub main_not_declared : (i : ℕ) → is_among (declared i) (codes "main") ≡ false
main_not_declared i = ap is_some (main_none i)

pub length_declared : (i : ℕ) → length (declared i) ≡ i + 3
length_declared zero = refl
length_declared (suc i) = let k = length_declared i in let l = length-append (declared i) (function_name (suc i) ∷ []) in omega (arith, k, l)

-- ## Which functions may be called

-- where these functions are defined and these names known, the name means the function int NAME(void) with this number
pub record IsCalled (fs : List Name) (bs : List Binding) (x : Name) (f : ℕ) : Type 0 where
  pub defined : Bool
  pub found : lookup bs x ≡ Some (function_bound x defined)
  pub numbered : number_by fs x ≡ Some f

-- also where names that differ from it are newer
pub called_behind : (fs : List Name) (b : Binding) (bs : List Binding) (x : Name) (f : ℕ) → bytes_eq b.name x ≡ false → IsCalled fs bs x f → IsCalled fs (b ∷ bs) x f
called_behind fs b bs x f e h = record { defined = h.defined; found = later_found b x bs e ∙ h.found; numbered = h.numbered }

pub function_called : (last i j : ℕ) → j ≤ i → i ≤ last → last < 500 → IsCalled (all_names last) (bindings i) (function_name j) j
function_called last i j below within small = record {
  defined = true;
  found = function_found i j below (omega (arith, within, small));
  numbered = ap (λ o. number_or o (given_number (scope (all_names last) [] 0 []) (number_among (given_names Plain) (function_name j)))) (function_numbered last j (omega (arith, below, within)) small);
}

getpid_numbered : (last : ℕ) → number_by (all_names last) (codes "getpid") ≡ Some (getpid_number last)
unfolding table
getpid_numbered last =
    ap (λ o. number_or (option_map suc o) (given_number (scope (all_names last) [] 0 []) (number_among (given_names Plain) (codes "getpid")))) (no_getpid 0 last) ∙ ap (λ k. Some (k + 14)) (length_all last)

getppid_numbered : (last : ℕ) → number_by (all_names last) (codes "getppid") ≡ Some (getppid_number last)
unfolding table
getppid_numbered last =
    ap (λ o. number_or (option_map suc o) (given_number (scope (all_names last) [] 0 []) (number_among (given_names Plain) (codes "getppid")))) (no_getppid 0 last) ∙ ap (λ k. Some (k + 15)) (length_all last)

pub getpid_called : (last i : ℕ) → IsCalled (all_names last) (bindings i) (codes "getpid") (getpid_number last)
getpid_called last i = record { defined = false; found = getpid_found i; numbered = getpid_numbered last }

getppid_called : (last i : ℕ) → IsCalled (all_names last) (bindings i) (codes "getppid") (getppid_number last)
getppid_called last i = record { defined = false; found = getppid_found i; numbered = getppid_numbered last }

pub system_called : (last i x : ℕ) → IsCalled (all_names last) (bindings i) (system_call_by x) (system_number_by last x)
system_called last i x = by (nat_eq (x / 16 % 2) 0)
  where
    by : (b : Bool) → IsCalled (all_names last) (bindings i) (if b then codes "getpid" else codes "getppid") (if b then getpid_number last else getppid_number last)
    by true = getpid_called last i
    by false = getppid_called last i
