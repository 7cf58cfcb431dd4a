-- The functions of a program by their numbers: the defined ones in order, the system calls after them, and the two null calls after those.
use Rattle.std.specs.Prelude.{ℕ, ◌-◌, List, [], ◌∷◌, ◌++◌, map, length, nat_lt, if◌then◌else◌, Option, Some, None, slice_get}
use Rattle.sys_table.specs.Table.{name_of}
use Rattle.c_tree.specs.declared.value.IntType.TheVariants.{Char, Int, Uint}
use Rattle.c_tree.specs.Tree.{CType, void, integer, pointer, function, no_types, more_types, Function, Program}

abbrev pub int : CType
int = integer Int

abbrev pub unsigned_int : CType
unsigned_int = integer Uint

-- char *
abbrev pub char_pointer : CType
char_pointer = pointer (integer Char)

abbrev pub of_none : CType → CType
of_none r = function r no_types

abbrev pub of_one : CType → CType → CType
of_one r a = function r (more_types a no_types)

abbrev pub of_two : CType → CType → CType → CType
of_two r a b = function r (more_types a (more_types b no_types))

abbrev pub of_three : CType → CType → CType → CType → CType
of_three r a b c = function r (more_types a (more_types b (more_types c no_types)))

-- the types of the 24 system calls, each at the place of its number
unfoldable pub sys_types : List CType
sys_types =
    of_three int int char_pointer unsigned_int  -- int read(int, char *, unsigned int)
    ∷ of_three int int char_pointer unsigned_int  -- int write(int, char *, unsigned int)
    ∷ of_three int char_pointer int unsigned_int  -- int open(char *, int, unsigned int)
    ∷ of_one int int  -- int close(int)
    ∷ of_three int int int int  -- int lseek(int, int, int)
    ∷ of_one int int  -- int dup(int)
    ∷ of_two int int int  -- int dup2(int, int)
    ∷ of_one int char_pointer  -- int unlink(char *)
    ∷ of_two int char_pointer char_pointer  -- int rename(char *, char *)
    ∷ of_two int char_pointer unsigned_int  -- int mkdir(char *, unsigned int)
    ∷ of_one int char_pointer  -- int rmdir(char *)
    ∷ of_one int char_pointer  -- int chdir(char *)
    ∷ of_two int char_pointer unsigned_int  -- int chmod(char *, unsigned int)
    ∷ of_two int int int  -- int kill(int, int)
    ∷ of_none int  -- int getpid(void)
    ∷ of_none int  -- int getppid(void)
    ∷ of_none unsigned_int  -- unsigned int getuid(void)
    ∷ of_none unsigned_int  -- unsigned int geteuid(void)
    ∷ of_none unsigned_int  -- unsigned int getgid(void)
    ∷ of_one int unsigned_int  -- int setuid(unsigned int)
    ∷ of_three int int int int  -- int socket(int, int, int)
    ∷ of_two int int int  -- int listen(int, int)
    ∷ of_none int  -- int fork(void)
    ∷ of_one void int  -- void _exit(int)
    ∷ []

-- the two null calls, that before a call and that after it: void f(unsigned int)
abbrev pub null_types : List CType
null_types = of_one void unsigned_int ∷ of_one void unsigned_int ∷ []

-- how many functions are defined
abbrev pub defined : Program → ℕ
defined p = length p.functions

abbrev pub type_of_defined : Function → CType
type_of_defined f = f.ctype

-- the types of the functions whose names may stand as values: the defined ones and the system calls
abbrev pub value_types : Program → List CType
value_types p = map type_of_defined p.functions ++ sys_types

-- the types of the functions that may be called by their names
abbrev pub called_types : Program → List CType
called_types p = value_types p ++ null_types

-- the type of the function with this number, where its name may stand as a value
abbrev pub value_type : Program → ℕ → Option CType
value_type p f = slice_get (value_types p) f

-- the type of the function with this number, where it may be called by its name
abbrev pub called_type : Program → ℕ → Option CType
called_type p f = slice_get (called_types p) f

abbrev pub name_where : Option Function → List ℕ
name_where None = []
name_where (Some f) = f.name

-- the name of the function with this number: that of a defined one, or that of a system call
abbrev pub name_of_function : Program → ℕ → List ℕ
name_of_function p f =
    if nat_lt f (defined p)
    then name_where (slice_get p.functions f)
    else name_of (f - defined p)
