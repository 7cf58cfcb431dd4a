-- The system calls of the C profile. A call's number is its place in the table, counted from 0.
use Rattle.std.specs.Prelude.{◌≡◌, ℕ, ℤ, pos, List, [], ◌∷◌, ◌++◌, Option, None, Some, codes, slice_index_or, FitsSigned}
use Rattle.std.specs.Int.{FitsUnsigned, w32}
use Rattle.std.specs.List.{AllZip}
use Rattle.line_text.specs.Arg.{Arg}
use Rattle.line_text.specs.Arg.TheVariants as args
use Rattle.line_text.specs.Event.{Event}
use Rattle.line_text.specs.Event.TheVariants.{Sys, Pre, Post}
use Rattle.sys_table.specs.declared.kinds.ArgKind.{ArgKind}
use Rattle.sys_table.specs.declared.kinds.ArgKind.TheVariants.{Signed, Unsigned, Bytes}
use Rattle.sys_table.specs.declared.kinds.ResultKind.{ResultKind}
use Rattle.sys_table.specs.declared.kinds.ResultKind.TheVariants.{Int, UnsignedInt, Void}

-- a system call: its name, the kinds of its recorded arguments in order, and the kind of its result
pub record Row : Type 0 where
  pub name : List ℕ
  pub recorded : List ArgKind
  pub outcome : ResultKind

-- the row with these parts
abbrev pub row : List ℕ → List ArgKind → ResultKind → Row
row name recorded outcome = record { name = name; recorded = recorded; outcome = outcome }

-- the 24 system calls, each with its prototype; write records the bytes of its buffer, a path its bytes
-- before the zero, and the buffer of read is not recorded
unfoldable pub table : List Row
table =
    row (codes "read") (Signed ∷ Unsigned ∷ []) Int  -- int read(int, char *, unsigned int)
    ∷ row (codes "write") (Signed ∷ Bytes ∷ []) Int  -- int write(int, char *, unsigned int)
    ∷ row (codes "open") (Bytes ∷ Signed ∷ Unsigned ∷ []) Int  -- int open(char *, int, unsigned int)
    ∷ row (codes "close") (Signed ∷ []) Int  -- int close(int)
    ∷ row (codes "lseek") (Signed ∷ Signed ∷ Signed ∷ []) Int  -- int lseek(int, int, int)
    ∷ row (codes "dup") (Signed ∷ []) Int  -- int dup(int)
    ∷ row (codes "dup2") (Signed ∷ Signed ∷ []) Int  -- int dup2(int, int)
    ∷ row (codes "unlink") (Bytes ∷ []) Int  -- int unlink(char *)
    ∷ row (codes "rename") (Bytes ∷ Bytes ∷ []) Int  -- int rename(char *, char *)
    ∷ row (codes "mkdir") (Bytes ∷ Unsigned ∷ []) Int  -- int mkdir(char *, unsigned int)
    ∷ row (codes "rmdir") (Bytes ∷ []) Int  -- int rmdir(char *)
    ∷ row (codes "chdir") (Bytes ∷ []) Int  -- int chdir(char *)
    ∷ row (codes "chmod") (Bytes ∷ Unsigned ∷ []) Int  -- int chmod(char *, unsigned int)
    ∷ row (codes "kill") (Signed ∷ Signed ∷ []) Int  -- int kill(int, int)
    ∷ row (codes "getpid") [] Int  -- int getpid(void)
    ∷ row (codes "getppid") [] Int  -- int getppid(void)
    ∷ row (codes "getuid") [] UnsignedInt  -- unsigned int getuid(void)
    ∷ row (codes "geteuid") [] UnsignedInt  -- unsigned int geteuid(void)
    ∷ row (codes "getgid") [] UnsignedInt  -- unsigned int getgid(void)
    ∷ row (codes "setuid") (Unsigned ∷ []) Int  -- int setuid(unsigned int)
    ∷ row (codes "socket") (Signed ∷ Signed ∷ Signed ∷ []) Int  -- int socket(int, int, int)
    ∷ row (codes "listen") (Signed ∷ Signed ∷ []) Int  -- int listen(int, int)
    ∷ row (codes "fork") [] Int  -- int fork(void)
    ∷ row (codes "_exit") (Signed ∷ []) Void  -- void _exit(int)
    ∷ []

-- the row of the call with this number; from 24 up, a row without a name
abbrev pub row_of : ℕ → Row
row_of x = slice_index_or table x (row [] [] Void)

-- the name of the call with this number
abbrev pub name_of : ℕ → List ℕ
name_of x = (row_of x).name

-- the name of the call with this number, and the space after it
abbrev pub name_word : ℕ → List ℕ
name_word x = name_of x ++ 32 ∷ []

-- the kinds of its recorded arguments, in order
abbrev pub recorded_of : ℕ → List ArgKind
recorded_of x = (row_of x).recorded

-- the kind of its result
abbrev pub result_of : ℕ → ResultKind
result_of x = (row_of x).outcome

-- the number is in the kind's range: −2^31 to 2^31 − 1, or 0 to 2^32 − 1; no number is bytes
abbrev pub FitsNumber : ArgKind → ℤ → Type 0
FitsNumber Signed n = FitsSigned w32 n
FitsNumber Unsigned n = FitsUnsigned w32 n
FitsNumber Bytes n = ⊥

-- the argument is a number in the kind's range, or bytes where the kind is bytes
abbrev pub FitsArgument : ArgKind → Arg → Type 0
FitsArgument kind (args.Int n) = FitsNumber kind n
FitsArgument kind (args.Bytes bytes) = kind ≡ Bytes

-- the value is in the kind's range: −2^31 to 2^31 − 1, or 0 to 2^32 − 1, or 0 alone
abbrev pub FitsResult : ResultKind → ℤ → Type 0
FitsResult Int n = FitsSigned w32 n
FitsResult UnsignedInt n = FitsUnsigned w32 n
FitsResult Void n = n ≡ pos 0

-- a trace records the event: it is a null call; or it is a system call with as many arguments as the
-- table says, each of its kind and in its range, and with a result in the range of the result's kind
abbrev pub IsRecorded : Event → Type 0
IsRecorded (Sys name arguments outcome) =
    AllZip FitsArgument (recorded_of name) arguments × FitsResult (result_of name) outcome
IsRecorded (Pre site) = Unit {0}
IsRecorded (Post site) = Unit {0}

-- the entry of a pattern is None, or a number in the kind's range; so bytes have None
abbrev pub FitsEntry : ArgKind → Option ℤ → Type 0
FitsEntry kind None = Unit {0}
FitsEntry kind (Some n) = FitsNumber kind n

-- the pattern is right for the call with this number: it has as many entries as the call has recorded
-- arguments, and each entry fits its kind
abbrev pub IsRight : ℕ → List (Option ℤ) → Type 0
IsRight name pattern = AllZip FitsEntry (recorded_of name) pattern
