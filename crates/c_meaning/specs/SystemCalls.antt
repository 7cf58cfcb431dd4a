-- What a system call does: its buffers and strings are tested, it takes the next recorded result, its event is made, and read
-- stores its data.
use Rattle.std.specs.Prelude.{ℕ, zero, suc, ◌+◌, ◌-◌, ◌*◌, ◌^◌, nat_lt, nat_le, nat_eq, if◌then◌else◌, Bool, true, false, ◌&&◌, ℤ, pos, negsuc, nat_abs, List, [], ◌∷◌, length, take, drop, Option, Some, None}
use Rattle.std.specs.Ordering.{int_eq}
use Rattle.dm_base.specs.declared.event.Arg.{Arg}
use Rattle.dm_base.specs.declared.event.Arg.TheVariants as args
use Rattle.dm_base.specs.declared.event.Event.TheVariants.{Sys}
use Rattle.dm_base.specs.declared.outcome.Outcome.TheVariants.{Exit as ended_by, Undefined, Results, BadResult}
use Rattle.sys_table.specs.declared.kinds.ResultKind.{ResultKind}
use Rattle.sys_table.specs.declared.kinds.ResultKind.TheVariants as kinds
use Rattle.sys_table.specs.declared.sys_result.SysResult.{SysResult}
use Rattle.sys_table.specs.Table.{result_of}
use Rattle.c_tree.specs.declared.value.Pointer.{Pointer}
use Rattle.c_tree.specs.declared.value.Value.{Value}
use Rattle.c_tree.specs.declared.value.Value.TheVariants.{Indeterminate, Int, Uint, Char, Null, At}
use Rattle.c_tree.specs.Operators.{fits_int}
use Rattle.c_values.specs.Answers.{Answer, gives, undefined, and_then, U4, U5, U12, U13}
use Rattle.c_values.specs.Memory.{Objects, Object, object, writable, store}
use Rattle.c_meaning.specs.Pointers.{pointer, number}
use Rattle.c_meaning.specs.Results.{State, Result, Stop, after, then_do, answered, remembered}

-- the byte that a char stands for, and back (6.2.5 paragraph 15: char is signed here)
abbrev pub byte_of : ℤ → ℕ
byte_of (pos n) = n
byte_of (negsuc n) = 255 - n

abbrev pub char_of : ℕ → ℤ
char_of b = if nat_lt b 128 then pos b else negsuc (255 - b)

-- the bytes in char cells, each of which has to be set
abbrev pub bytes_in : List Value → Answer (List ℕ)
bytes_in [] = gives []
bytes_in (Char c ∷ vs) = and_then (bytes_in vs) (λ bytes. gives (byte_of c ∷ bytes))
bytes_in (Indeterminate ∷ vs) = undefined U4
bytes_in (v ∷ vs) = undefined U13

-- the cells of so many elements of an array of chars, from the one that is pointed to
abbrev pub cells_from : Pointer → ℕ → Object → List Value
cells_from q n o = take n (drop (q.first + q.index * q.width) o.cells)

abbrev pub is_zero : Value → Bool
is_zero (Char (pos zero)) = true
is_zero v = false

abbrev pub put_first : Value → Option (List Value) → Option (List Value)
put_first v None = None
put_first v (Some vs) = Some (v ∷ vs)

-- the cells before the first zero, where there is one
abbrev pub before_zero : List Value → Option (List Value)
before_zero [] = None
before_zero (v ∷ vs) = if is_zero v then Some [] else put_first v (before_zero vs)

abbrev pub bytes_where : Option (List Value) → Answer (List ℕ)
bytes_where None = undefined U12
bytes_where (Some vs) = bytes_in vs

-- the bytes of a string argument before its zero, which has to stand in its array
abbrev pub string : Objects → Pointer → Answer (List ℕ)
string m q = and_then (object m q.name) (λ o. bytes_where (before_zero (cells_from q (q.elements - q.index) o)))

-- the array has so many elements from the one that is pointed to
abbrev pub has_room : {A : Type 0} → Pointer → ℕ → Answer A → Answer A
has_room q n rest = if nat_le (q.index + n) q.elements then rest else undefined U12

-- the bytes of a buffer that write is given; a buffer of no bytes isn't looked at
abbrev pub bytes_of_buffer : Objects → Value → ℕ → Answer (List ℕ)
bytes_of_buffer m v zero = gives []
bytes_of_buffer m v (suc n) =
    and_then (pointer v) (λ q. and_then (object m q.name) (λ o. has_room q (suc n) (bytes_in (cells_from q (suc n) o))))

-- the buffer that read is given; one for no bytes isn't looked at
abbrev pub room_for : Objects → Value → ℕ → Answer (Option Pointer)
room_for m v zero = gives None
room_for m v (suc n) =
    and_then (pointer v) (λ q. and_then (object m q.name) (λ o. and_then (writable o) (λ cells. has_room q (suc n) (gives (Some q)))))

-- a size in bytes
abbrev pub size : Value → Answer ℕ
size (Uint n) = gives n
size v = undefined U13

-- what a system call asks for: the arguments that are recorded, how many bytes, and where read's data goes
pub record Request : Type 0 where
  pub arguments : List Arg
  pub asked : ℕ
  pub buffer : Option Pointer

abbrev pub request_of : List Arg → Request
request_of arguments = record { arguments = arguments; asked = 0; buffer = None }

-- a recorded argument: a number, or the bytes of a string
abbrev pub argument : Objects → Value → Answer Arg
argument m (Int n) = gives (args.Int n)
argument m (Uint n) = gives (args.Int (pos n))
argument m (At q) = and_then (string m q) (λ bytes. gives (args.Bytes bytes))
argument m Null = undefined U5
argument m v = undefined U13

abbrev pub arguments : Objects → List Value → Answer (List Arg)
arguments m [] = gives []
arguments m (v ∷ vs) = and_then (argument m v) (λ a. and_then (arguments m vs) (λ rest. gives (a ∷ rest)))

-- read(fd, buffer, size)
abbrev pub read_request : Objects → Value → Value → Value → Answer Request
read_request m fd buffer n =
    and_then (number fd) (λ fd. and_then (size n) (λ n. and_then (room_for m buffer n) (λ room.
    gives (record { arguments = args.Int fd ∷ args.Int (pos n) ∷ []; asked = n; buffer = room }))))

-- write(fd, buffer, size)
abbrev pub write_request : Objects → Value → Value → Value → Answer Request
write_request m fd buffer n =
    and_then (number fd) (λ fd. and_then (size n) (λ n. and_then (bytes_of_buffer m buffer n) (λ bytes.
    gives (record { arguments = args.Int fd ∷ args.Bytes bytes ∷ []; asked = n; buffer = None }))))

-- what the system call with this number asks for, with these arguments
abbrev pub request : ℕ → Objects → List Value → Answer Request
request zero m (fd ∷ buffer ∷ n ∷ []) = read_request m fd buffer n
request zero m vs = undefined U13
request (suc zero) m (fd ∷ buffer ∷ n ∷ []) = write_request m fd buffer n
request (suc zero) m vs = undefined U13
request (suc (suc x)) m vs = and_then (arguments m vs) (λ recorded. gives (request_of recorded))

-- whether a whole number fits an unsigned int
abbrev pub fits_unsigned : ℤ → Bool
fits_unsigned (pos n) = nat_lt n (2 ^ 32)
fits_unsigned (negsuc n) = false

abbrev pub fits_result : ResultKind → ℤ → Bool
fits_result kinds.Int z = fits_int z
fits_result kinds.UnsignedInt z = fits_unsigned z
fits_result kinds.Void z = int_eq z (pos 0)

abbrev pub is_empty : List ℕ → Bool
is_empty [] = true
is_empty (b ∷ bytes) = false

-- whether a recorded result answers read of so many bytes: −1 without data, or the length of its data
abbrev pub answers_read : ℕ → List ℕ → ℤ → Bool
answers_read asked bytes (negsuc zero) = is_empty bytes
answers_read asked bytes (negsuc (suc n)) = false
answers_read asked bytes (pos n) = nat_eq n (length bytes) && (nat_le n asked && fits_int (pos n))

-- whether it answers write of so many bytes: −1 to as many, without data
abbrev pub answers_write : ℕ → List ℕ → ℤ → Bool
answers_write asked bytes (negsuc zero) = is_empty bytes
answers_write asked bytes (negsuc (suc n)) = false
answers_write asked bytes (pos n) = is_empty bytes && (nat_le n asked && fits_int (pos n))

-- whether the recorded result answers the system call with this number
abbrev pub does_answer : ℕ → ℕ → SysResult → Bool
does_answer zero asked r = answers_read asked r.bytes r.value
does_answer (suc zero) asked r = answers_write asked r.bytes r.value
does_answer (suc (suc x)) asked r = is_empty r.bytes && fits_result (result_of (suc (suc x))) r.value

-- what a system call gives
abbrev pub result_value : ResultKind → ℤ → Value
result_value kinds.Int z = Int z
result_value kinds.UnsignedInt z = Uint (nat_abs z)
result_value kinds.Void z = Indeterminate

-- the next element
abbrev pub next : Pointer → Pointer
next q = record { name = q.name; first = q.first; width = q.width; elements = q.elements; index = suc q.index }

-- the data stand in the buffer from now on
abbrev pub filled : Pointer → List ℕ → Objects → Answer Objects
filled q [] m = gives m
filled q (b ∷ bytes) m = and_then (store m q 0 (Char (char_of b))) (λ m. filled (next q) bytes m)

abbrev pub filled_where : Option Pointer → List ℕ → Objects → Answer Objects
filled_where None bytes m = gives m
filled_where (Some q) bytes m = filled q bytes m

-- one record less
abbrev pub with_records : State → List SysResult → State
with_records st rs = record { memory = st.memory; entries = st.entries; records = rs; taken = suc st.taken; turns = st.turns }

-- takes the next recorded result, which has to answer
abbrev pub take_record : ℕ → Request → List SysResult → State → Result Value
take_record x q [] st = Stop Results []
take_record x q (r ∷ rs) st =
    if does_answer x q.asked r
    then after (Sys x q.arguments r.value ∷ []) (remembered (filled_where q.buffer r.bytes st.memory) (result_value (result_of x) r.value) (with_records st rs))
    else Stop (BadResult (suc st.taken)) []

-- the number of _exit
abbrev pub exit_call : ℕ
exit_call = 23

-- _exit ends the run with its argument
abbrev pub exit_with : List Arg → Result Value
exit_with (args.Int status ∷ []) = Stop (ended_by status) (Sys exit_call (args.Int status ∷ []) (pos 0) ∷ [])
exit_with others = Stop (Undefined U13) []

-- the system call with this number and these arguments
abbrev pub system_call : ℕ → List Value → State → Result Value
system_call x vs st =
    then_do (answered (request x st.memory vs) st) (λ q st. if nat_eq x exit_call then exit_with q.arguments else take_record x q st.records st)
