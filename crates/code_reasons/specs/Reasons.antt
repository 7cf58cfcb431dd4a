-- The codes with which texts are refused and those of undefined behaviour, each with its reason, and what `codes` writes of them.
use Rattle.std.specs.Prelude.{ℕ, List, [], ◌∷◌, ◌++◌, if◌then◌else◌, codes, flat_map}
use Rattle.std.specs.Str.{bytes_eq}

-- a code and its reason
pub record CodeReason : Type 0 where
  pub code : List ℕ
  pub reason : List ℕ

-- the code with this reason
abbrev pub reads : List ℕ → List ℕ → CodeReason
reads code reason = record { code = code; reason = reason }

-- Codes of tokens (L), of syntax (P) and of rules (C) of a C text, of texts that would be too large (G, N), of models (M), traces (X), recorded
-- results (F), schedules (S), certificates (Q) and inlined models (I), and of undefined behaviour (U, C99 3.4.3).
unfoldable pub reasons : List CodeReason
reasons =
    reads (codes "L1") (codes "no token begins with this byte")
    ∷ reads (codes "L2") (codes "this comment has no end")
    ∷ reads (codes "L3") (codes "this constant, string or name has no form of the language")
    ∷ reads (codes "L4") (codes "this constant is too great for its type")
    ∷ reads (codes "L5") (codes "only line markers may begin with #: preprocess the text first")
    ∷ reads (codes "L6") (codes "this keyword of C99 is outside the language of dyckmon")
    ∷ reads (codes "L7") (codes "the text is longer than its limit")
    ∷ reads (codes "P1") (codes "no program goes on like this")
    ∷ reads (codes "P2") (codes "this is nested too deep")
    ∷ reads (codes "C1") (codes "this is used before it is declared")
    ∷ reads (codes "C2") (codes "this name is declared already")
    ∷ reads (codes "C3") (codes "the types do not fit here")
    ∷ reads (codes "C4") (codes "only an object can stand here")
    ∷ reads (codes "C5") (codes "this call has too few or too many arguments")
    ∷ reads (codes "C6") (codes "this must be a constant with a defined value")
    ∷ reads (codes "C7") (codes "this switch has two equal case values or two defaults")
    ∷ reads (codes "C8") (codes "no loop or switch is round this break, or no loop round this continue")
    ∷ reads (codes "C9") (codes "no int main(void) is defined")
    ∷ reads (codes "C10") (codes "this function or object is defined nowhere")
    ∷ reads (codes "C11") (codes "this name is that of a system call or a null call, whose declaration is fixed")
    ∷ reads (codes "C12") (codes "names that begin with two underscores are reserved")
    ∷ reads (codes "C13") (codes "a limit of size or number is passed here")
    ∷ reads (codes "C14") (codes "this initialiser does not fit, or is missing")
    ∷ reads (codes "G1") (codes "the model has more than 200000 nodes")
    ∷ reads (codes "G2") (codes "the text of the model is longer than 16 MiB")
    ∷ reads (codes "N1") (codes "the instrumented text is longer than 16 MiB")
    ∷ reads (codes "M1") (codes "this line has no form of a model file")
    ∷ reads (codes "M2") (codes "the model breaks this rule")
    ∷ reads (codes "M3") (codes "the model file is not finished")
    ∷ reads (codes "M4") (codes "the model file is longer than 16 MiB")
    ∷ reads (codes "M5") (codes "the model file is of another version")
    ∷ reads (codes "X1") (codes "this line has no form of a trace")
    ∷ reads (codes "X2") (codes "the trace is not finished")
    ∷ reads (codes "X3") (codes "the trace is longer than 64 MiB or has more than 1000000 events")
    ∷ reads (codes "X4") (codes "more than 4096 processes are known")
    ∷ reads (codes "X5") (codes "the trace is of another version")
    ∷ reads (codes "F1") (codes "this line has no form of a file of results")
    ∷ reads (codes "F2") (codes "the file of results is not finished")
    ∷ reads (codes "F3") (codes "the file of results is longer than 64 MiB or has more than 1000000 records")
    ∷ reads (codes "F4") (codes "the file of results is of another version")
    ∷ reads (codes "S1") (codes "this line has no form of a schedule")
    ∷ reads (codes "S2") (codes "the schedule is not finished")
    ∷ reads (codes "S3") (codes "the schedule is longer than 16 MiB or has too many lines")
    ∷ reads (codes "S4") (codes "the schedule is of another version")
    ∷ reads (codes "Q1") (codes "this line has no form of a certificate")
    ∷ reads (codes "Q2") (codes "the certificate is not finished")
    ∷ reads (codes "Q3") (codes "the certificate is longer than 64 MiB or has more than 1000000 facts")
    ∷ reads (codes "Q4") (codes "the certificate is of another version")
    ∷ reads (codes "Q5") (codes "the reason of this line does not hold")
    ∷ reads (codes "Q6") (codes "the facts do not show the claim")
    ∷ reads (codes "I1") (codes "the program is recursive, so it has no finite inlined model")
    ∷ reads (codes "I2") (codes "the inlined model has more than 200000 nodes")
    ∷ reads (codes "U1") (codes "a signed result is out of range")
    ∷ reads (codes "U2") (codes "a division by zero")
    ∷ reads (codes "U3") (codes "a shift by an amount or of a value that is out of range")
    ∷ reads (codes "U4") (codes "a value that was never stored is read")
    ∷ reads (codes "U5") (codes "a null pointer is used")
    ∷ reads (codes "U6") (codes "a pointer to an object that has ended is used")
    ∷ reads (codes "U7") (codes "a pointer leaves its array")
    ∷ reads (codes "U8") (codes "a pointer past the end of its array is followed")
    ∷ reads (codes "U9") (codes "pointers into two arrays are ordered or subtracted")
    ∷ reads (codes "U10") (codes "a string constant is written to")
    ∷ reads (codes "U11") (codes "a function ends without the value that its caller uses")
    ∷ reads (codes "U12") (codes "a string has no end in its array, or a buffer is shorter than the size asked")
    ∷ []

-- the code, a space, its reason and a line feed
abbrev pub reason_line : List ℕ → List ℕ → List ℕ
reason_line code reason = code ++ 32 ∷ reason ++ 10 ∷ []

-- the line of each code, in order
abbrev pub codes_text : List ℕ
codes_text = flat_map (λ r. reason_line r.code r.reason) reasons

-- the reason of the first of these codes that is this one; none where none is
abbrev pub reason_among : List CodeReason → List ℕ → List ℕ
reason_among [] code = []
reason_among (r ∷ rs) code = if bytes_eq r.code code then r.reason else reason_among rs code

-- the reason of the code; none where it is none of these codes
abbrev pub reason_of : List ℕ → List ℕ
reason_of code = reason_among reasons code
