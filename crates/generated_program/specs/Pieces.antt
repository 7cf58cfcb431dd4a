-- For private contracts and proofs alone: the pieces in which the text is written.
use Rattle.std.specs.Prelude.{ℕ, ◌+◌, List, ◌++◌, codes, decimal}

-- the two prototypes and the first function
abbrev pub front_text : List ℕ
front_text =
    codes "int getpid ( void ) ;\nint getppid ( void ) ;\nint f0 ( void ) {\ngetpid ( ) ;\nreturn 0 ;\n}\n"

-- the function i, which calls the function `callee` and then makes a system call
abbrev pub function_text : (i callee : ℕ) → List ℕ → List ℕ
function_text i callee call =
    codes "int f" ++ (decimal i ++ (codes " ( void ) {\nf" ++ (decimal callee ++ (codes " ( ) ;\n" ++ (call ++ codes " ( ) ;\nreturn 0 ;\n}\n")))))

abbrev pub main_text : (last : ℕ) → List ℕ
main_text last =
    codes "int main ( void ) {\nint i ;\nfor ( i = 0 ;\ni < " ++ (decimal (last + 1) ++ (codes " ;\ni ++ ) {\nf" ++ (decimal last ++ codes " ( ) ;\n}\nreturn 0 ;\n}\n")))
