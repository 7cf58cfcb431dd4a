-- The codes of the demands.
use Rattle.std.specs.Prelude.{ℕ}

-- each name, tag behind a member access, and member is declared before its use (6.5.1 paragraph 2, 6.5.2.3 paragraph 1); at
-- the expression or declaration that uses it
abbrev pub C1 : ℕ
C1 = 1

-- a name is declared once in a scope (6.7 paragraph 3); at the later name
abbrev pub C2 : ℕ
C2 = 2

-- the types fit (6.5, 6.7, 6.8); at the expression, declarator, initialiser or statement
abbrev pub C3 : ℕ
C3 = 3

-- the operand of an assignment, of &, ++ or -- is a place (6.5.2.4, 6.5.3.1, 6.5.3.2, 6.5.16); at the operand
abbrev pub C4 : ℕ
C4 = 4

-- a call has as many arguments as the function has parameters (6.5.2.2 paragraph 2); at the call
abbrev pub C5 : ℕ
C5 = 5

-- a case value, an array size, the value of an enumerator and a static initialiser are constant and defined (6.6), at that
-- expression, or at the enumerator where it has none; no call stands in the operand of sizeof, at the call
abbrev pub C6 : ℕ
C6 = 6

-- the case values of a switch are distinct, and it has at most one default (6.8.4.2 paragraph 3); at the switch
abbrev pub C7 : ℕ
C7 = 7

-- break stands in a loop or switch, continue in a loop (6.8.6.2, 6.8.6.3); at the statement
abbrev pub C8 : ℕ
C8 = 8

-- int main(void) is defined (5.1.2.2.1); at 0
abbrev pub C9 : ℕ
C9 = 9

-- a function or an extern object that is used is defined, or is a system call (6.9 paragraph 5); at the use
abbrev pub C10 : ℕ
C10 = 10

-- a declared name of a system call, or of a null call, has its type and no definition; at the declared name
abbrev pub C11 : ℕ
C11 = 11

-- no declared name is reserved (7.1.3), and a null call is called directly alone; at the declared name, at the use
abbrev pub C12 : ℕ
C12 = 12

-- the limits hold (5.2.4.1); at the call, string or name at which a count passes its limit, at the name of what is too large, at
-- the expression or declarator whose type has too many parts or parameters
abbrev pub C13 : ℕ
C13 = 13

-- an initialiser has the form and at most the count that its type allows (6.7.8), and an array without a size has one; at the
-- initialiser, at the declared name
abbrev pub C14 : ℕ
C14 = 14
