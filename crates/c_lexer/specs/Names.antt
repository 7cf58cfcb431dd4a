-- The names of the numbers: what each constant of the modules `keyword` and `punctuator` is named after.
use Rattle.std.specs.Prelude.{◌≡◌, ℕ, List, [], ◌∷◌, Some, All, codes, slice_get}
use Rattle.c_lexer.specs.declared.keyword.TheConstants as w
use Rattle.c_lexer.specs.declared.punctuator.TheConstants as p

-- a number that has a name, and the text that it is to have
pub record Named : Type 0 where
  pub number : ℕ
  pub text : List ℕ

-- each number is that of its text among the words
abbrev pub AreNumbersIn : List (List ℕ) → List Named → Type 0
AreNumbersIn words = All (λ x. slice_get words x.number ≡ Some x.text)

abbrev named : ℕ → List ℕ → Named
named number text = record { number = number; text = text }

-- the keywords (C99 6.4.1)
unfoldable pub named_keywords : List Named
named_keywords =
    named w.BREAK (codes "break")
    ∷ named w.CASE (codes "case")
    ∷ named w.CHAR (codes "char")
    ∷ named w.CONST (codes "const")
    ∷ named w.CONTINUE (codes "continue")
    ∷ named w.DEFAULT (codes "default")
    ∷ named w.DO (codes "do")
    ∷ named w.ELSE (codes "else")
    ∷ named w.ENUM (codes "enum")
    ∷ named w.EXTERN (codes "extern")
    ∷ named w.FOR (codes "for")
    ∷ named w.IF (codes "if")
    ∷ named w.INT (codes "int")
    ∷ named w.RETURN (codes "return")
    ∷ named w.SIGNED (codes "signed")
    ∷ named w.SIZEOF (codes "sizeof")
    ∷ named w.STATIC (codes "static")
    ∷ named w.STRUCT (codes "struct")
    ∷ named w.SWITCH (codes "switch")
    ∷ named w.UNSIGNED (codes "unsigned")
    ∷ named w.VOID (codes "void")
    ∷ named w.WHILE (codes "while")
    ∷ []

-- the punctuators (C99 6.4.6)
unfoldable pub named_punctuators : List Named
named_punctuators =
    named p.LEFT_BRACKET (codes "[")
    ∷ named p.RIGHT_BRACKET (codes "]")
    ∷ named p.LEFT_PARENTHESIS (codes "(")
    ∷ named p.RIGHT_PARENTHESIS (codes ")")
    ∷ named p.LEFT_BRACE (codes "{")
    ∷ named p.RIGHT_BRACE (codes "}")
    ∷ named p.DOT (codes ".")
    ∷ named p.ARROW (codes "->")
    ∷ named p.INCREMENT (codes "++")
    ∷ named p.DECREMENT (codes "--")
    ∷ named p.AMPERSAND (codes "&")
    ∷ named p.ASTERISK (codes "*")
    ∷ named p.PLUS (codes "+")
    ∷ named p.MINUS (codes "-")
    ∷ named p.TILDE (codes "~")
    ∷ named p.EXCLAMATION (codes "!")
    ∷ named p.SLASH (codes "/")
    ∷ named p.PERCENT (codes "%")
    ∷ named p.LEFT_SHIFT (codes "<<")
    ∷ named p.RIGHT_SHIFT (codes ">>")
    ∷ named p.LESS (codes "<")
    ∷ named p.GREATER (codes ">")
    ∷ named p.LESS_EQUAL (codes "<=")
    ∷ named p.GREATER_EQUAL (codes ">=")
    ∷ named p.EQUAL_EQUAL (codes "==")
    ∷ named p.NOT_EQUAL (codes "!=")
    ∷ named p.CARET (codes "^")
    ∷ named p.BAR (codes "|")
    ∷ named p.AND (codes "&&")
    ∷ named p.OR (codes "||")
    ∷ named p.QUESTION (codes "?")
    ∷ named p.COLON (codes ":")
    ∷ named p.SEMICOLON (codes ";")
    ∷ named p.ASSIGN (codes "=")
    ∷ named p.ASSIGN_MULTIPLY (codes "*=")
    ∷ named p.ASSIGN_DIVIDE (codes "/=")
    ∷ named p.ASSIGN_REMAINDER (codes "%=")
    ∷ named p.ASSIGN_ADD (codes "+=")
    ∷ named p.ASSIGN_SUBTRACT (codes "-=")
    ∷ named p.ASSIGN_LEFT_SHIFT (codes "<<=")
    ∷ named p.ASSIGN_RIGHT_SHIFT (codes ">>=")
    ∷ named p.ASSIGN_AND (codes "&=")
    ∷ named p.ASSIGN_XOR (codes "^=")
    ∷ named p.ASSIGN_OR (codes "|=")
    ∷ named p.COMMA (codes ",")
    ∷ []
