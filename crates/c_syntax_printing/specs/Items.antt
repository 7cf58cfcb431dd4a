-- Structs, enums, declarations and functions at file scope as relations between lists of tokens, within a bound.
use Rattle.std.specs.Prelude.{List, ◌∷◌, ◌≡◌, ℕ, []}
use Rattle.c_lexer.specs.declared.token.Token.{Token}
use Rattle.c_lexer.specs.declared.punctuator.TheConstants.{LEFT_BRACE, RIGHT_BRACE, SEMICOLON, COMMA, ASSIGN}
use Rattle.c_syntax.specs.Tree.{Storage, Declarators, Members, Enumerators, Item}
use Rattle.c_syntax.specs.Tokens.{Is}
use Rattle.c_syntax.specs.Specifiers.{ReadsStorage}
use Rattle.c_syntax.specs.Grammar.{conditional_level}
use Rattle.c_syntax.specs.Statements.{ReadsDeclarators, ReadsMembers, ReadsEnumerators, ReadsItem}
use Rattle.c_syntax.specs.Limits.{height_of_declarators, height_of_members, height_of_enumerators, height_of_item}
use Rattle.c_syntax_printing.specs.Starts.{EndsStorage}
use Rattle.c_syntax_printing.specs.Fails.{Then, Or, NotAt}
use Rattle.c_syntax_printing.specs.Phrases.{Bound, Fits, inner, ASpec, ADeclarator, AnExpr, InBlock, Punctuator}
use Rattle.c_syntax_printing.specs.Declarations.{PartsTail}
use Rattle.c_syntax_printing.specs.Units.{AUnit}

-- declarators and the semicolon after them
pub data DeclaratorsClosed (b : Bound) : List Token → List Token → Type 0 where
  declarators_closed : {d : ℕ} {es : Declarators} {u : Token} {i j : List Token} → ReadsDeclarators d es i (u ∷ j) → Is SEMICOLON u → Fits b d (height_of_declarators es) → DeclaratorsClosed b i j

-- what stands after one of them
abbrev pub DeclaratorsEnd : Bound → List Token → List Token → Type 0
DeclaratorsEnd b = Or (Punctuator SEMICOLON) (Then (Punctuator COMMA) (DeclaratorsClosed b))

-- specifiers, and declarators with a semicolon
abbrev pub AMember : Bound → List Token → List Token → Type 0
AMember b = Then ASpec (DeclaratorsClosed b)

-- the members of a struct, and the brace and the semicolon after them
pub data InStruct (b : Bound) : List Token → List Token → Type 0 where
  in_struct : {d : ℕ} {ms : Members} {r u : Token} {i j : List Token} → ReadsMembers d ms i (r ∷ u ∷ j) → Is RIGHT_BRACE r → Is SEMICOLON u → Fits b d (height_of_members ms) → InStruct b i j

-- the brace and the semicolon that end a struct or an enum
abbrev pub Closing : List Token → List Token → Type 0
Closing = Then (Punctuator RIGHT_BRACE) (Punctuator SEMICOLON)

-- what stands after a member
abbrev pub MembersRest : Bound → List Token → List Token → Type 0
MembersRest b = Or Closing (InStruct b)

-- the enumerators of an enum, perhaps a comma, and the brace and the semicolon after them
pub data InEnum (b : Bound) : List Token → List Token → Type 0 where
  in_enum : {d : ℕ} {es : Enumerators} {r u : Token} {i j : List Token} → ReadsEnumerators d es i (r ∷ u ∷ j) → Is RIGHT_BRACE r → Is SEMICOLON u → Fits b d (height_of_enumerators es) → InEnum b i j
  in_enum_comma : {d : ℕ} {es : Enumerators} {c r u : Token} {i j : List Token} → ReadsEnumerators d es i (c ∷ r ∷ u ∷ j) → Is COMMA c → Is RIGHT_BRACE r → Is SEMICOLON u → Fits b d (height_of_enumerators es) → InEnum b i j

-- what stands after an enumerator
abbrev pub EnumEnd : Bound → List Token → List Token → Type 0
EnumEnd b = Or Closing (Then (Punctuator COMMA) (Or Closing (InEnum b)))

-- what stands after the name of an enumerator
abbrev pub ValueRest : Bound → List Token → List Token → Type 0
ValueRest b = Or (Then (Punctuator ASSIGN) (Then (AnExpr b conditional_level) (EnumEnd b))) (EnumEnd b)

-- a storage class, if one stands
pub record AStorage (i j : List Token) : Type 0 where
  pub storage : Storage
  pub reads : ReadsStorage storage i j
  pub ends : EndsStorage j

-- the body of a function
abbrev pub ABody : Bound → List Token → List Token → Type 0
ABody b = Then (Punctuator LEFT_BRACE) (InBlock (inner b))

-- what stands after the first declarator at file scope
abbrev pub OtherRest : Bound → List Token → List Token → Type 0
OtherRest b = Or (ABody b) (PartsTail b)

-- a declaration or a function
abbrev pub AnOther : Bound → List Token → List Token → Type 0
AnOther b = Then AStorage (Then ASpec (Then (ADeclarator b) (OtherRest b)))

pub record AnItem (b : Bound) (i j : List Token) : Type 0 where
  pub depth : ℕ
  pub tree : Item
  pub reads : ReadsItem depth tree i j
  pub fits : Fits b depth (height_of_item tree)

-- nothing, where no token is left
pub data AtEnd : List Token → List Token → Type 0 where
  none_left : AtEnd [] []

-- what stands after an item
abbrev pub UnitRest : Bound → List Token → List Token → Type 0
UnitRest b = Or AtEnd (AUnit b)

-- after `struct` and one token neither a brace nor a semicolon stands
abbrev pub NoStruct : List Token → Type 0
NoStruct k = (n : Token) (m : List Token) → k ≡ n ∷ m → NotAt (Is LEFT_BRACE) m × NotAt (Is SEMICOLON) m

-- after `enum` no brace stands, nor after one token more
pub record NoEnum (k : List Token) : Type 0 where
  pub no_brace : NotAt (Is LEFT_BRACE) k
  pub no_later : (n : Token) (m : List Token) → k ≡ n ∷ m → NotAt (Is LEFT_BRACE) m
