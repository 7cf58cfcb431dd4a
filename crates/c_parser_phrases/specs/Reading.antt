-- For private contracts and proofs alone: what the readers of expressions, type names and declarators answer.
use Rattle.std.specs.Prelude.{◌≡◌, ◌≤◌, ◌<◌, ◌⊎◌, ℕ, Bool, true, false, List, ◌∷◌, length, Result, Ok, Err}
use Rattle.c_lexer.specs.declared.token.Token.{Token}
use Rattle.c_lexer.specs.declared.punctuator.TheConstants.{LEFT_PARENTHESIS, RIGHT_BRACKET, COMMA}
use Rattle.c_syntax.specs.declared.tree.Param.{Param as ParamTree}
use Rattle.c_syntax.specs.Tree.{Spec, void, Expr, call, Declarator, nothing, Params, no_params, more_params}
use Rattle.c_syntax.specs.Tokens.{Is, place}
use Rattle.c_syntax.specs.Specifiers.{ReadsSpec, Consts}
use Rattle.c_syntax.specs.Grammar.{Level, primary_level, postfix_level, unary_level, cast_level, binary_level, conditional_level, assignment_level, expression_level, HasName, HasNoName, IsThere, AreSome, Reads, ReadsList, Suffixes, ReadsSize, ReadsType, Declares, ReadsCore, Lengthens, ReadsParams}
use Rattle.c_syntax.specs.View.{type_name_of, param_before}
use Rattle.c_syntax_printing.specs.Ranks.{Stops}
use Rattle.c_syntax_printing.specs.Starts.{start, EndsDeclarator, EndsSpec}
use Rattle.c_syntax_printing.specs.Fails.{Fails}
use Rattle.c_syntax_printing.specs.Phrases.{Bound, any, AnExpr, ASpec}
use Rattle.c_syntax_printing.specs.Specs.{SpecEnd}
use Rattle.c_syntax_printing.specs.Opens.{Opens, DeepExpr, DeepExprs, DeepType, DeepSuffixes, DeepDeclarator, DeepLengthens, DeepEach, DeepInit, DeepInits}
use Rattle.c_syntax_printing.specs.Operands.{AType, SomeSuffixes, SomeArguments, ExprsRest, Past}
use Rattle.c_syntax_printing.specs.Declarators.{ADeclared, SomeLengthens, NoCore, SizeClosed, AParam, ParamsClosed, EachClosed}
use Rattle.c_parser_phrases.specs.declared.error.PhraseError.{PhraseError}
use Rattle.c_parser_phrases.specs.declared.error.PhraseError.TheVariants.{Syntax, Nesting}
use Rattle.c_parser_phrases.specs.Refusing.{bound_of}
use Rattle.c_parser_phrases.specs.declared.room.Room.{Room}
use Rattle.c_parser_phrases.specs.declared.form.Form.{Form}
use Rattle.c_parser_phrases.specs.declared.form.Form.TheVariants.{Named, Abstract, Either}
use Rattle.c_parser_phrases.specs.declared.depth.MeasuredExpr.{MeasuredExpr}
use Rattle.c_parser_phrases.specs.declared.depth.MeasuredExprs.{MeasuredExprs}
use Rattle.c_parser_phrases.specs.declared.depth.MeasuredSize.{MeasuredSize}
use Rattle.c_parser_phrases.specs.declared.depth.MeasuredType.{MeasuredType}
use Rattle.c_parser_phrases.specs.declared.depth.MeasuredDeclarator.{MeasuredDeclarator}
use Rattle.c_parser_phrases.specs.declared.depth.MeasuredParam.{MeasuredParam}
use Rattle.c_parser_phrases.specs.declared.depth.MeasuredParams.{MeasuredParams}
use Rattle.c_parser_phrases.specs.Standing.{IsAt}
use Rattle.c_parser_phrases.specs.Making.{tree_of, trees_of, size_of, inner_of, list_of}

-- Within the limits it fails at some token, and past them, with a node or a pair too many at the place, something goes on through it.
pub record IsNested (Q : Bound → List Token → List Token → Type 0) (O : ℕ → ℕ → ℕ → List Token → List Token → Type 0) (room : Room) (at : ℕ) (i : List Token) : Type 0 where
  pub token : List Token
  pub fails : Q (bound_of room) i token
  pub opens : O at room.pairs room.nodes i token
  pub some : 0 < length token

-- Why a phrase is not read that is to stand at i: what Q says at the token j where the cursor stands, whatever its depth, or at some
-- token within the limits.
pub record Refused (Q : Bound → List Token → List Token → Type 0) (O : ℕ → ℕ → ℕ → List Token → List Token → Type 0) (room : Room) (e : PhraseError) (i j : List Token) : Type 0 where
  pub wrong : e ≡ Syntax → Q any i j
  pub deep : (at : ℕ) → e ≡ Nesting at → IsNested Q O room at i

-- what goes on past the limits

abbrev pub OpensExpr : Level → ℕ → ℕ → ℕ → List Token → List Token → Type 0
OpensExpr l at p n i r = Opens (DeepExpr at p n l) i r

abbrev pub OpensExprs : ℕ → ℕ → ℕ → List Token → List Token → Type 0
OpensExprs at p n i r = Opens (DeepExprs at p n) i r

-- a comma and more expressions
pub record OpensMore (at p n : ℕ) (i r : List Token) : Type 0 where
  pub token : Token
  pub after : List Token
  pub is : i ≡ token ∷ after
  pub comma : Is COMMA token
  pub opens : Opens (DeepExprs at p n) after r

-- suffixes of the operand, which begins at the place
abbrev pub OpensSuffix : ℕ → Expr → ℕ → ℕ → ℕ → List Token → List Token → Type 0
OpensSuffix begins a at p n i r = Opens (DeepSuffixes at p n begins a) i r

abbrev pub OpensType : ℕ → ℕ → ℕ → List Token → List Token → Type 0
OpensType at p n i r = Opens (DeepType at p n) i r

-- it fails
abbrev pub Lacks : (Bound → List Token → List Token → Type 0) → Bound → List Token → List Token → Type 0
Lacks A b i r = Fails (A b) i r

-- it fails behind its first token, if that is a parenthesis
pub record LacksPast (A : Bound → List Token → List Token → Type 0) (b : Bound) (i r : List Token) : Type 0 where
  pub fails : Fails (A b) i r
  pub past : Past i r

-- an expression of the level fails; below casts this tells where it does
abbrev pub LacksExpr : Level → Bound → List Token → List Token → Type 0
LacksExpr primary_level b i r = LacksPast (λ c. AnExpr c primary_level) b i r
LacksExpr postfix_level b i r = LacksPast (λ c. AnExpr c postfix_level) b i r
LacksExpr unary_level b i r = LacksPast (λ c. AnExpr c unary_level) b i r
LacksExpr cast_level b i r = Fails (AnExpr b cast_level) i r
LacksExpr (binary_level n) b i r = Fails (AnExpr b (binary_level n)) i r
LacksExpr conditional_level b i r = Fails (AnExpr b conditional_level) i r
LacksExpr assignment_level b i r = Fails (AnExpr b assignment_level) i r
LacksExpr expression_level b i r = Fails (AnExpr b expression_level) i r

abbrev pub ParsesTree : Room → Level → Result MeasuredExpr PhraseError → List Token → List Token → Type 0
ParsesTree room l (Ok m) i j = Reads room.pairs l (tree_of m) i j × Stops l j
ParsesTree room l (Err e) i j = Refused (LacksExpr l) (OpensExpr l) room e i j

-- a name, a constant or strings, within any number of parentheses
abbrev pub ParsesLeaf : Result MeasuredExpr PhraseError → List Token → List Token → Type 0
ParsesLeaf (Ok m) i j = (d : ℕ) → Reads d primary_level (tree_of m) i j
ParsesLeaf (Err e) i j = Unit {0}

-- no leaf stands there
pub record IsNoLeaf (e : PhraseError) (i : List Token) : Type 0 where
  pub wrong : e ≡ Syntax → (start i ≡ 3 → ⊥) × (start i ≡ 5 → ⊥)
  pub deep : (at : ℕ) → e ≡ Nesting at → ⊥

abbrev pub RefusesLeaf : Result MeasuredExpr PhraseError → List Token → Type 0
RefusesLeaf (Ok m) i = Unit {0}
RefusesLeaf (Err e) i = IsNoLeaf e i

abbrev pub ParsesTrees : Room → Result MeasuredExprs PhraseError → List Token → List Token → Type 0
ParsesTrees room (Ok m) i j = ReadsList room.pairs (trees_of m) i j × Stops expression_level j
ParsesTrees room (Err e) i j = Unit {0}

-- what follows the first of some expressions fails
abbrev pub RefusesRest : Room → Result MeasuredExprs PhraseError → List Token → List Token → Type 0
RefusesRest room (Ok m) i j = Unit {0}
RefusesRest room (Err e) i j = Refused (Lacks ExprsRest) OpensMore room e i j

-- the suffix whose first token is t makes of a, which begins at the place, what is answered
abbrev pub AddsSuffix : Room → ℕ → Expr → Token → Result MeasuredExpr PhraseError → List Token → List Token → Type 0
AddsSuffix room at a t (Ok m) i j = (e : Expr) (k : List Token) → Suffixes room.pairs at (tree_of m) e j k → Suffixes room.pairs at a e (t ∷ i) k
AddsSuffix room at a t (Err e) i j = Refused (Lacks SomeSuffixes) (OpensSuffix at a) room e (t ∷ i) j

-- what stands after the parenthesis of a call are the arguments and a parenthesis
abbrev pub TakesArguments : Room → Result MeasuredExprs PhraseError → List Token → List Token → Type 0
TakesArguments room (Ok m) i j =
    (at : ℕ) (a e : Expr) (k : List Token) (t : Token) → Is LEFT_PARENTHESIS t → Suffixes room.pairs at (call at a (trees_of m)) e j k → Suffixes room.pairs at a e (t ∷ i) k
TakesArguments room (Err e) i j = Refused (Lacks SomeArguments) OpensExprs room e i j

abbrev pub ParsesType : Room → Result MeasuredType PhraseError → List Token → List Token → Type 0
ParsesType room (Ok m) i j = ReadsType room.pairs (type_name_of m.name) i j × EndsDeclarator j
ParsesType room (Err e) i j = Refused (Lacks AType) OpensType room e i j

-- the declarator has a name or not, as it is to
abbrev pub Suits : Form → Declarator → Type 0
Suits Named e = HasName e
Suits Abstract e = HasNoName e
Suits Either e = Unit {0}

abbrev pub OpensDeclared : Form → ℕ → ℕ → ℕ → List Token → List Token → Type 0
OpensDeclared form at p n i r = Opens (DeepDeclarator (Suits form) at p n) i r

-- array sizes and parameters of the declarator, which begins at the place
abbrev pub OpensPart : ℕ → Declarator → ℕ → ℕ → ℕ → List Token → List Token → Type 0
OpensPart begins a at p n i r = (form : Form) → Opens (DeepLengthens (Suits form) at p n begins a) i r

abbrev pub OpensEach : ℕ → ℕ → ℕ → List Token → List Token → Type 0
OpensEach at p n i r = Opens (DeepEach at p n) i r

-- a comma and more parameters
pub record OpensEachMore (at p n : ℕ) (i r : List Token) : Type 0 where
  pub token : Token
  pub after : List Token
  pub is : i ≡ token ∷ after
  pub comma : Is COMMA token
  pub opens : Opens (DeepEach at p n) after r

abbrev pub OpensInit : ℕ → ℕ → ℕ → List Token → List Token → Type 0
OpensInit at p n i r = Opens (DeepInit at p n) i r

abbrev pub OpensInits : ℕ → ℕ → ℕ → List Token → List Token → Type 0
OpensInits at p n i r = Opens (DeepInits at p n) i r

-- a comma and more initialisers
pub record OpensInitMore (at p n : ℕ) (i r : List Token) : Type 0 where
  pub token : Token
  pub after : List Token
  pub is : i ≡ token ∷ after
  pub comma : Is COMMA token
  pub opens : Opens (DeepInits at p n) after r

abbrev pub ParsesDeclared : Room → Form → Result MeasuredDeclarator PhraseError → List Token → List Token → Type 0
ParsesDeclared room form (Ok m) i j = Declares room.pairs (inner_of m) i j × EndsDeclarator j × Suits form (inner_of m)
ParsesDeclared room form (Err e) i j = Refused (Lacks (ADeclared (Suits form))) (OpensDeclared form) room e i j

-- no name and no declarator in parentheses stands there, and nothing was read
pub record IsBare (e : Declarator) (i j : List Token) : Type 0 where
  pub empty : e ≡ nothing
  pub stays : j ≡ i
  pub bare : NoCore i

-- a name or a declarator in parentheses was read, or none stands there
abbrev pub IsCored : Declarator → List Token → List Token → Type 0
IsCored e i j = IsThere e ⊎ IsBare e i j

abbrev pub ParsesCore : Room → Form → Result MeasuredDeclarator PhraseError → List Token → List Token → Type 0
ParsesCore room form (Ok m) i j = ReadsCore room.pairs (inner_of m) i j × Suits form (inner_of m) × IsCored (inner_of m) i j
ParsesCore room form (Err e) i j = Refused (Lacks (ADeclared (Suits form))) (OpensDeclared form) room e i j

-- one array size or list of parameters makes of a, which begins at the place, what is answered
abbrev pub AddsPart : Room → ℕ → Declarator → Result MeasuredDeclarator PhraseError → List Token → List Token → Type 0
AddsPart room at a (Ok m) i j =
    ((e : Declarator) (k : List Token) → Lengthens room.pairs at (inner_of m) e j k → Lengthens room.pairs at a e i k)
    × ((form : Form) → Suits form a → Suits form (inner_of m))
AddsPart room at a (Err e) i j = 2 ≤ start i → Refused (LacksPast SomeLengthens) (OpensPart at a) room e i j

abbrev pub ParsesSize : Room → Result MeasuredSize PhraseError → List Token → List Token → Type 0
ParsesSize room (Ok m) i j = ReadsSize room.pairs (size_of m) i j × ((IsAt RIGHT_BRACKET j → ⊥) → (b : Bound) → Fails (SizeClosed b) i j)
ParsesSize room (Err e) i j = Refused (Lacks SizeClosed) (OpensExpr conditional_level) room e i j

-- what goes on behind the parameters fails with them, and no comma stands there
pub record LeadsParams (i j : List Token) : Type 0 where
  pub leads : (b : Bound) (r : List Token) → Fails (EachClosed b) j r → Fails (ParamsClosed b) i r
  pub no_comma : IsAt COMMA j → ⊥

abbrev pub ParsesParams : Room → Result MeasuredParams PhraseError → List Token → List Token → Type 0
ParsesParams room (Ok m) i j = ReadsParams room.pairs (list_of m) i j × LeadsParams i j
ParsesParams room (Err e) i j = Refused (Lacks ParamsClosed) OpensEach room e i j

-- the parameter stands from i to j
pub record IsParam (d : ℕ) (p : ParamTree) (is_void : Bool) (i j : List Token) : Type 0 where
  pub at : ℕ
  pub spec : Spec
  pub inner : Declarator
  pub between : List Token
  pub same : (rest : Params) → param_before p rest ≡ more_params at spec inner rest
  pub begins : at ≡ place i
  pub specified : ReadsSpec spec i between
  pub spec_ends : EndsSpec between
  pub declared : Declares d inner between j
  pub ends : EndsDeclarator j
  pub alone : is_void ≡ true → (spec ≡ void) × (inner ≡ nothing)
  pub other : is_void ≡ false → AreSome (more_params at spec inner no_params)

abbrev pub ParsesParam : Room → Result MeasuredParam PhraseError → List Token → List Token → Type 0
ParsesParam room (Ok m) i j = IsParam room.pairs m.param m.is_void i j
ParsesParam room (Err e) i j = Refused (Lacks AParam) OpensEach room e i j

-- `void` stands alone
abbrev pub StandsAlone : Bool → Bool → List Token → Type 0
StandsAlone true is_void i = (is_void ≡ true) × (IsAt COMMA i → ⊥)
StandsAlone false is_void i = (is_void ≡ false) ⊎ IsAt COMMA i

-- each const that stood first was taken
abbrev pub TookConsts : List Token → List Token → Type 0
TookConsts i j = Consts i j

-- the words of a type, without const before and after them
abbrev pub TookWords : Spec → List Token → List Token → Type 0
TookWords s i j = (h k : List Token) → Consts h i → Consts j k → ReadsSpec s h k

-- what goes on behind the words fails with them
abbrev pub LeadsSpec : List Token → List Token → Type 0
LeadsSpec i j = (r : List Token) → Fails SpecEnd j r → Fails ASpec i r
