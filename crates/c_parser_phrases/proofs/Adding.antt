-- Suffixes of expressions and parts of declarators, one by one.
use Rattle.std.proofs.Common.{◌≡◌, ℕ, List, ◌∷◌, sym, subst}
use Rattle.c_lexer.specs.declared.token.Token.{Token}
use Rattle.c_lexer.specs.declared.punctuator.TheConstants.{LEFT_BRACKET, RIGHT_BRACKET, LEFT_PARENTHESIS, RIGHT_PARENTHESIS}
use Rattle.c_syntax.specs.Tree.{Ident, Access, Postfix, Expr, Exprs, no_exprs, call, index, member, postfix, Maybe, absent, there, Declarator, array, function, Params}
use Rattle.c_syntax.specs.Tokens.{Is, IsAccess, IsPostfix, place}
use Rattle.c_syntax.specs.Specifiers.{Names}
use Rattle.c_syntax.specs.Grammar.{primary_level, postfix_level, conditional_level, expression_level, Reads, with_suffixes, ReadsList, Suffixes, no_suffix, an_index, an_empty_call, a_call, a_member, a_postfix, ReadsSize, no_size, a_size, Declares, a_direct, ReadsCore, Lengthens, no_more, an_array, a_function, ReadsParams}
use Rattle.c_syntax_printing.specs.Ranks.{Stops}
use Rattle.c_parser_phrases.specs.declared.looking.Suffix.{Suffix}
use Rattle.c_parser_phrases.specs.Looking.{IsSuffix}
use Rattle.std.specs.Prelude.{Result, Ok, Err}
use Rattle.c_syntax_printing.specs.Operands.{SomeSuffixes}
use Rattle.c_syntax_printing.specs.Declarators.{SomeLengthens}
use Rattle.c_parser_phrases.specs.declared.error.PhraseError.{PhraseError}
use Rattle.c_parser_phrases.specs.declared.room.Room.{Room}
use Rattle.c_parser_phrases.specs.declared.form.Form.{Form}
use Rattle.c_parser_phrases.specs.declared.depth.MeasuredExpr.{MeasuredExpr}
use Rattle.c_parser_phrases.specs.declared.depth.MeasuredDeclarator.{MeasuredDeclarator}
use Rattle.c_parser_phrases.specs.Making.{tree_of, inner_of, Makes, MakesDeclarator}
use Rattle.c_parser_phrases.specs.Reading.{Refused, Lacks, LacksPast, Suits, AddsSuffix, OpensSuffix, AddsPart, OpensPart}
use Rattle.c_parser_phrases.proofs.Raising.{no_memory}

pub index_adds : {d x at : ℕ} {a b w e : Expr} {t u : Token} {i j k m : List Token} → x ≡ d → Is LEFT_BRACKET t → Reads x expression_level b i j → Is RIGHT_BRACKET u → j ≡ u ∷ k → w ≡ index at a b → Suffixes d at w e k m → Suffixes d at a e (t ∷ i) m
index_adds {d} {x} {at} {a} {b} {w} {e} {t} {u} {i} {j} {k} {m} p h r c q v s =
    let P : List Token → Type 0 = λ z. Reads x expression_level b i z in
    let Q : ℕ → Type 0 = λ z. Reads z expression_level b i (u ∷ k) in
    let R : Expr → Type 0 = λ z. Suffixes d at z e k m in
    an_index h (subst Q p (subst P q r)) c (subst R v s)

pub member_adds : {d at : ℕ} {a w e : Expr} {ident : Ident} {access : Access} {t u : Token} {i j k : List Token} → IsAccess access t → Names ident u → i ≡ u ∷ j → w ≡ member at access a ident → Suffixes d at w e j k → Suffixes d at a e (t ∷ i) k
member_adds {d} {at} {a} {w} {e} {ident} {access} {t} {u} {i} {j} {k} h n q v s =
    let R : Expr → Type 0 = λ z. Suffixes d at z e j k in
    let P : List Token → Type 0 = λ z. Suffixes d at a e (t ∷ z) k in
    subst P (sym q) (a_member h n (subst R v s))

pub step_adds : {d at : ℕ} {a w e : Expr} {p : Postfix} {t : Token} {i k : List Token} → IsPostfix p t → w ≡ postfix at p a → Suffixes d at w e i k → Suffixes d at a e (t ∷ i) k
step_adds {d} {at} {a} {w} {e} {p} {t} {i} {k} h v s =
    let R : Expr → Type 0 = λ z. Suffixes d at z e i k in
    a_postfix h (subst R v s)

-- no arguments, and the parenthesis after them
pub none_taken : {d at : ℕ} {a e : Expr} {bs : Exprs} {t u : Token} {i j k : List Token} → Is LEFT_PARENTHESIS t → Is RIGHT_PARENTHESIS u → i ≡ u ∷ j → bs ≡ no_exprs → Suffixes d at (call at a bs) e j k → Suffixes d at a e (t ∷ i) k
none_taken {d} {at} {a} {e} {bs} {t} {u} {i} {j} {k} h c q v s =
    let R : Exprs → Type 0 = λ z. Suffixes d at (call at a z) e j k in
    let P : List Token → Type 0 = λ z. Suffixes d at a e (t ∷ z) k in
    subst P (sym q) (an_empty_call h c (subst R v s))

-- arguments, and the parenthesis after them
pub some_taken : {d at : ℕ} {a e : Expr} {bs : Exprs} {t u : Token} {i j k m z : List Token} → z ≡ i → Is LEFT_PARENTHESIS t → ReadsList d bs z j → Is RIGHT_PARENTHESIS u → j ≡ u ∷ k → Suffixes d at (call at a bs) e k m → Suffixes d at a e (t ∷ i) m
some_taken {d} {at} {a} {e} {bs} {t} {u} {i} {j} {k} {m} {z} y h r c q s =
    let P : List Token → Type 0 = λ x. ReadsList d bs z x in
    let Q : List Token → Type 0 = λ x. ReadsList d bs x (u ∷ k) in
    a_call h (subst Q y (subst P q r)) c s

pub suffix_is : {s z : Suffix} (t : Token) → s ≡ z → IsSuffix s t → IsSuffix z t
suffix_is t q h = let P : Suffix → Type 0 = λ x. IsSuffix x t in subst P q h

-- an operand with each suffix that was read
pub suffixes_read :
    {d at : ℕ} {b : Expr} {s i : List Token}
    → at ≡ place s
    → ((a : Expr) × (j : List Token) × Reads d primary_level a s j × Stops primary_level j × ((e : Expr) (k : List Token) → Suffixes d at b e i k → Suffixes d at a e j k))
    → Reads d postfix_level b s i
suffixes_read p h = with_suffixes p h.2 (h.4 _ _ no_suffix)

pub array_adds : {d x at : ℕ} {a w e : Declarator} {size : Maybe} {t u : Token} {i j k m n : List Token} → x ≡ d → Is LEFT_BRACKET t → i ≡ t ∷ j → ReadsSize x size j k → Is RIGHT_BRACKET u → k ≡ u ∷ m → w ≡ array at a size → Lengthens d at w e m n → Lengthens d at a e i n
array_adds {d} {x} {at} {a} {w} {e} {size} {t} {u} {i} {j} {k} {m} {n} p h q r c y v s =
    let P : List Token → Type 0 = λ z. ReadsSize x size j z in
    let Q : ℕ → Type 0 = λ z. ReadsSize z size j (u ∷ m) in
    let R : Declarator → Type 0 = λ z. Lengthens d at z e m n in
    let S : List Token → Type 0 = λ z. Lengthens d at a e z n in
    subst S (sym q) (an_array h (subst Q p (subst P y r)) c (subst R v s))

pub function_adds : {d x at : ℕ} {a w e : Declarator} {ps : Params} {t u : Token} {i j k m n : List Token} → x ≡ d → Is LEFT_PARENTHESIS t → i ≡ t ∷ j → ReadsParams x ps j k → Is RIGHT_PARENTHESIS u → k ≡ u ∷ m → w ≡ function at a ps → Lengthens d at w e m n → Lengthens d at a e i n
function_adds {d} {x} {at} {a} {w} {e} {ps} {t} {u} {i} {j} {k} {m} {n} p h q r c y v s =
    let P : List Token → Type 0 = λ z. ReadsParams x ps j z in
    let Q : ℕ → Type 0 = λ z. ReadsParams z ps j (u ∷ m) in
    let R : Declarator → Type 0 = λ z. Lengthens d at z e m n in
    let S : List Token → Type 0 = λ z. Lengthens d at a e z n in
    subst S (sym q) (a_function h (subst Q p (subst P y r)) c (subst R v s))

-- a name, a declarator in parentheses or nothing, with each part that was read
pub lengthened_read :
    {d at : ℕ} {a b : Declarator} {s j i : List Token}
    → at ≡ place s → ReadsCore d a s j → ((e : Declarator) (k : List Token) → Lengthens d at b e i k → Lengthens d at a e j k)
    → Declares d b s i
lengthened_read p c f = a_direct p c (f _ _ no_more)

pub size_read : {d : ℕ} {a : Expr} {size : Maybe} {i j : List Token} → Reads d conditional_level a i j → size ≡ there a → ReadsSize d size i j
size_read {d} {i = i} {j = j} r q = let P : Maybe → Type 0 = λ z. ReadsSize d z i j in subst P (sym q) (a_size r)

pub size_absent : {d : ℕ} {size : Maybe} {i : List Token} → size ≡ absent → ReadsSize d size i i
size_absent {d} {i = i} q = let P : Maybe → Type 0 = λ z. ReadsSize d z i i in subst P (sym q) no_size

pub call_adds : {x d at : ℕ} {a w e : Expr} {bs : Exprs} {t : Token} {i j k : List Token} → x ≡ d → w ≡ call at a bs → (Suffixes x at (call at a bs) e j k → Suffixes x at a e (t ∷ i) k) → Suffixes d at w e j k → Suffixes d at a e (t ∷ i) k
call_adds {x} {d} {at} {a} {w} {e} {bs} {t} {i} {j} {k} p v f s =
    let R : Expr → Type 0 = λ z. Suffixes d at z e j k in
    let P : ℕ → Type 0 = λ z. Suffixes z at (call at a bs) e j k in
    let Q : ℕ → Type 0 = λ z. Suffixes z at a e (t ∷ i) k in
    subst Q p (f (subst P (sym p) (subst R v s)))

-- what a reader answers that returns a node as it is made

pub suffix_made : (room : Room) {at : ℕ} {a tree : Expr} {t : Token} {i j : List Token} (r : Result MeasuredExpr PhraseError) → Makes r tree → ((w : Expr) → w ≡ tree → (e : Expr) (k : List Token) → Suffixes room.pairs at w e j k → Suffixes room.pairs at a e (t ∷ i) k) → AddsSuffix room at a t r i j
suffix_made room (Ok m) h f = f (tree_of m) h
suffix_made room {at} {a} {t = t} {i} {j} (Err e) h f = subst (λ z. Refused (Lacks SomeSuffixes) (OpensSuffix at a) room z (t ∷ i) j) (sym h) no_memory

pub part_made : (room : Room) {at : ℕ} {a tree : Declarator} {i j : List Token} (r : Result MeasuredDeclarator PhraseError) → MakesDeclarator r tree
    → ((w : Declarator) → w ≡ tree → ((e : Declarator) (k : List Token) → Lengthens room.pairs at w e j k → Lengthens room.pairs at a e i k) × ((form : Form) → Suits form a → Suits form w)) → AddsPart room at a r i j
part_made room (Ok m) h f = f (inner_of m) h
part_made room {at} {a} {i = i} {j} (Err e) h f = λ l. subst (λ z. Refused (LacksPast SomeLengthens) (OpensPart at a) room z i j) (sym h) no_memory
