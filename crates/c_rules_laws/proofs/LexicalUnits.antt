-- Units that tokens of a text spell: their constants are in range, their strings are no longer than the text, their functions have names.
use Rattle.std.proofs.Common.{◌≡◌, ℕ, ◌+◌, ◌≤◌, Bool, true, false, List, [], ◌∷◌, ◌++◌, length, length-append, ap, subst, arith}
use Rattle.dm_base.specs.declared.mode.Mode.{Mode}
use Rattle.dm_base.specs.declared.mode.Mode.TheVariants.{Plain, Instrumented}
use Rattle.dm_base.specs.Name.{IsName}
use Rattle.c_lexer.specs.declared.token.TokenKind.{TokenKind}
use Rattle.c_lexer.specs.declared.token.TokenKind.TheVariants.{Int, Str}
use Rattle.c_lexer.specs.declared.token.Token.{Token}
use Rattle.c_lexer.specs.Kinds.{Spells, IsKind}
use Rattle.c_lexer.specs.Literals.{IsElement, plain, HasElements, none, more}
use Rattle.c_lexer.specs.TokenSpelling.{SpellsFrom, nothing, white, token, SpellsTokens}
use Rattle.c_lexer.proofs.KindsLemmas.{kind_of_spelled}
use Rattle.c_syntax.specs.Tree.{Ident, Spec, Expr, Exprs, Maybe, Declarator, Init, Inits, MaybeInit, Parts, Decl, First, Stmt, BlockItems, Stmts, Groups, Declarators, Members, Item, Items}
use Rattle.c_syntax.specs.Tree as syntax
use Rattle.c_syntax.specs.Specifiers.{Names, ReadsSpec}
use Rattle.c_syntax.specs.Grammar as grammar
use Rattle.c_syntax.specs.Grammar.{Level, ReadsStrings, Reads, ReadsList, Suffixes, Chain, Declares, ReadsCore, Lengthens}
use Rattle.c_syntax.specs.Statements as stmts
use Rattle.c_syntax.specs.Statements.{ReadsInit, ReadsInits, ReadsMaybeInit, ReadsParts, ReadsDecl, ReadsMaybe, ReadsFirst, ReadsStmt, ReadsBlockItems, ReadsStmts, ReadsGroups, ReadsDeclarators, ReadsMembers, ReadsItem, ReadsItems}
use Rattle.c_syntax_printing.specs.Twins.{On}
use Rattle.c_syntax_printing.proofs.FrontLemmas.{front_of_all, front_of_each}
use Rattle.c_syntax_printing.proofs.FrameSpecifiers.{consts_on, storage_on, spec_on}
use Rattle.c_syntax_printing.proofs.FrameGrammar.{size_on, type_on, params_on}
use Rattle.c_syntax_printing.proofs.FrameStatements.{labels_on, members_on, enumerators_on, tag_on}
use Rattle.c_rules.specs.Declarators.{name_of}
use Rattle.c_rules_laws.specs.Lexical.{IsLexical, AreLexical, IsMaybeLexical, IsInitLexical, AreInitsLexical, IsMaybeInitLexical, ArePartsLexical, IsDeclLexical, IsFirstLexical, IsStmtLexical, AreItemsLexical, AreStmtsLexical, AreGroupsLexical, AreSomeMembers, IsNamed, IsItemLexical, IsUnitLexical}
use Rattle.c_rules_laws.proofs.Holding.{Each}

-- ## Tokens

abbrev pub text_length : TokenKind → ℕ
text_length (Str w) = length w
text_length k = 0

-- the bytes of the strings
abbrev pub weight : List Token → ℕ
weight [] = 0
weight (t ∷ ts) = text_length t.kind + weight ts

abbrev pub AllKinds : List Token → Type 0
AllKinds = Each (λ t. IsKind t.kind)

-- tokens of a text of at most 16 MiB
pub record AreGood (i : List Token) : Type 0 where
  pub kinds : AllKinds i
  pub short : weight i ≤ 16777216

next : {t : Token} {i : List Token} → AreGood (t ∷ i) → AreGood i
next h = record { kinds = h.kinds.1; short = (let l = h.short in omega (arith, l)) }

element_long : {q v : ℕ} {w : List ℕ} → IsElement q w v → 1 ≤ length w
element_long (plain h) = omega arith
element_long x = omega arith

elements_long : {q : ℕ} {i j vs : List ℕ} → HasElements q i j vs → length vs + length j ≤ length i
elements_long none = omega arith
elements_long {i = a0} {j = z0} (more {j = j} e es) =
    let a = element_long e.element in
    let b = elements_long es in
    let c : length a0 ≡ length (e.text ++ j) = ap length e.longest.stands in
    let d = length-append e.text j in
    omega (arith, a, b, c, d)

spelled_length : (k : TokenKind) (w : List ℕ) → Spells k w → text_length k ≤ length w
spelled_length (Str x) w h = (let e = elements_long h.0.2 in let f : length w ≡ length (34 ∷ h.0.0) = ap length h.0.1 in omega (arith, e, f))
spelled_length k w h = omega arith

tokens_good : {text : List ℕ} {p q : ℕ} {ts : List Token} → SpellsFrom text p q ts → AllKinds ts × (p + weight ts ≤ q)
tokens_good nothing = (tt, omega arith)
tokens_good (white s h rest) = (let k = tokens_good rest in let l = s.long in (k.0, (let m = k.1 in omega (arith, m, l))))
tokens_good (token {w = w} {t = x} s h a b rest) =
    let k = tokens_good rest in
    let l = s.long in
    let n = spelled_length x.kind w h.spells in
    ((kind_of_spelled x.kind w h.spells, k.0), (let m = k.1 in omega (arith, m, l, n)))

pub text_good : (text : List ℕ) (m : Mode) (ts : List Token) → SpellsTokens text m ts → AreGood ts
text_good text Plain ts h = (let k = tokens_good h.whole in let l = h.short in let m = k.1 in record { kinds = k.0; short = omega (arith, l, m) })
text_good text Instrumented ts h = (let k = tokens_good h.whole in let l = h.short in let m = k.1 in record { kinds = k.0; short = omega (arith, l, m) })

good_rest : (w j : List Token) → AreGood (w ++ j) → AreGood j
good_rest [] j h = h
good_rest (t ∷ w) j h = good_rest w j (next h)

spec_good : {x : Spec} {i j : List Token} → ReadsSpec x i j → AreGood i → AreGood j
spec_good {j = j} r h = (let f = front_of_each (spec_on r) in good_rest f.front j (subst AreGood f.is h))

-- behind a phrase that is read whatever follows it
behind : {R : List Token → List Token → Type 0} {i j : List Token} → ((k : List Token) → On R i j k) → AreGood i → AreGood j
behind {j = j} r h = (let f = front_of_all r in good_rest f.front j (subst AreGood f.is h))

name_good : {x : Ident} {t : Token} {i : List Token} → Names x t → AreGood (t ∷ i) → IsName x.name
name_good n h = subst IsKind n.name.kind h.kinds.0

-- ## Expressions

strings_good : {w : List ℕ} {i j : List Token} → ReadsStrings w i j → AreGood i → AreGood j × (length w + weight j ≤ weight i)
strings_good (grammar.last_string {bytes = w} {t = x} k) h = (next h, (let e : text_length x.kind ≡ length w = ap text_length k.kind in omega (arith, e)))
strings_good (grammar.next_string {front = front} {rest = rest} {bytes = w} {t = x} k r e) h =
    let n = strings_good r (next h) in
    let f : text_length x.kind ≡ length front = ap text_length k.kind in
    let l : length w ≡ length (front ++ rest) = ap length e in
    let a = length-append front rest in
    (n.0, (let m = n.1 in omega (arith, f, l, a, m)))

int_good : (n : ℕ) (u : Bool) (at : ℕ) (k : TokenKind) → k ≡ Int n u → IsKind k → IsLexical (syntax.an_int at n u)
int_good n true at k e h = (let x : IsKind (Int n true) = subst IsKind e h in x)
int_good n false at k e h = (let x : IsKind (Int n false) = subst IsKind e h in x)

mutual
  pub reads_good : {d : ℕ} {l : Level} {e : Expr} {i j : List Token} → Reads d l e i j → AreGood i → IsLexical e × AreGood j
  reads_good (grammar.is_name k) h = (tt, next h)
  reads_good (grammar.is_int {value = n} {unsigned = u} {t = x} k) h = (int_good n u x.from x.kind k.kind h.kinds.0, next h)
  reads_good (grammar.is_char k) h = (subst IsKind k.kind h.kinds.0, next h)
  reads_good (grammar.are_strings p r) h = (let n = strings_good r h in ((let a = n.1 in let b = h.short in omega (arith, a, b)), n.0))
  reads_good (grammar.in_parentheses k r u) h = (let n = reads_good r (next h) in (n.0, next n.1))
  reads_good (grammar.with_suffixes p r x) h = (let n = reads_good r h in suffixes_good x n.0 n.1)
  reads_good (grammar.no_prefix r) h = reads_good r h
  reads_good (grammar.a_prefix k r) h = reads_good r (next h)
  reads_good (grammar.a_unary k u r) h = reads_good r (next h)
  reads_good (grammar.a_sizeof_type k o r c) h = (tt, next (behind (type_on r) (next (next h))))
  reads_good (grammar.no_cast r) h = reads_good r h
  reads_good (grammar.a_cast k r u x) h = reads_good x (next (behind (type_on r) (next h)))
  reads_good (grammar.no_chain r) h = reads_good r h
  reads_good (grammar.a_chain p r c) h = (let n = reads_good r h in chain_good c n.0 n.1)
  reads_good (grammar.no_choice r) h = reads_good r h
  reads_good (grammar.a_choice p a q b c r) h = (let x = reads_good a h in let y = reads_good b (next x.1) in let z = reads_good r (next y.1) in ((x.0, y.0, z.0), z.1))
  reads_good (grammar.no_assignment r) h = reads_good r h
  reads_good (grammar.an_assignment p a k o b) h = (let x = reads_good a h in let y = reads_good b (next x.1) in ((x.0, y.0), y.1))
  reads_good (grammar.no_comma r) h = reads_good r h
  reads_good (grammar.a_comma p a k r) h = (let x = reads_good a h in let y = list_good r (next x.1) in ((tt, (x.0, y.0)), y.1))

  list_good : {d : ℕ} {es : Exprs} {i j : List Token} → ReadsList d es i j → AreGood i → AreLexical es × AreGood j
  list_good (grammar.last_expr r) h = (let x = reads_good r h in ((x.0, tt), x.1))
  list_good (grammar.next_expr r k rest) h = (let x = reads_good r h in let y = list_good rest (next x.1) in ((x.0, y.0), y.1))

  suffixes_good : {d at : ℕ} {a e : Expr} {i j : List Token} → Suffixes d at a e i j → IsLexical a → AreGood i → IsLexical e × AreGood j
  suffixes_good grammar.no_suffix l h = (l, h)
  suffixes_good (grammar.an_index k r u x) l h = (let y = reads_good r (next h) in suffixes_good x (l, y.0) (next y.1))
  suffixes_good (grammar.an_empty_call k u x) l h = suffixes_good x (l, tt) (next (next h))
  suffixes_good (grammar.a_call k r u x) l h = (let y = list_good r (next h) in suffixes_good x (l, y.0) (next y.1))
  suffixes_good (grammar.a_member k n x) l h = suffixes_good x l (next (next h))
  suffixes_good (grammar.a_postfix k x) l h = suffixes_good x l (next h)

  chain_good : {d n at : ℕ} {a e : Expr} {i j : List Token} → Chain d n at a e i j → IsLexical a → AreGood i → IsLexical e × AreGood j
  chain_good grammar.no_operator l h = (l, h)
  chain_good (grammar.an_operator o k r x) l h = (let y = reads_good r (next h) in chain_good x (l, y.0) y.1)

  pub declares_good : {d : ℕ} {e : Declarator} {i j : List Token} → Declares d e i j → AreGood i → IsNamed (name_of e) × AreGood j
  declares_good (grammar.a_pointer k c x) h = declares_good x (behind (consts_on c) (next h))
  declares_good (grammar.a_direct p c x) h = (let n = core_good c h in lengthens_good x n.0 n.1)

  core_good : {d : ℕ} {e : Declarator} {i j : List Token} → ReadsCore d e i j → AreGood i → IsNamed (name_of e) × AreGood j
  core_good (grammar.a_declared n) h = (name_good n h, next h)
  core_good (grammar.declarator_in_parentheses k x m u) h = (let n = declares_good x (next h) in (n.0, next n.1))
  core_good grammar.no_core h = (tt, h)

  lengthens_good : {d at : ℕ} {a e : Declarator} {i j : List Token} → Lengthens d at a e i j → IsNamed (name_of a) → AreGood i → IsNamed (name_of e) × AreGood j
  lengthens_good grammar.no_more l h = (l, h)
  lengthens_good (grammar.an_array k r u x) l h = lengthens_good x l (next (behind (size_on r) (next h)))
  lengthens_good (grammar.a_function k r u x) l h = lengthens_good x l (next (behind (params_on r) (next h)))

-- ## Initialisers, declarations and statements

mutual
  init_good : {d : ℕ} {a : Init} {i j : List Token} → ReadsInit d a i j → AreGood i → IsInitLexical a × AreGood j
  init_good (stmts.an_expression r p) h = reads_good r h
  init_good (stmts.a_list k r u) h = (let n = inits_good r (next h) in (n.0, next n.1))
  init_good (stmts.a_list_with_comma k r c u) h = (let n = inits_good r (next h) in (n.0, next (next n.1)))

  inits_good : {d : ℕ} {is : Inits} {i j : List Token} → ReadsInits d is i j → AreGood i → AreInitsLexical is × AreGood j
  inits_good (stmts.last_init r) h = (let n = init_good r h in ((n.0, tt), n.1))
  inits_good (stmts.next_init r k rest) h = (let n = init_good r h in let m = inits_good rest (next n.1) in ((n.0, m.0), m.1))

maybe_init_good : {d : ℕ} {m : MaybeInit} {i j : List Token} → ReadsMaybeInit d m i j → AreGood i → IsMaybeInitLexical m × AreGood j
maybe_init_good stmts.no_initialiser h = (tt, h)
maybe_init_good (stmts.an_initialiser k r) h = init_good r (next h)

parts_good : {d : ℕ} {ps : Parts} {i j : List Token} → ReadsParts d ps i j → AreGood i → ArePartsLexical ps × AreGood j
parts_good (stmts.last_part x n r) h = (let y = maybe_init_good r (declares_good x h).1 in ((y.0, tt), y.1))
parts_good (stmts.next_part x n r k rest) h = (let y = maybe_init_good r (declares_good x h).1 in let z = parts_good rest (next y.1) in ((y.0, z.0), z.1))

decl_good : {d : ℕ} {x : Decl} {i j : List Token} → ReadsDecl d x i j → AreGood i → IsDeclLexical x × AreGood j
decl_good (stmts.a_declaration p c r x k) h = (let y = parts_good x (spec_good r (behind (storage_on c) h)) in (y.0, next y.1))

maybe_good : {d : ℕ} {m : Maybe} {i j : List Token} → ReadsMaybe d m i j → AreGood i → IsMaybeLexical m × AreGood j
maybe_good stmts.no_expression_stands h = (tt, h)
maybe_good (stmts.an_expression_stands r) h = reads_good r h

first_good : {d : ℕ} {x : First} {i j : List Token} → ReadsFirst d x i j → AreGood i → IsFirstLexical x × AreGood j
first_good (stmts.first_nothing k) h = (tt, next h)
first_good (stmts.first_expression r k) h = (let y = reads_good r h in (y.0, next y.1))
first_good (stmts.first_declaration r p) h = decl_good r h

mutual
  stmt_good : {d : ℕ} {x : Stmt} {i j : List Token} → ReadsStmt d x i j → AreGood i → IsStmtLexical x × AreGood j
  stmt_good (stmts.a_block k r u) h = (let n = items_good r (next h) in (n.0, next n.1))
  stmt_good (stmts.an_empty k) h = (tt, next h)
  stmt_good (stmts.an_evaluation p r k) h = (let n = reads_good r h in (n.0, next n.1))
  stmt_good (stmts.an_if k o r c x) h = (let n = reads_good r (next (next h)) in let m = stmt_good x (next n.1) in ((n.0, m.0), m.1))
  stmt_good (stmts.an_if_else k o r c x q u y) h = (let n = reads_good r (next (next h)) in let m = stmt_good x (next n.1) in let z = stmt_good y (next m.1) in ((n.0, m.0, z.0), z.1))
  stmt_good (stmts.a_while k o r c x) h = (let n = reads_good r (next (next h)) in let m = stmt_good x (next n.1) in ((n.0, m.0), m.1))
  stmt_good (stmts.a_do k x w o r c u) h = (let m = stmt_good x (next h) in let n = reads_good r (next (next m.1)) in ((m.0, n.0), next (next n.1)))
  stmt_good (stmts.a_for k o f r u q c x) h = (let a = first_good f (next (next h)) in let b = maybe_good r a.1 in let e = maybe_good q (next b.1) in let m = stmt_good x (next e.1) in ((a.0, b.0, e.0, m.0), m.1))
  stmt_good (stmts.a_switch k o r c l x y) h = (let n = reads_good r (next (next h)) in let m = groups_good x (next (next n.1)) in ((n.0, m.0), next m.1))
  stmt_good (stmts.a_return k r u) h = (let n = maybe_good r (next h) in (n.0, next n.1))
  stmt_good x h = (tt, next (next h))

  items_good : {d : ℕ} {x : BlockItems} {i j : List Token} → ReadsBlockItems d x i j → AreGood i → AreItemsLexical x × AreGood j
  items_good stmts.no_block_item h = (tt, h)
  items_good (stmts.a_block_decl r p rest) h = (let n = decl_good r h in let m = items_good rest n.1 in ((n.0, m.0), m.1))
  items_good (stmts.a_block_stmt r rest) h = (let n = stmt_good r h in let m = items_good rest n.1 in ((n.0, m.0), m.1))

  stmts_good : {d : ℕ} {x : Stmts} {i j : List Token} → ReadsStmts d x i j → AreGood i → AreStmtsLexical x × AreGood j
  stmts_good (stmts.last_stmt r) h = (let n = stmt_good r h in ((n.0, tt), n.1))
  stmts_good (stmts.next_stmt r rest) h = (let n = stmt_good r h in let m = stmts_good rest n.1 in ((n.0, m.0), m.1))

  groups_good : {d : ℕ} {x : Groups} {i j : List Token} → ReadsGroups d x i j → AreGood i → AreGroupsLexical x × AreGood j
  groups_good stmts.no_group h = (tt, h)
  groups_good (stmts.a_group ls r rest) h = (let n = stmts_good r (behind (labels_on ls) h) in let m = groups_good rest n.1 in ((n.0, m.0), m.1))

-- ## Units

some_members : {d : ℕ} {x : Declarators} {i j : List Token} (at : ℕ) (y : Spec) (ms : Members) → ReadsDeclarators d x i j → AreSomeMembers (syntax.more_members at y x ms)
some_members at y ms (stmts.last_declarator x n) = tt
some_members at y ms (stmts.next_declarator x n k rest) = tt

members_some : {d : ℕ} {x : Members} {i j : List Token} → ReadsMembers d x i j → AreSomeMembers x
members_some (stmts.last_member {at = a0} {s = s0} p r x k) = some_members a0 s0 syntax.no_members x
members_some (stmts.next_member {at = a0} {s = s0} {rest = m0} p r x k rest) = some_members a0 s0 m0 x

item_good : {d : ℕ} {x : Item} {i j : List Token} → ReadsItem d x i j → AreGood i → IsItemLexical x × AreGood j
item_good (stmts.a_struct k n l r a u) h = (members_some r, next (next (behind (members_on r) (next (next (next h))))))
item_good (stmts.an_enum k g l r a u) h = (tt, next (next (behind (enumerators_on r) (next (behind (tag_on g) (next h))))))
item_good (stmts.an_enum_with_comma k g l r c a u) h = (tt, next (next (next (behind (enumerators_on r) (next (behind (tag_on g) (next h)))))))
item_good (stmts.a_tag_alone k n u) h = (tt, next (next (next h)))
item_good (stmts.an_item_declaration p r) h = decl_good r h
item_good (stmts.a_definition p c r x n k items u) h = (let y = declares_good x (spec_good r (behind (storage_on c) h)) in let z = items_good items (next y.1) in ((y.0, z.0), next z.1))

unit_good : {d : ℕ} {x : Items} {i j : List Token} → ReadsItems d x i j → AreGood i → IsUnitLexical x × AreGood j
unit_good (stmts.last_item r) h = (let n = item_good r h in ((n.0, tt), n.1))
unit_good (stmts.next_item r rest) h = (let n = item_good r h in let m = unit_good rest n.1 in ((n.0, m.0), m.1))

-- a unit that tokens of a text spell
pub unit_lexical : (text : List ℕ) (m : Mode) (ts : List Token) (d : ℕ) (u : Items) → SpellsTokens text m ts → ReadsItems d u ts [] → IsUnitLexical u
unit_lexical text m ts d u h r = (unit_good r (text_good text m ts h)).0
