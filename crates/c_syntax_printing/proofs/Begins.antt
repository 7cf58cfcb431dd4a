-- What expressions, type names, declarators and parameters begin with.
use Rattle.std.proofs.Common.{◌≡◌, ◌≤◌, ℕ, List, ◌∷◌, refl, arith}
use Rattle.c_lexer.specs.declared.token.Token.{Token}
use Rattle.c_lexer.specs.declared.punctuator.TheConstants.{LEFT_PARENTHESIS}
use Rattle.c_syntax_printing.proofs.Heads.{lengthened_name}
use Rattle.c_syntax_printing.specs.Ranks.{rank}
use Rattle.c_syntax.specs.Tree.{Expr, Exprs, TypeName, Declarator, nothing, Params}
use Rattle.c_syntax.specs.Tokens.{Is}
use Rattle.c_syntax.specs.Grammar.{primary_level, postfix_level, unary_level, cast_level, binary_level, conditional_level, assignment_level, expression_level, IsThere, HasName}
use Rattle.c_syntax.specs.Grammar.{ReadsStrings, last_string, next_string, Reads, is_name, is_int, is_char, are_strings, in_parentheses, with_suffixes, no_prefix, a_prefix, a_unary, a_sizeof_type, no_cast, a_cast, no_chain, a_chain}
use Rattle.c_syntax.specs.Grammar.{no_choice, a_choice, no_assignment, an_assignment, no_comma, a_comma, ReadsList, last_expr, next_expr, ReadsType, a_type}
use Rattle.c_syntax.specs.Grammar.{Declares, a_pointer, a_direct, ReadsCore, a_declared, declarator_in_parentheses, no_core, Lengthens, no_more, an_array, a_function, ReadsParams, are_none, are_some, ReadsEach, last_param, next_param}
use Rattle.c_syntax_printing.proofs.Ranks.{ranked_str}
use Rattle.c_syntax_printing.specs.Starts.{start, EndsDeclarator, EndsSpec}
use Rattle.c_syntax_printing.proofs.Ends.{started, started_word, started_name, started_int, started_char, started_str, started_unary, started_prefix}
use Rattle.c_syntax_printing.proofs.OneSpecifier.{spec_begins}

-- strings begin with a string
pub strings_begin : {bytes : List ℕ} {i j : List Token} → ReadsStrings bytes i j → start i ≡ 3
strings_begin (last_string h) = started_str h
strings_begin (next_string h r e) = started_str h

pub strings_rank : {bytes : List ℕ} {i j : List Token} → ReadsStrings bytes i j → rank i ≡ 0
strings_rank (last_string h) = ranked_str h
strings_rank (next_string h r e) = ranked_str h

-- an operand begins with a name, a constant, a string or a parenthesis
pub primary_begins : {d : ℕ} {e : Expr} {i j : List Token} → Reads d primary_level e i j → (3 ≤ start i) × (start i ≤ 5)
primary_begins (is_name h) = (omega (arith, started_name h), omega (arith, started_name h))
primary_begins (is_int h) = (omega (arith, started_int h), omega (arith, started_int h))
primary_begins (is_char h) = (omega (arith, started_char h), omega (arith, started_char h))
primary_begins (are_strings p r) = (omega (arith, strings_begin r), omega (arith, strings_begin r))
primary_begins (in_parentheses o r c) = (omega (arith, started o), omega (arith, started o))

pub suffixed_begins : {d : ℕ} {e : Expr} {i j : List Token} → Reads d postfix_level e i j → (3 ≤ start i) × (start i ≤ 5)
suffixed_begins (with_suffixes p r c) = primary_begins r

-- an expression begins with that or a prefix operator
pub prefixed_begins : {d : ℕ} {e : Expr} {i j : List Token} → Reads d unary_level e i j → (1 ≤ start i) × (start i ≤ 5)
prefixed_begins (no_prefix r) = let v = suffixed_begins r in (omega (arith, v.0), v.1)
prefixed_begins (a_prefix {p = p} h r) = (omega (arith, started_prefix _ p h), omega (arith, started_prefix _ p h))
prefixed_begins (a_unary h u r) = let v = started_unary h u in (v.0, omega (arith, v.1))
prefixed_begins (a_sizeof_type h o r c) = (omega (arith, started_word h), omega (arith, started_word h))

pub casting_begins : {d : ℕ} {e : Expr} {i j : List Token} → Reads d cast_level e i j → (1 ≤ start i) × (start i ≤ 5)
casting_begins (no_cast r) = prefixed_begins r
casting_begins (a_cast o n c r) = (omega (arith, started o), omega (arith, started o))

pub chained_begins : {d : ℕ} {n : ℕ} {e : Expr} {i j : List Token} → Reads d (binary_level n) e i j → (1 ≤ start i) × (start i ≤ 5)
chained_begins (no_chain r) = casting_begins r
chained_begins (a_chain p r c) = chained_begins r

pub choosing_begins : {d : ℕ} {e : Expr} {i j : List Token} → Reads d conditional_level e i j → (1 ≤ start i) × (start i ≤ 5)
choosing_begins (no_choice r) = chained_begins r
choosing_begins (a_choice p r q b c e) = chained_begins r

pub assigning_begins : {d : ℕ} {e : Expr} {i j : List Token} → Reads d assignment_level e i j → (1 ≤ start i) × (start i ≤ 5)
assigning_begins (no_assignment r) = choosing_begins r
assigning_begins (an_assignment p r h q b) = prefixed_begins r

pub expression_begins : {d : ℕ} {e : Expr} {i j : List Token} → Reads d expression_level e i j → (1 ≤ start i) × (start i ≤ 5)
expression_begins (no_comma r) = assigning_begins r
expression_begins (a_comma p r h b) = assigning_begins r

pub list_begins : {d : ℕ} {es : Exprs} {i j : List Token} → ReadsList d es i j → (1 ≤ start i) × (start i ≤ 5)
list_begins (last_expr r) = assigning_begins r
list_begins (next_expr r h b) = assigning_begins r

-- what stands in parentheses at the front of an operand begins with no word of specifiers
pub primary_inside : {d : ℕ} {e : Expr} {t : Token} {i j : List Token} → Reads d primary_level e (t ∷ i) j → Is LEFT_PARENTHESIS t → start i ≤ 5
primary_inside (is_name h) o = absurd (omega (arith, started_name h, started o))
primary_inside (is_int h) o = absurd (omega (arith, started_int h, started o))
primary_inside (is_char h) o = absurd (omega (arith, started_char h, started o))
primary_inside (are_strings p r) o = absurd (omega (arith, strings_begin r, started o))
primary_inside (in_parentheses h r c) o = (expression_begins r).1

pub prefixed_inside : {d : ℕ} {e : Expr} {t : Token} {i j : List Token} → Reads d unary_level e (t ∷ i) j → Is LEFT_PARENTHESIS t → start i ≤ 5
prefixed_inside (no_prefix (with_suffixes p r c)) o = primary_inside r o
prefixed_inside (a_prefix {p = p} h r) o = absurd (omega (arith, started_prefix _ p h, started o))
prefixed_inside (a_unary h u r) o = absurd (omega (arith, (started_unary h u).1, started o))
prefixed_inside (a_sizeof_type h q r c) o = absurd (omega (arith, started_word h, started o))

-- a type begins with a word of specifiers
pub type_begins : {d : ℕ} {n : TypeName} {i j : List Token} → ReadsType d n i j → (7 ≤ start i) × (start i ≤ 14)
type_begins (a_type p s e h) = spec_begins s

pub each_begins : {d : ℕ} {ps : Params} {i j : List Token} → ReadsEach d ps i j → (7 ≤ start i) × (start i ≤ 14)
each_begins (last_param p s e) = spec_begins s
each_begins (next_param p s e h r) = spec_begins s

pub params_begin : {d : ℕ} {ps : Params} {i j : List Token} → ReadsParams d ps i j → (7 ≤ start i) × (start i ≤ 14)
params_begin (are_none s) = spec_begins s
params_begin (are_some r h) = each_begins r

-- array sizes and parameters begin with [ or (
pub lengthens_begin : {d at : ℕ} {a e : Declarator} {j k : List Token} → Lengthens d at a e j k → EndsDeclarator k → (start j ≤ 6) × (start j ≡ 5 → ⊥) × (start j ≡ 2 → ⊥)
lengthens_begin no_more z = (omega arith, λ q. omega arith, λ q. omega arith)
lengthens_begin (an_array o s c l) z = (omega (arith, started o), λ q. omega (arith, started o), λ q. omega (arith, started o))
lengthens_begin (a_function o s c l) z = (omega (arith, started o), λ q. omega (arith, started o), λ q. omega (arith, started o))

-- after a parenthesis that follows a declarator, parameters stand
pub lengthens_inside : {d at : ℕ} {a e : Declarator} {t : Token} {j k : List Token} → Lengthens d at a e (t ∷ j) k → EndsDeclarator k → Is LEFT_PARENTHESIS t → 7 ≤ start j
lengthens_inside no_more z h = absurd (omega (arith, started h))
lengthens_inside (an_array o s c l) z h = absurd (omega (arith, started o, started h))
lengthens_inside (a_function o s c l) z h = (params_begin s).0

-- a declarator without a pointer at its front begins with no word of specifiers and no *
pub direct_begins : {d at : ℕ} {a e : Declarator} {i j k : List Token} → ReadsCore d a i j → Lengthens d at a e j k → EndsDeclarator k → (start i ≤ 6) × (start i ≡ 2 → ⊥)
direct_begins (a_declared n) l z = (omega (arith, started_name n.name), λ q. omega (arith, started_name n.name))
direct_begins (declarator_in_parentheses o r h c) l z = (omega (arith, started o), λ q. omega (arith, started o))
direct_begins no_core l z = let v = lengthens_begin l z in (v.0, v.2)

-- a declarator ends specifiers, if what follows it ends it
pub declares_ends_spec : {d : ℕ} {e : Declarator} {i j : List Token} → Declares d e i j → EndsDeclarator j → EndsSpec i
declares_ends_spec (a_pointer h c r) z = omega (arith, started h)
declares_ends_spec (a_direct p c l) z = (direct_begins c l z).0

-- what is made of nothing and is more than nothing begins with [ or (
lengthens_there : {d at : ℕ} {a e : Declarator} {j k : List Token} → Lengthens d at a e j k → (IsThere a → ⊥) → IsThere e → start j ≤ 6
lengthens_there no_more n h = absurd (n h)
lengthens_there (an_array o s c l) n h = omega (arith, started o)
lengthens_there (a_function o s c l) n h = omega (arith, started o)

-- a declarator that is more than nothing begins with no word of specifiers
pub there_begins : {d : ℕ} {e : Declarator} {i j : List Token} → Declares d e i j → IsThere e → start i ≤ 6
there_begins (a_pointer h c r) n = omega (arith, started h)
there_begins (a_direct p (a_declared m) l) n = omega (arith, started_name m.name)
there_begins (a_direct p (declarator_in_parentheses o r h c) l) n = omega (arith, started o)
there_begins (a_direct p no_core l) n = lengthens_there l (λ h. h) n

-- a declarator with a name ends specifiers
pub named_ends_spec : {d : ℕ} {e : Declarator} {i j : List Token} → Declares d e i j → HasName e → EndsSpec i
named_ends_spec (a_pointer h c r) n = omega (arith, started h)
named_ends_spec (a_direct p (a_declared m) l) n = omega (arith, started_name m.name)
named_ends_spec (a_direct p (declarator_in_parentheses o r h c) l) n = omega (arith, started o)
named_ends_spec (a_direct p no_core l) n = absurd (lengthened_name l n)

-- where a declarator ends, nothing is declared
pub nothing_stands : {d : ℕ} {e : Declarator} {i j : List Token} → Declares d e i j → EndsDeclarator i → (e ≡ nothing) × (i ≡ j)
nothing_stands (a_pointer h c r) z = absurd (omega (arith, started h))
nothing_stands (a_direct p (a_declared m) l) z = absurd (omega (arith, started_name m.name))
nothing_stands (a_direct p (declarator_in_parentheses o r h c) l) z = absurd (omega (arith, started o))
nothing_stands (a_direct p no_core no_more) z = (refl, refl)
nothing_stands (a_direct p no_core (an_array o s c l)) z = absurd (omega (arith, started o))
nothing_stands (a_direct p no_core (a_function o s c l)) z = absurd (omega (arith, started o))
