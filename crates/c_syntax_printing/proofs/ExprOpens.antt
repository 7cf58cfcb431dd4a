-- Where expressions open past the limits (C99 6.5).
use Rattle.std.proofs.Common.{◌≡◌, ◌⊎◌, inl, inr, ◌≤◌, Bool, zero, suc, ◌-◌, List, ◌∷◌, refl, sym, ◌∙◌, subst, arith, ℕ, []}
use Rattle.c_lexer.specs.declared.token.Token.{Token}
use Rattle.c_lexer.specs.declared.punctuator.TheConstants.{LEFT_PARENTHESIS, RIGHT_PARENTHESIS, RIGHT_BRACKET, LEFT_BRACKET, QUESTION, COLON, COMMA}
use Rattle.c_lexer.specs.declared.keyword.TheConstants.{SIZEOF, INT}
use Rattle.c_syntax.specs.Tree.{Infix, Access, Postfix, Prefix, sizeof, Expr, a_name, index, call, member, postfix, prefix, unary, cast, sizeof_type, binary, assign, conditional, comma, no_exprs, more_exprs, TypeName}
use Rattle.c_syntax.specs.Tokens.{Is, IsKeyword, IsNameToken, IsInt, IsStr, IsUnary, IsPrefix, IsAccess, IsPostfix, IsInfix, code_of_infix, IsAssignment, place}
use Rattle.c_syntax.specs.Specifiers.{no_const, is_int}
use Rattle.c_syntax.specs.Grammar.Reads.{is_int as int_stands}
use Rattle.c_syntax.specs.Grammar.{Level, primary_level, postfix_level, unary_level, cast_level, binary_level, conditional_level, assignment_level, expression_level}
use Rattle.c_syntax.specs.Grammar.{Reads, is_name, are_strings, last_string, in_parentheses, with_suffixes, no_prefix, a_prefix, a_unary, a_sizeof_type, no_cast, a_cast, no_chain, a_chain, no_choice, a_choice, no_assignment, an_assignment, no_comma, a_comma}
use Rattle.c_syntax.specs.Grammar.{last_expr, next_expr, Suffixes, no_suffix, an_index, an_empty_call, a_call, a_member, a_postfix, Chain, no_operator, an_operator, ReadsType, a_type, a_direct, no_core, no_more}
use Rattle.c_syntax_printing.specs.Twins.{On}
use Rattle.c_syntax_printing.proofs.FrameGrammar.{reads_on, type_on}
use Rattle.c_syntax_printing.proofs.MorePairs.{wide, wide_type}
use Rattle.c_syntax_printing.specs.Nodes.{InExpr, expr_here, in_comma, in_sizeof, in_cast_type, in_cast, in_called, in_arguments, in_member, in_postfix, in_prefix, in_unary, in_indexed, in_index, in_left, in_right, in_assigned, in_value, in_test, in_yes, in_first_expr, in_later_expr}
use Rattle.c_syntax_printing.specs.Pairs.{PairInChain}
use Rattle.c_syntax_printing.specs.Opens.{Opens, DeepExpr, DeepExprs, DeepType, Filled, DeepSuffixes}
use Rattle.c_syntax_printing.proofs.Combine.{climb}
use Rattle.c_syntax_printing.proofs.OneOperand.{moved_suffixes}
use Rattle.c_syntax_printing.proofs.OneChain.{moved_chain}
use Rattle.c_syntax_printing.proofs.Opening.{opens_as, opens_under, opens_here, opens_past, opens_before, opens_token}
use Rattle.c_syntax_printing.proofs.Fills.{name_unary, name_token, punctuator, word, name_chain, name_chooses, name_reads}
pub use Rattle.std.proofs.Math.Logic.{⊎_map as either}

abbrev pub close_paren : Token
close_paren = punctuator RIGHT_PARENTHESIS (omega arith)

-- to levels that bind less

pub postfix_opens : {at p n : ℕ} {i r : List Token} → Opens (DeepExpr at p n primary_level) i r → Opens (DeepExpr at p n postfix_level) i r
postfix_opens o = opens_as (λ k m a. record { tree = a.tree; reads = with_suffixes refl a.reads no_suffix; deep = either (λ x. x) (λ y. inl y) a.deep }) o

pub unary_opens : {at p n : ℕ} {i r : List Token} → Opens (DeepExpr at p n postfix_level) i r → Opens (DeepExpr at p n unary_level) i r
unary_opens o = opens_as (λ k m a. record { tree = a.tree; reads = no_prefix a.reads; deep = a.deep }) o

pub cast_opens : {at p n : ℕ} {i r : List Token} → Opens (DeepExpr at p n unary_level) i r → Opens (DeepExpr at p n cast_level) i r
cast_opens o = opens_as (λ k m a. record { tree = a.tree; reads = no_cast a.reads; deep = a.deep }) o

chain_starts : {at p n : ℕ} {i r : List Token} (l : ℕ) → Opens (DeepExpr at p n (binary_level l)) i r → Opens (DeepExpr at p n (binary_level (suc l))) i r
chain_starts l o = opens_as (λ k m a. record { tree = a.tree; reads = a_chain refl a.reads no_operator; deep = either (λ x. x) (λ y. inl y) a.deep }) o

pub first_operand_opens : {at p n : ℕ} {i r : List Token} (l : ℕ) → Opens (DeepExpr at p n cast_level) i r → Opens (DeepExpr at p n (binary_level l)) i r
first_operand_opens zero o = opens_as (λ k m a. record { tree = a.tree; reads = no_chain a.reads; deep = a.deep }) o
first_operand_opens (suc l) o = chain_starts l (first_operand_opens l o)

pub level_up_opens : {at p n : ℕ} {i r : List Token} (l m : ℕ) → l ≤ m → Opens (DeepExpr at p n (binary_level l)) i r → Opens (DeepExpr at p n (binary_level m)) i r
level_up_opens {at} {p} {n} {i} {r} l m g o = climb {P = λ z. Opens (DeepExpr at p n (binary_level z)) i r} (λ k a. chain_starts k a) (m - l) l m (omega (arith, g)) o

pub test_opens : {at p n : ℕ} {i r : List Token} → Opens (DeepExpr at p n (binary_level 10)) i r → Opens (DeepExpr at p n conditional_level) i r
test_opens o = opens_as (λ k m a. record { tree = a.tree; reads = no_choice a.reads; deep = a.deep }) o

pub value_opens : {at p n : ℕ} {i r : List Token} → Opens (DeepExpr at p n conditional_level) i r → Opens (DeepExpr at p n assignment_level) i r
value_opens o = opens_as (λ k m a. record { tree = a.tree; reads = no_assignment a.reads; deep = a.deep }) o

pub comma_first_opens : {at p n : ℕ} {i r : List Token} → Opens (DeepExpr at p n assignment_level) i r → Opens (DeepExpr at p n expression_level) i r
comma_first_opens o = opens_as (λ k m a. record { tree = a.tree; reads = no_comma a.reads; deep = a.deep }) o

-- primary expressions (6.5.1)

-- a name, a constant or a string for which no node is left
pub name_too_deep : {p : ℕ} {name : List ℕ} {t : Token} {i : List Token} → IsNameToken name t → Opens (DeepExpr t.from p 0 primary_level) (t ∷ i) (t ∷ i)
name_too_deep h = opens_here (λ m. record { tokens = m; reads = record { tree = _; reads = is_name h; deep = inl (expr_here refl) } })

pub int_too_deep : {p n : ℕ} {t : Token} {i : List Token} {u : Bool} → IsInt n u t → Opens (DeepExpr t.from p 0 primary_level) (t ∷ i) (t ∷ i)
int_too_deep h = opens_here (λ m. record { tokens = m; reads = record { tree = _; reads = int_stands h; deep = inl (expr_here refl) } })

pub string_too_deep : {p : ℕ} {bytes : List ℕ} {t : Token} {i : List Token} → IsStr bytes t → Opens (DeepExpr t.from p 0 primary_level) (t ∷ i) (t ∷ i)
string_too_deep h = opens_here (λ m. record { tokens = m; reads = record { tree = _; reads = are_strings refl (last_string h); deep = inl (expr_here refl) } })

-- an expression in parentheses
pub parentheses_open : {at p n : ℕ} {t : Token} {i r : List Token} → Is LEFT_PARENTHESIS t → Opens (DeepExpr at p n expression_level) i r → Opens (DeepExpr at (suc p) n primary_level) (t ∷ i) r
parentheses_open {p = p} h o =
    opens_token (opens_before o (λ m. record {
      tokens = close_paren ∷ m;
      reads = λ k a. record { tree = a.tree; reads = in_parentheses h a.reads (record { kind = refl }); deep = either (λ x. x) (λ y. inr (p, refl, y)) a.deep };
    }))

-- a parenthesis for which no pair is left, where an expression begins behind it
pub pair_too_deep : {n : ℕ} {t u : Token} {i : List Token} → Is LEFT_PARENTHESIS t → ((m : List Token) → Filled (λ k j. (e : Expr) × Reads 0 expression_level e (u ∷ k) j) m) → Opens (DeepExpr t.from 0 n primary_level) (t ∷ u ∷ i) (u ∷ i)
pair_too_deep h f =
    opens_token (opens_before (opens_here {A = λ k j. (e : Expr) × Reads 0 expression_level e k j} f) (λ m. record {
      tokens = close_paren ∷ m;
      reads = λ k a. record { tree = a.0; reads = in_parentheses h a.1 (record { kind = refl }); deep = inr (inl (refl, refl)) };
    }))

-- unary and cast expressions (6.5.3, 6.5.4)

pub step_opens : {at p n : ℕ} {t : Token} {i r : List Token} (s : Prefix) → IsPrefix s t → Opens (DeepExpr at p n unary_level) i r → Opens (DeepExpr at p (suc n) unary_level) (t ∷ i) r
step_opens s h o = opens_under (λ k m a. record { tree = prefix _ s a.tree; reads = a_prefix {p = s} h a.reads; deep = either in_prefix (λ y. y) a.deep }) o

pub operator_opens : {at p n op : ℕ} {t : Token} {i r : List Token} → Is op t → IsUnary op → Opens (DeepExpr at p n cast_level) i r → Opens (DeepExpr at p (suc n) unary_level) (t ∷ i) r
operator_opens h u o = opens_under (λ k m a. record { tree = unary _ _ a.tree; reads = a_unary h u a.reads; deep = either in_unary (λ y. y) a.deep }) o

-- an operator for which no node is left
pub step_too_deep : {p : ℕ} {t : Token} {i : List Token} (s : Prefix) → IsPrefix s t → Opens (DeepExpr t.from p 0 unary_level) (t ∷ i) (t ∷ i)
step_too_deep s h = opens_here (λ m. record { tokens = name_token 0 ∷ m; reads = record { tree = prefix _ s _; reads = a_prefix {p = s} h (name_unary 0); deep = inl (expr_here refl) } })

pub operator_too_deep : {p op : ℕ} {t : Token} {i : List Token} → Is op t → IsUnary op → Opens (DeepExpr t.from p 0 unary_level) (t ∷ i) (t ∷ i)
operator_too_deep h u = opens_here (λ m. record { tokens = name_token 0 ∷ m; reads = record { tree = unary _ _ _; reads = a_unary h u (no_cast (name_unary 0)); deep = inl (expr_here refl) } })

-- the name of a type, the parenthesis and the operand
pub cast_too_deep : {p : ℕ} {t : Token} {i : List Token} → Is LEFT_PARENTHESIS t → Opens (DeepExpr t.from p 0 cast_level) (t ∷ i) (t ∷ i)
cast_too_deep h = opens_here (λ m. record {
  tokens = word INT (omega arith) ∷ close_paren ∷ name_token 0 ∷ m;
  reads = record {
    tree = cast _ _ _;
    reads = a_cast h (a_type refl (is_int no_const (record { kind = refl }) no_const) (a_direct refl no_core no_more) tt) (record { kind = refl }) (no_cast (name_unary 0));
    deep = inl (expr_here refl);
  };
})

pub sizeof_too_deep : {p : ℕ} {t : Token} {i : List Token} → IsKeyword SIZEOF t → Opens (DeepExpr t.from p 0 unary_level) (t ∷ i) (t ∷ i)
sizeof_too_deep h = step_too_deep sizeof h

pub sizeof_operand_opens : {at p n : ℕ} {t : Token} {i r : List Token} → IsKeyword SIZEOF t → Opens (DeepExpr at p n unary_level) i r → Opens (DeepExpr at p (suc n) unary_level) (t ∷ i) r
sizeof_operand_opens h o = step_opens sizeof h o

-- the name of a type in a cast
pub cast_type_opens : {at p n : ℕ} {t : Token} {i r : List Token} → Is LEFT_PARENTHESIS t → Opens (DeepType at p n) i r → Opens (DeepExpr at p (suc n) cast_level) (t ∷ i) r
cast_type_opens h o =
    opens_token (opens_before o (λ m. record {
      tokens = close_paren ∷ name_token 0 ∷ m;
      reads = λ k a. record { tree = cast _ a.tree _; reads = a_cast h a.reads (record { kind = refl }) (no_cast (name_unary 0)); deep = either in_cast_type (λ y. inl y) a.deep };
    }))

-- the name of a type after `sizeof`
pub sizeof_type_opens : {at p n : ℕ} {t u : Token} {i r : List Token} → IsKeyword SIZEOF t → Is LEFT_PARENTHESIS u → Opens (DeepType at p n) i r → Opens (DeepExpr at p (suc n) unary_level) (t ∷ u ∷ i) r
sizeof_type_opens w h o =
    opens_token (opens_token (opens_before o (λ m. record {
      tokens = close_paren ∷ m;
      reads = λ k a. record { tree = sizeof_type _ a.tree; reads = a_sizeof_type w h a.reads (record { kind = refl }); deep = either in_sizeof (λ y. y) a.deep };
    })))

-- the operand of a cast
pub cast_operand_opens : {at p n d : ℕ} {y : TypeName} {t u : Token} {i j r : List Token} → d ≤ suc p → Is LEFT_PARENTHESIS t → ReadsType d y i (u ∷ j) → Is RIGHT_PARENTHESIS u → Opens (DeepExpr at p n cast_level) j r → Opens (DeepExpr at p (suc n) cast_level) (t ∷ i) r
cast_operand_opens {y = y} l h w c o =
    opens_token (opens_past (type_on (wide_type w l)) (opens_under (λ k m a l x. record { tree = cast _ y a.tree; reads = a_cast h x c a.reads; deep = either in_cast (λ z. inr z) a.deep }) o))

-- postfix expressions (6.5.2)

-- a reading that begins at the place
pub record Placed (q d : ℕ) (l : Level) (e : Expr) (i j : List Token) : Type 0 where
  pub reads : Reads d l e i j
  pub begins : q ≡ place i

pub placed_on : {d x : ℕ} {l : Level} {e : Expr} {i j : List Token} → Reads d l e i j → d ≤ x → (k : List Token) → On (Placed (place i) x l e) i j k
placed_on r l k = let x = reads_on (wide r l) k in record { tokens = x.tokens; twin = x.twin; reads = record { reads = x.reads; begins = x.same } }

-- more suffixes before those that open
suffixes_grow : {at p n q : ℕ} {a e : Expr} {i j k : List Token} → Suffixes (suc p) q a e i j → DeepSuffixes at p n q e j k → DeepSuffixes at p n q a i k
suffixes_grow no_suffix w = w
suffixes_grow (an_index o r c v) w = let y = suffixes_grow v w in record { tree = y.tree; reads = an_index o r c y.reads; deep = either (λ x. x) (λ z. inr z) y.deep }
suffixes_grow (an_empty_call o c v) w = let y = suffixes_grow v w in record { tree = y.tree; reads = an_empty_call o c y.reads; deep = y.deep }
suffixes_grow (a_call o r c v) w = let y = suffixes_grow v w in record { tree = y.tree; reads = a_call o r c y.reads; deep = either (λ x. x) (λ z. inr z) y.deep }
suffixes_grow (a_member h m v) w = let y = suffixes_grow v w in record { tree = y.tree; reads = a_member h m y.reads; deep = y.deep }
suffixes_grow (a_postfix h v) w = let y = suffixes_grow v w in record { tree = y.tree; reads = a_postfix h y.reads; deep = y.deep }

suffixed_deep : {at p n q : ℕ} {a : Expr} {i j k : List Token} → Reads (suc p) postfix_level a i j → q ≡ place i → DeepSuffixes at p n q a j k → DeepExpr at p n postfix_level i k
suffixed_deep (with_suffixes u r c) b w =
    let y = suffixes_grow (moved_suffixes (b ∙ sym u) refl refl c) w in
    record { tree = y.tree; reads = with_suffixes b r y.reads; deep = either (λ x. x) (λ z. inr z) y.deep }

-- what follows an operand with its suffixes so far
pub suffixes_open : {at p n d : ℕ} {a : Expr} {i j r : List Token} → d ≤ suc p → Reads d postfix_level a i j → Opens (DeepSuffixes at p n (place i) a) j r → Opens (DeepExpr at p n postfix_level) i r
suffixes_open l w o = opens_past (placed_on w l) (opens_as (λ k m c h b. suffixed_deep b.reads b.begins c) o)

abbrev pub close_bracket : Token
close_bracket = punctuator RIGHT_BRACKET (omega arith)

pub index_opens : {at p n q : ℕ} {a : Expr} {t : Token} {i r : List Token} → Is LEFT_BRACKET t → Opens (DeepExpr at p n expression_level) i r → Opens (DeepSuffixes at p (suc n) q a) (t ∷ i) r
index_opens {q = q} {a} h o =
    opens_token (opens_before o (λ m. record { tokens = close_bracket ∷ m; reads = λ k b. record { tree = index q a b.tree; reads = an_index h b.reads (record { kind = refl }) no_suffix; deep = either in_index (λ y. inl y) b.deep } }))

pub arguments_open : {at p n q : ℕ} {a : Expr} {t : Token} {i r : List Token} → Is LEFT_PARENTHESIS t → Opens (DeepExprs at p n) i r → Opens (DeepSuffixes at p (suc n) q a) (t ∷ i) r
arguments_open {q = q} {a} h o =
    opens_token (opens_before o (λ m. record { tokens = close_paren ∷ m; reads = λ k b. record { tree = call q a b.trees; reads = a_call h b.reads (record { kind = refl }) no_suffix; deep = either in_arguments (λ y. inl y) b.deep } }))

-- an operand with a node of the greatest depth at the place, and one suffix more

pub index_too_high : {at p n q : ℕ} {a : Expr} {t : Token} {i : List Token} → Is LEFT_BRACKET t → InExpr at n a → Opens (DeepSuffixes at p n q a) (t ∷ i) (t ∷ i)
index_too_high {q = q} {a = a} h x = opens_here (λ m. record { tokens = name_token 0 ∷ close_bracket ∷ m; reads = record { tree = index q a _; reads = an_index h (no_comma (name_reads 0)) (record { kind = refl }) no_suffix; deep = inl (in_indexed x) } })

pub call_too_high : {at p n q : ℕ} {a : Expr} {t : Token} {i : List Token} → Is LEFT_PARENTHESIS t → InExpr at n a → Opens (DeepSuffixes at p n q a) (t ∷ i) (t ∷ i)
call_too_high {q = q} {a = a} h x = opens_here (λ m. record { tokens = close_paren ∷ m; reads = record { tree = call q a no_exprs; reads = an_empty_call h (record { kind = refl }) no_suffix; deep = inl (in_called x) } })

pub member_too_high : {at p n q : ℕ} {a : Expr} {t : Token} {i : List Token} (y : Access) → IsAccess y t → InExpr at n a → Opens (DeepSuffixes at p n q a) (t ∷ i) (t ∷ i)
member_too_high {q = q} {a = a} y h x = opens_here (λ m. record {
  tokens = name_token 0 ∷ m;
  reads = record { tree = member q y a (record { name = 115 ∷ []; at = 0 }); reads = a_member {access = y} h (record { name = record { kind = refl }; at = refl }) no_suffix; deep = inl (in_member x) };
})

pub postfix_too_high : {at p n q : ℕ} {a : Expr} {t : Token} {i : List Token} (y : Postfix) → IsPostfix y t → InExpr at n a → Opens (DeepSuffixes at p n q a) (t ∷ i) (t ∷ i)
postfix_too_high {q = q} {a = a} y h x = opens_here (λ m. record { tokens = m; reads = record { tree = postfix q y a; reads = a_postfix {p = y} h no_suffix; deep = inl (in_postfix x) } })

-- binary operators (6.5.5 to 6.5.14)

record DeepChain (at p n l q : ℕ) (a : Expr) (i j : List Token) : Type 0 where
  tree : Expr
  reads : Chain (suc p) l q a tree i j
  deep : InExpr at (suc n) tree ⊎ PairInChain at reads p

-- more operators before those that open
chain_grow : {at p n l q : ℕ} {a e : Expr} {i j k : List Token} → Chain (suc p) l q a e i j → DeepChain at p n l q e j k → DeepChain at p n l q a i k
chain_grow no_operator w = w
chain_grow (an_operator h c r v) w = let y = chain_grow v w in record { tree = y.tree; reads = an_operator h c r y.reads; deep = either (λ x. x) (λ z. inr z) y.deep }

chained_deep : {at p n l q : ℕ} {a : Expr} {i j k : List Token} → Reads (suc p) (binary_level (suc l)) a i j → q ≡ place i → DeepChain at p n l q a j k → DeepExpr at p n (binary_level (suc l)) i k
chained_deep (a_chain u r c) b w =
    let y = chain_grow (moved_chain (b ∙ sym u) refl refl c) w in
    record { tree = y.tree; reads = a_chain b r y.reads; deep = either (λ x. x) (λ z. inr z) y.deep }

chain_opens : {at p n d l : ℕ} {a : Expr} {i j r : List Token} → d ≤ suc p → Reads d (binary_level (suc l)) a i j → Opens (DeepChain at p n l (place i) a) j r → Opens (DeepExpr at p n (binary_level (suc l))) i r
chain_opens g w o = opens_past (placed_on w g) (opens_as (λ k m c h b. chained_deep b.reads b.begins c) o)

right_opens : {at p n l q : ℕ} {o : Infix} {a : Expr} {t : Token} {i r : List Token} → IsInfix o (suc l) → Is (code_of_infix o) t → Opens (DeepExpr at p n (binary_level l)) i r → Opens (DeepChain at p (suc n) l q a) (t ∷ i) r
right_opens {q = q} {o = o} {a = a} h c w = opens_under (λ k m b. record { tree = binary q o a b.tree; reads = an_operator h c b.reads no_operator; deep = either in_right (λ y. inl y) b.deep }) w

left_too_high : {at p n l q : ℕ} {o : Infix} {a : Expr} {t : Token} {i : List Token} → IsInfix o (suc l) → Is (code_of_infix o) t → InExpr at n a → Opens (DeepChain at p n l q a) (t ∷ i) (t ∷ i)
left_too_high {l = l} {q = q} {o = o} {a = a} h c x = opens_here (λ m. record { tokens = name_token 0 ∷ m; reads = record { tree = binary q o a _; reads = an_operator h c (name_chain 0 l) no_operator; deep = inl (in_left x) } })

-- an operator between two operands, of which the right one opens
pub operator_opens_right : {at p n d : ℕ} (o : Infix) (l most : ℕ) {a : Expr} {t : Token} {i k r : List Token} → d ≤ suc p → IsInfix o l → 1 ≤ l → l ≤ most → Is (code_of_infix o) t → Reads d (binary_level l) a i (t ∷ k) → Opens (DeepExpr at p n (binary_level (l - 1))) k r → Opens (DeepExpr at p (suc n) (binary_level most)) i r
operator_opens_right o zero most g h l m c w v = absurd (omega (arith, l))
operator_opens_right {at} {p} {n} o (suc l) most {k = k} {r = r} g h z m c w v =
    let e : suc l - 1 ≡ l = omega arith in
    let u : Opens (DeepExpr at p n (binary_level l)) k r = subst (λ y. Opens (DeepExpr at p n (binary_level y)) k r) e v in
    level_up_opens (suc l) most m (chain_opens g w (right_opens h c u))

-- the left operand has a node of the greatest depth
pub operator_opens_left : {at p n d : ℕ} (o : Infix) (l most : ℕ) {a : Expr} {t : Token} {i k : List Token} → d ≤ suc p → IsInfix o l → 1 ≤ l → l ≤ most → Is (code_of_infix o) t → Reads d (binary_level l) a i (t ∷ k) → InExpr at n a → Opens (DeepExpr at p n (binary_level most)) i (t ∷ k)
operator_opens_left o zero most g h l m c w x = absurd (omega (arith, l))
operator_opens_left o (suc l) most g h z m c w x = level_up_opens (suc l) most m (chain_opens g w (left_too_high h c x))

-- conditional expressions (6.5.15)

abbrev pub colon : Token
colon = punctuator COLON (omega arith)

pub yes_opens : {at p n d : ℕ} {a : Expr} {t : Token} {i j r : List Token} → d ≤ suc p → Is QUESTION t → Reads d (binary_level 10) a i (t ∷ j) → Opens (DeepExpr at p n expression_level) j r → Opens (DeepExpr at p (suc n) conditional_level) i r
yes_opens {a = a} {i = i} g h w o =
    opens_past (placed_on w g) (opens_token (opens_before o (λ m. record {
      tokens = colon ∷ name_token 0 ∷ m;
      reads = λ k y l b. record { tree = conditional (place i) a y.tree _; reads = a_choice b.begins b.reads h y.reads (record { kind = refl }) (name_chooses 0); deep = either in_yes (λ v. inr (inl v)) y.deep };
    })))

pub test_too_high : {at p n d : ℕ} {a : Expr} {t : Token} {i j : List Token} → d ≤ suc p → Is QUESTION t → Reads d (binary_level 10) a i (t ∷ j) → InExpr at n a → Opens (DeepExpr at p n conditional_level) i (t ∷ j)
test_too_high {a = a} {i = i} g h w x =
    opens_past (placed_on w g) (opens_here (λ m. record {
      tokens = name_token 0 ∷ colon ∷ name_token 0 ∷ m;
      reads = λ l b. record { tree = conditional (place i) a _ _; reads = a_choice b.begins b.reads h (no_comma (name_reads 0)) (record { kind = refl }) (name_chooses 0); deep = inl (in_test x) };
    }))

-- assignment expressions (6.5.16)

pub assigned_value_opens : {at p n d op : ℕ} {a : Expr} {t : Token} {i j r : List Token} → d ≤ suc p → Is op t → IsAssignment op → Reads d unary_level a i (t ∷ j) → Opens (DeepExpr at p n assignment_level) j r → Opens (DeepExpr at p (suc n) assignment_level) i r
assigned_value_opens {op = op} {a = a} {i = i} g h u w o =
    opens_past (placed_on w g) (opens_under (λ k m y l b. record { tree = assign (place i) op a y.tree; reads = an_assignment b.begins b.reads h u y.reads; deep = either in_value (λ v. inr v) y.deep }) o)

pub assigned_too_deep : {at p n d op : ℕ} {a : Expr} {t : Token} {i j : List Token} → d ≤ suc p → Is op t → IsAssignment op → Reads d unary_level a i (t ∷ j) → InExpr at n a → Opens (DeepExpr at p n assignment_level) i (t ∷ j)
assigned_too_deep {op = op} {a = a} {i = i} g h u w x =
    opens_past (placed_on w g) (opens_here (λ m. record {
      tokens = name_token 0 ∷ m;
      reads = λ l b. record { tree = assign (place i) op a _; reads = an_assignment b.begins b.reads h u (name_reads 0); deep = inl (in_assigned x) };
    }))

-- lists, and expressions with commas (6.5.17)

pub first_of_list_opens : {at p n : ℕ} {i r : List Token} → Opens (DeepExpr at p n assignment_level) i r → Opens (DeepExprs at p n) i r
first_of_list_opens o = opens_as (λ k m a. record { trees = more_exprs a.tree no_exprs; reads = last_expr a.reads; deep = either in_first_expr (λ y. y) a.deep }) o

pub later_of_list_opens : {at p n d : ℕ} {a : Expr} {t : Token} {i j r : List Token} → d ≤ suc p → Is COMMA t → Reads d assignment_level a i (t ∷ j) → Opens (DeepExprs at p n) j r → Opens (DeepExprs at p n) i r
later_of_list_opens {a = a} g h w o =
    opens_past (placed_on w g) (opens_under (λ k m y l b. record { trees = more_exprs a y.trees; reads = next_expr b.reads h y.reads; deep = either in_later_expr (λ v. inr v) y.deep }) o)

pub comma_opens : {at p n d : ℕ} {a : Expr} {t : Token} {i j r : List Token} → d ≤ suc p → Is COMMA t → Reads d assignment_level a i (t ∷ j) → Opens (DeepExprs at p n) j r → Opens (DeepExpr at p (suc n) expression_level) i r
comma_opens {a = a} {i = i} g h w o =
    opens_past (placed_on w g)
    (opens_under (λ k m y l b. record { tree = comma (place i) (more_exprs a y.trees); reads = a_comma b.begins b.reads h y.reads; deep = either (λ x. in_comma (in_later_expr x)) (λ v. inr v) y.deep }) o)

pub comma_too_deep : {at p n d : ℕ} {a : Expr} {t : Token} {i j : List Token} → d ≤ suc p → Is COMMA t → Reads d assignment_level a i (t ∷ j) → InExpr at n a → Opens (DeepExpr at p n expression_level) i (t ∷ j)
comma_too_deep {a = a} {i = i} g h w x =
    opens_past (placed_on w g) (opens_here (λ m. record {
      tokens = name_token 0 ∷ m;
      reads = λ l b. record { tree = comma (place i) (more_exprs a (more_exprs (a_name 0 (115 ∷ [])) no_exprs)); reads = a_comma b.begins b.reads h (last_expr (name_reads 0)); deep = inl (in_comma (in_first_expr x)) };
    }))
