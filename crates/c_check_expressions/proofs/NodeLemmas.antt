-- What each form of an expression gives and counts, by its parts in Rust.
use Rattle.std.proofs.Common.{◌≡◌, ◌⊎◌, inl, inr, ℕ, ℤ, Bool, ◌+◌, suc, List, [], ◌∷◌, ◌++◌, Vec, Global, refl, ap, sym, ◌∙◌, arith, append_assoc, append-nil}
use Rattle.std.specs.Prelude.{Box}
use Rattle.c_syntax.specs.declared.tree.Expr.{Expr as ExprTree}
use Rattle.c_syntax.specs.declared.tree.Ident.{Ident as Named}
use Rattle.c_syntax.specs.declared.tree.TypeName.{TypeName as TypeTree}
use Rattle.c_syntax.specs.declared.tree.ExprKind.{ExprKind, Name}
use Rattle.c_syntax.specs.declared.tree.ExprKind.TheVariants as k
use Rattle.c_syntax.specs.View.{expr_of, expr_at}
use Rattle.c_syntax.specs.Writes.{exprs_of}
use Rattle.c_syntax.proofs.NodeRows.{comma_is, call_is}
use Rattle.c_rules.specs.Counts.{place_of, calls, strings, calls_of_all, strings_of_all, string_cells, past, after, after_designator}
use Rattle.c_rules.specs.Scopes.{Before}

-- ## Places

pub place_is : (at : ℕ) (kind : ExprKind) → place_of (expr_at at kind) ≡ at
place_is at (Name n) = refl
place_is at kind = refl

-- ## Counts

string_cells-append : (ws vs : List (List ℕ)) → string_cells (ws ++ vs) ≡ string_cells ws + string_cells vs
string_cells-append [] vs = omega arith
string_cells-append (w ∷ ws) vs = omega (arith, string_cells-append ws vs)

pub past_past : (b : Before) (m n : ℕ) (ws vs : List (List ℕ)) → past (past b m ws) n vs ≡ past b (m + n) (ws ++ vs)
past_past b m n ws vs =
    let s : (b.sites + m) + n ≡ b.sites + (m + n) = omega arith in
    let c : (b.cells + string_cells ws) + string_cells vs ≡ b.cells + string_cells (ws ++ vs) = omega (arith, string_cells-append ws vs) in
    λ i. record { sites = s i; strings = append_assoc b.strings ws vs i; cells = c i }

pub past_none : (b : Before) → past b 0 [] ≡ b
past_none b =
    let s : b.sites + 0 ≡ b.sites = omega arith in
    let c : b.cells + 0 ≡ b.cells = omega arith in
    λ i. record { sites = s i; strings = append-nil b.strings i; cells = c i }

-- ## What stands behind a node

-- behind two expressions, and behind three
pub after_pair : (b : Before) (x y : ExprTree) → past b (calls (expr_of x) + calls (expr_of y)) (strings (expr_of x) ++ strings (expr_of y)) ≡ after (after b (expr_of x)) (expr_of y)
after_pair b x y = sym (past_past b (calls (expr_of x)) (calls (expr_of y)) (strings (expr_of x)) (strings (expr_of y)))

pub after_triple : (b : Before) (x y z : ExprTree) → past b (calls (expr_of x) + (calls (expr_of y) + calls (expr_of z))) (strings (expr_of x) ++ (strings (expr_of y) ++ strings (expr_of z))) ≡ after (after (after b (expr_of x)) (expr_of y)) (expr_of z)
after_triple b x y z =
    sym (past_past b (calls (expr_of x)) (calls (expr_of y) + calls (expr_of z)) (strings (expr_of x)) (strings (expr_of y) ++ strings (expr_of z)))
    ∙ after_pair (after b (expr_of x)) y z

-- the forms with one operand that is evaluated
abbrev pub of_one_operand : ExprTree → (a : Box ExprTree Global) → Type 0
of_one_operand e a = ((x : Named) × (e.kind ≡ k.Member a x)) ⊎ (((x : Named) × (e.kind ≡ k.Arrow a x)) ⊎ ((e.kind ≡ k.PostInc a) ⊎ ((e.kind ≡ k.PostDec a) ⊎ ((e.kind ≡ k.PreInc a) ⊎ ((e.kind ≡ k.PreDec a) ⊎ ((op : ℕ) × (e.kind ≡ k.Unary op a)))))))

after_operand : (b : Before) (e : ExprTree) (a : Box ExprTree Global) → of_one_operand e a → after b (expr_of e) ≡ after b (expr_of a.value)
after_operand b e a (inl h) = ap (λ kind. after b (expr_at e.at kind)) h.1
after_operand b e a (inr (inl h)) = ap (λ kind. after b (expr_at e.at kind)) h.1
after_operand b e a (inr (inr (inl is))) = ap (λ kind. after b (expr_at e.at kind)) is
after_operand b e a (inr (inr (inr (inl is)))) = ap (λ kind. after b (expr_at e.at kind)) is
after_operand b e a (inr (inr (inr (inr (inl is))))) = ap (λ kind. after b (expr_at e.at kind)) is
after_operand b e a (inr (inr (inr (inr (inr (inl is)))))) = ap (λ kind. after b (expr_at e.at kind)) is
after_operand b e a (inr (inr (inr (inr (inr (inr h)))))) = ap (λ kind. after b (expr_at e.at kind)) h.1

pub after_one : (b : Before) (e : ExprTree) (a : Box ExprTree Global) (x : ExprTree) → of_one_operand e a → x ≡ a.value → after b (expr_of e) ≡ after b (expr_of x)
after_one b e a x form p = after_operand b e a form ∙ ap (λ y. after b (expr_of y)) (sym p)

pub after-Cast : (b : Before) (e : ExprTree) (t : TypeTree) (a : Box ExprTree Global) (x : ExprTree) → e.kind ≡ k.Cast t a → x ≡ a.value → after b (expr_of e) ≡ after b (expr_of x)
after-Cast b e t a x is p = ap (λ kind. after b (expr_at e.at kind)) is ∙ ap (λ y. after b (expr_of y)) (sym p)

-- the forms with two operands
abbrev pub of_two_operands : ExprTree → (l r : Box ExprTree Global) → Type 0
of_two_operands e l r = (e.kind ≡ k.Index l r) ⊎ ((e.kind ≡ k.And l r) ⊎ ((e.kind ≡ k.Or l r) ⊎ (((op : ℕ) × (e.kind ≡ k.Binary op l r)) ⊎ ((op : ℕ) × (e.kind ≡ k.Assign op l r)))))

after_operands : (b : Before) (e : ExprTree) (l r : Box ExprTree Global) → of_two_operands e l r → after b (expr_of e) ≡ past b (calls (expr_of l.value) + calls (expr_of r.value)) (strings (expr_of l.value) ++ strings (expr_of r.value))
after_operands b e l r (inl is) = ap (λ kind. after b (expr_at e.at kind)) is
after_operands b e l r (inr (inl is)) = ap (λ kind. after b (expr_at e.at kind)) is
after_operands b e l r (inr (inr (inl is))) = ap (λ kind. after b (expr_at e.at kind)) is
after_operands b e l r (inr (inr (inr (inl h)))) = ap (λ kind. after b (expr_at e.at kind)) h.1
after_operands b e l r (inr (inr (inr (inr h)))) = ap (λ kind. after b (expr_at e.at kind)) h.1

pub after_two : (b : Before) (e : ExprTree) (l r : Box ExprTree Global) (x y : ExprTree) → of_two_operands e l r → x ≡ l.value → y ≡ r.value → after b (expr_of e) ≡ after (after b (expr_of x)) (expr_of y)
after_two b e l r x y form p q =
    after_operands b e l r form ∙ ((λ i. past b (calls (expr_of (sym p i)) + calls (expr_of (sym q i))) (strings (expr_of (sym p i)) ++ strings (expr_of (sym q i)))) ∙ after_pair b x y)

-- behind a designator, a call and its arguments
after_call : (b : Before) (x : ExprTree) (es : List ExprTree) → past b (calls (expr_of x) + suc (calls_of_all (exprs_of es))) (strings (expr_of x) ++ strings_of_all (exprs_of es)) ≡ past (past (after b (expr_of x)) 1 []) (calls_of_all (exprs_of es)) (strings_of_all (exprs_of es))
after_call b x es =
    let n = calls_of_all (exprs_of es) in
    let ws = strings_of_all (exprs_of es) in
    let one : suc n ≡ 1 + n = omega arith in
    sym (past_past b (calls (expr_of x)) (suc n) (strings (expr_of x)) ws) ∙ ap (λ m. past (after b (expr_of x)) m ws) one ∙ sym (past_past (after b (expr_of x)) 1 n [] ws)

pub after-Cond : (b : Before) (e : ExprTree) (c l r : Box ExprTree Global) (x y z : ExprTree) → e.kind ≡ k.Cond c l r → x ≡ c.value → y ≡ l.value → z ≡ r.value → after b (expr_of e) ≡ after (after (after b (expr_of x)) (expr_of y)) (expr_of z)
after-Cond b e c l r x y z is p q s =
    ap (λ kind. after b (expr_at e.at kind)) is
    ∙ ((λ i. past b (calls (expr_of (sym p i)) + (calls (expr_of (sym q i)) + calls (expr_of (sym s i)))) (strings (expr_of (sym p i)) ++ (strings (expr_of (sym q i)) ++ strings (expr_of (sym s i)))))
    ∙ after_triple b x y z)

pub after-Name : (b : Before) (e : ExprTree) (n : List ℕ) → e.kind ≡ k.Name n → after b (expr_of e) ≡ b
after-Name b e n is = ap (λ kind. after b (expr_at e.at kind)) is ∙ past_none b

pub after-Int : (b : Before) (e : ExprTree) (v : ℕ) (u : Bool) → e.kind ≡ k.Int v u → after b (expr_of e) ≡ b
after-Int b e v u is = ap (λ kind. after b (expr_at e.at kind)) is ∙ past_none b

pub after-Char : (b : Before) (e : ExprTree) (c : ℤ) → e.kind ≡ k.Char c → after b (expr_of e) ≡ b
after-Char b e c is = ap (λ kind. after b (expr_at e.at kind)) is ∙ past_none b

pub after-SizeofType : (b : Before) (e : ExprTree) (t : TypeTree) → e.kind ≡ k.SizeofType t → after b (expr_of e) ≡ b
after-SizeofType b e t is = ap (λ kind. after b (expr_at e.at kind)) is ∙ past_none b

pub after-SizeofExpr : (b : Before) (e : ExprTree) (a : Box ExprTree Global) → e.kind ≡ k.SizeofExpr a → after b (expr_of e) ≡ b
after-SizeofExpr b e a is = ap (λ kind. after b (expr_at e.at kind)) is ∙ past_none b

pub after-Str : (b : Before) (e : ExprTree) (w : List ℕ) → e.kind ≡ k.Str w → after b (expr_of e) ≡ past b 0 (w ∷ [])
after-Str b e w is = ap (λ kind. after b (expr_at e.at kind)) is

pub after-Comma : (b : Before) (e : ExprTree) (v : Vec ExprTree Global) (es : List ExprTree) → e.kind ≡ k.Comma v → es ≡ v.items → after b (expr_of e) ≡ past b (calls_of_all (exprs_of es)) (strings_of_all (exprs_of es))
after-Comma b e v es is p =
    ap (λ kind. after b (expr_at e.at kind)) is ∙ (ap (after b) (comma_is e.at v) ∙ ap (λ l. past b (calls_of_all (exprs_of l)) (strings_of_all (exprs_of l))) (sym p))

-- behind a call: its designator, the call itself, and its arguments
pub after-Call : (b : Before) (e : ExprTree) (d : Box ExprTree Global) (v : Vec ExprTree Global) (x : ExprTree) (es : List ExprTree) → e.kind ≡ k.Call d v → x ≡ d.value → es ≡ v.items → after b (expr_of e) ≡ past (past (after b (expr_of x)) 1 []) (calls_of_all (exprs_of es)) (strings_of_all (exprs_of es))
after-Call b e d v x es is p q =
    ap (λ kind. after b (expr_at e.at kind)) is
    ∙ (ap (after b) (call_is e.at d v) ∙ ((λ i. past b (calls (expr_of (sym p i)) + suc (calls_of_all (exprs_of (sym q i)))) (strings (expr_of (sym p i)) ++ strings_of_all (exprs_of (sym q i)))) ∙ after_call b x es))

-- ## What the code counts

-- behind a designator and the call itself
pub past_designator : (b : Before) (x : ExprTree) → past (after b (expr_of x)) 1 [] ≡ after_designator b (expr_of x)
past_designator b x =
    let s : (b.sites + calls (expr_of x)) + 1 ≡ b.sites + suc (calls (expr_of x)) = omega arith in
    let c : (b.cells + string_cells (strings (expr_of x))) + 0 ≡ b.cells + string_cells (strings (expr_of x)) = omega arith in
    λ i. record { sites = s i; strings = append-nil (b.strings ++ strings (expr_of x)) i; cells = c i }
