-- What is counted in an expression with null calls round its marked calls: strings, calls, tags of structs and how deep its nodes stand in each other.
use Rattle.std.proofs.Common.{◌≡◌, ℕ, suc, ◌+◌, ◌≤◌, max, Bool, true, false, List, [], ◌++◌, append_assoc, Option, None, Some, refl, ap, ap₂, sym, ◌∙◌, arith}
use Rattle.c_tree.specs.Tree.{CType}
use Rattle.c_syntax.specs.Tree.{Expr, a_name, comma, cast, call, member, postfix, prefix, unary, index, binary, assign, conditional, Exprs, no_exprs, more_exprs}
use Rattle.c_syntax.specs.Tree.{pre_increment, pre_decrement}
use Rattle.c_syntax.specs.Limits.{height, height_of_exprs, height_of_type}
use Rattle.c_rules.specs.Names.{Name}
use Rattle.c_rules.specs.Counts.{calls, calls_of_all, strings, strings_of_all, string_cells}
use Rattle.c_rules.specs.Tags.{tags_of_expr, tags_of_exprs, tags_of_type}
use Rattle.null_calls_laws.specs.MarkedCalls.{Called, Sites}
use Rattle.null_calls_laws.specs.Temporaries.{pre_name, is_kept}
use Rattle.null_calls_laws.specs.InstrumentedExpressions.{is_void_type, keep_designator, keep_arguments, kept_arguments, kept_designator, null_call, call_and_post, call_where, is_address_of_indirection, expr, arguments, members}
use Rattle.null_calls_laws.specs.Counts.{IsName, IsDesignator, AreNamed, AllNamed, ExpressionsCountAlike, PlacesStayNear}
use Rattle.null_calls_laws.proofs.Alike.{Alike, same, beside, behind, deeper, lower}
use Rattle.c_rules.proofs.NothingMore.{nothing_more}
pub use Rattle.c_rules.proofs.Below.{either_has as by_type}

-- ## A marked call

some_height : (x : Expr) → 1 ≤ height x
some_height (a_name at x) = omega arith
some_height x = omega arith

-- so much is counted in expressions
record Counted (es : Exprs) (s : List (List ℕ)) (g : List Name) (c h : ℕ) : Type 0 where
  listed : strings_of_all es ≡ s
  tagged : tags_of_exprs es ≡ g
  counted : calls_of_all es ≡ c
  low : height_of_exprs es ≤ h

arguments_counted : (at site i : ℕ) (es rest : Exprs)
    → Counted (keep_arguments at site i es rest) (strings_of_all es ++ strings_of_all rest) (tags_of_exprs es ++ tags_of_exprs rest) (calls_of_all es + calls_of_all rest) (max (suc (height_of_exprs es)) (height_of_exprs rest))
arguments_counted at site i no_exprs rest = record { listed = refl; tagged = refl; counted = omega arith; low = omega arith }
arguments_counted at site i (more_exprs e es) rest =
    let r = arguments_counted at site (suc i) es rest in
    record {
      listed = ap (λ ws. strings e ++ ws) r.listed ∙ sym (append_assoc (strings e) (strings_of_all es) (strings_of_all rest));
      tagged = ap (λ ws. tags_of_expr e ++ ws) r.tagged ∙ sym (append_assoc (tags_of_expr e) (tags_of_exprs es) (tags_of_exprs rest));
      counted = (let c = r.counted in omega (arith, c));
      low = (let l = r.low in let s = some_height e in omega (arith, l, s));
    }

names_counted : (at site i : ℕ) (es : Exprs) → Counted (kept_arguments at site i es) [] [] 0 1
names_counted at site i no_exprs = record { listed = refl; tagged = refl; counted = refl; low = omega arith }
names_counted at site i (more_exprs e es) =
    (let r = names_counted at site (suc i) es in record { listed = r.listed; tagged = r.tagged; counted = (let c = r.counted in omega (arith, c)); low = (let l = r.low in omega (arith, l)) })

pub names_calls : (at site i : ℕ) (es : Exprs) → calls_of_all (kept_arguments at site i es) ≡ 0
names_calls at site i es = (names_counted at site i es).counted

post_counted : (at site : ℕ) (k : Bool) (e : Expr) → Counted (call_and_post at site k e) (strings e) (tags_of_expr e) (suc (calls e)) (max (suc (height e)) 2)
post_counted at site true e = record { listed = nothing_more (strings e); tagged = nothing_more (tags_of_expr e); counted = omega arith; low = (let s = some_height e in omega (arith, s)) }
post_counted at site false e = record { listed = nothing_more (strings e); tagged = nothing_more (tags_of_expr e); counted = omega arith; low = (let s = some_height e in omega (arith, s)) }

name_counted : (d : Expr) → IsName d → (strings d ≡ []) × (tags_of_expr d ≡ []) × (calls d ≡ 0) × (height d ≡ 1)
name_counted (a_name at x) h = (refl, refl, refl, refl)
name_counted d h = absurd h

-- the name of what is called stays a name
named_stays : (sites : Sites) (b : ℕ) (d : Expr) → IsName d → IsName (expr sites b true d)
named_stays sites b (a_name at x) h = tt
named_stays sites b d h = absurd h

-- the null call, the call and what follows it
abbrev Behind : (at site : ℕ) → Bool → Expr → Exprs → Exprs
Behind at site k d es = more_exprs (null_call at pre_name site) (call_and_post at site k (call at d (kept_arguments at site 0 es)))

behind_counted : (at site : ℕ) (k : Bool) (d : Expr) (es : Exprs) → height d ≡ 1 → Counted (Behind at site k d es) (strings d) (tags_of_expr d) (calls d + 3) 3
behind_counted at site k d es e =
    let p = post_counted at site k (call at d (kept_arguments at site 0 es)) in
    let n = names_counted at site 0 es in
    record {
      listed = p.listed ∙ (ap (λ ws. strings d ++ ws) n.listed ∙ nothing_more (strings d));
      tagged = p.tagged ∙ (ap (λ ws. tags_of_expr d ++ ws) n.tagged ∙ nothing_more (tags_of_expr d));
      counted = (let r = p.counted in let m = n.counted in omega (arith, r, m));
      low = (let l = p.low in let m = n.low in omega (arith, l, m, e));
    }

-- what is empty may stand first
first_empty : {A : Type 0} (xs ys zs : List A) → ys ≡ zs → zs ≡ [] → xs ++ ys ≡ zs ++ xs
first_empty xs ys zs e f = ap (λ ws. xs ++ ws) (e ∙ f) ∙ (nothing_more xs ∙ ap (λ ws. ws ++ xs) (sym f))

marked_counted : (at site : ℕ) (k : Bool) (o : Option CType) (d : Expr) (es : Exprs) → (o ≡ None → IsName d)
    → Counted (keep_designator at site o d (keep_arguments at site 0 es (Behind at site k (kept_designator at site o d) es))) (strings d ++ strings_of_all es) (tags_of_expr d ++ tags_of_exprs es) ((calls d + calls_of_all es) + 3) (suc (max (max (height d) (height_of_exprs es)) 2))
marked_counted at site k None d es h =
    let n = name_counted d (h refl) in
    let a = arguments_counted at site 0 es (Behind at site k d es) in
    let b = behind_counted at site k d es n.3 in
    record {
      listed = a.listed ∙ first_empty (strings_of_all es) (strings_of_all (Behind at site k d es)) (strings d) b.listed n.0;
      tagged = a.tagged ∙ first_empty (tags_of_exprs es) (tags_of_exprs (Behind at site k d es)) (tags_of_expr d) b.tagged n.1;
      counted = (let c = a.counted in let r = b.counted in omega (arith, c, r));
      low = (let l = a.low in let m = b.low in omega (arith, l, m));
    }
marked_counted at site k (Some t) d es h =
    let c : Expr = kept_designator at site (Some t) d in
    let a = arguments_counted at site 0 es (Behind at site k c es) in
    let b = behind_counted at site k c es refl in
    record {
      listed = ap (λ ws. strings d ++ ws) (a.listed ∙ first_empty (strings_of_all es) (strings_of_all (Behind at site k c es)) [] b.listed refl);
      tagged = ap (λ ws. tags_of_expr d ++ ws) (a.tagged ∙ first_empty (tags_of_exprs es) (tags_of_exprs (Behind at site k c es)) [] b.tagged refl);
      counted = (let m = a.counted in let r = b.counted in omega (arith, m, r));
      low = (let l = a.low in let m = b.low in let s = some_height d in omega (arith, l, m, s));
    }

-- ## Calls

abbrev OfExpr : Expr → Expr → Type 0
OfExpr y x = Alike (strings y) (strings x) (tags_of_expr y) (tags_of_expr x) (calls y) (calls x) (height y) (height x)

abbrev OfAll : Exprs → Exprs → Type 0
OfAll ys xs = Alike (strings_of_all ys) (strings_of_all xs) (tags_of_exprs ys) (tags_of_exprs xs) (calls_of_all ys) (calls_of_all xs) (height_of_exprs ys) (height_of_exprs xs)

call_alike : (at site : ℕ) (wanted : Bool) (o : Option Called) (d : Expr) (es : Exprs) (plain : Expr) (plains : Exprs) → IsDesignator o d → OfExpr d plain → OfAll es plains → OfExpr (call_where at site wanted o d es) (call at plain plains)
call_alike at site wanted None d es plain plains h a b =
    (let r = beside a b in record { listed = r.listed; tagged = r.tagged; calls_most = (let m = r.calls_most in omega (arith, m)); low = (let l = r.low in omega (arith, l)) })
call_alike at site wanted (Some c) d es plain plains h a b =
    let r = beside a b in
    let m = marked_counted at site (is_kept wanted c.returns) c.pointer_type d es h in
    record {
      listed = m.listed ∙ r.listed;
      tagged = m.tagged ∙ r.tagged;
      calls_most = (let n = m.counted in let q = r.calls_most in omega (arith, n, q));
      low = (let l = m.low in let q = r.low in let s = some_height plain in omega (arith, l, q, s));
    }

designator_stays : (sites : Sites) (b : ℕ) (o : Option Called) (d : Expr) → IsDesignator o d → IsDesignator o (expr sites b true d)
designator_stays sites b None d h = tt
designator_stays sites b (Some c) d h = λ e. named_stays sites b d (h e)

-- ## Expressions

-- what holds of the operand of an operator whose value isn't wanted, where the operand is unary: for it may be left out with the operator
abbrev pub Operand : (P : Expr → Type 0) (sites : Sites) (b : ℕ) → Expr → Type 0
Operand P sites b (unary place inner e) = P (expr sites b false e)
Operand P sites b e = Unit {0}

pub by_unary : (P : Expr → Type 0) (sites : Sites) (at op : ℕ) (x : Expr) (b : ℕ) (wanted : Bool) → P (unary at op (expr sites b true x)) → Operand P sites b x → P (expr sites b wanted (unary at op x))
by_unary P sites at op (unary place inner e) b false h k = by_type P (is_address_of_indirection op inner) (expr sites b false e) (unary at op (unary place inner (expr sites b true e))) k h
by_unary P sites at op y b true h k = h
by_unary P sites at op y b false h k = h

module _ (sites : Sites) where
  mutual
    pub expr_alike : (x : Expr) (b : ℕ) (wanted : Bool) → AreNamed sites b x → OfExpr (expr sites b wanted x) x
    expr_alike (comma at es) b wanted h = deeper (members_alike es b wanted h)
    expr_alike (cast at t e) b wanted h = deeper (behind [] (tags_of_type t) (height_of_type t) (by_type (λ y. OfExpr y e) (is_void_type t) (expr sites b false e) (expr sites b true e) (expr_alike e b false h) (expr_alike e b true h)))
    expr_alike (call at d es) b wanted h =
        call_alike at (b + calls d) wanted (sites (b + calls d)) (expr sites b true d) (arguments sites (suc (b + calls d)) es) d es (designator_stays sites b (sites (b + calls d)) d h.0) (expr_alike d b true h.1) (arguments_alike es (suc (b + calls d)) h.2)
    expr_alike (member at how e x) b wanted h = deeper (expr_alike e b true h)
    expr_alike (postfix at op e) b wanted h = deeper (expr_alike e b true h)
    expr_alike (prefix at pre_increment e) b wanted h = deeper (expr_alike e b true h)
    expr_alike (prefix at pre_decrement e) b wanted h = deeper (expr_alike e b true h)
    expr_alike (unary at op e) b wanted h = by_unary (λ y. OfExpr y (unary at op e)) sites at op e b wanted (deeper (expr_alike e b true h)) (operand_alike at op e b h)
    expr_alike (index at e f) b wanted h = deeper (beside (expr_alike e b true h.0) (expr_alike f (b + calls e) true h.1))
    expr_alike (binary at op e f) b wanted h = deeper (beside (expr_alike e b true h.0) (expr_alike f (b + calls e) true h.1))
    expr_alike (assign at op e f) b wanted h = deeper (beside (expr_alike e b true h.0) (expr_alike f (b + calls e) true h.1))
    expr_alike (conditional at c e f) b wanted h = deeper (beside (expr_alike c b true h.0) (beside (expr_alike e (b + calls c) true h.1) (expr_alike f (b + calls c + calls e) true h.2)))
    expr_alike x b wanted h = same (strings x) (tags_of_expr x) (calls x) (height x)

    operand_alike : (at op : ℕ) (x : Expr) (b : ℕ) → AreNamed sites b x → Operand (λ y. OfExpr y (unary at op x)) sites b x
    operand_alike at op (unary place inner e) b h = lower (lower (expr_alike e b false h))
    operand_alike at op x b h = tt

    arguments_alike : (es : Exprs) (b : ℕ) → AllNamed sites b es → OfAll (arguments sites b es) es
    arguments_alike no_exprs b h = same [] [] 0 0
    arguments_alike (more_exprs e es) b h = beside (expr_alike e b true h.0) (arguments_alike es (b + calls e) h.1)

    members_alike : (es : Exprs) (b : ℕ) (wanted : Bool) → AllNamed sites b es → OfAll (members sites b wanted es) es
    members_alike no_exprs b wanted h = same [] [] 0 0
    members_alike (more_exprs e no_exprs) b wanted h = beside (expr_alike e b wanted h.0) (same [] [] 0 0)
    members_alike (more_exprs e (more_exprs f es)) b wanted h = beside (expr_alike e b false h.0) (members_alike (more_exprs f es) (b + calls e) wanted h.1)

pub counts_stay : ExpressionsCountAlike
counts_stay sites b wanted x h = (let a = expr_alike sites x b wanted h in record { strings_same = a.listed; calls_most = a.calls_most })

pub places_near : PlacesStayNear
places_near sites b b' wanted x h n =
    let a = expr_alike sites x b.sites wanted h in
    record {
      sites = (let c = a.calls_most in let l = n.sites in omega (arith, c, l));
      strings = ap₂ (λ ws vs. ws ++ vs) n.strings a.listed;
      cells = ap₂ (λ c ws. c + string_cells ws) n.cells a.listed;
    }
