-- What is counted in an expression with null calls round its marked calls: as many strings, and at most three times as many calls.
use Rattle.std.specs.Prelude.{◌≡◌, ℕ, suc, ◌+◌, ◌*◌, ◌≤◌, Bool, Option, None, Some}
use Rattle.c_syntax.specs.Tree.{Expr, a_name, an_int, a_char, a_str, comma, sizeof_type, cast, call, member, postfix, prefix, unary, index, binary, assign, conditional, Exprs, no_exprs, more_exprs}
use Rattle.c_syntax.specs.Tree.{pre_increment, pre_decrement, sizeof}
use Rattle.c_rules.specs.Scopes.{Before}
use Rattle.c_rules.specs.Counts.{calls, strings, after}
use Rattle.null_calls_laws.specs.MarkedCalls.{Called, Sites}
use Rattle.null_calls_laws.specs.InstrumentedExpressions.{expr}

abbrev pub IsName : Expr → Type 0
IsName (a_name at x) = Unit {0}
IsName e = ⊥

-- what is called at a marked site is named, or a pointer to it is kept
abbrev pub IsDesignator : Option Called → Expr → Type 0
IsDesignator None d = Unit {0}
IsDesignator (Some c) d = c.pointer_type ≡ None → IsName d

-- each marked call whose designator isn't kept names what it calls
module _ (sites : Sites) where
  abbrev mutual
    pub AreNamed : (before : ℕ) → Expr → Type 0
    AreNamed b (a_name at x) = Unit {0}
    AreNamed b (an_int at n u) = Unit {0}
    AreNamed b (a_char at c) = Unit {0}
    AreNamed b (a_str at w) = Unit {0}
    AreNamed b (comma at es) = AllNamed b es
    AreNamed b (sizeof_type at t) = Unit {0}
    AreNamed b (cast at t e) = AreNamed b e
    AreNamed b (call at d es) = IsDesignator (sites (b + calls d)) d × AreNamed b d × AllNamed (suc (b + calls d)) es
    AreNamed b (member at how e x) = AreNamed b e
    AreNamed b (postfix at op e) = AreNamed b e
    AreNamed b (prefix at pre_increment e) = AreNamed b e
    AreNamed b (prefix at pre_decrement e) = AreNamed b e
    AreNamed b (prefix at sizeof e) = Unit {0}
    AreNamed b (unary at op e) = AreNamed b e
    AreNamed b (index at e f) = AreNamed b e × AreNamed (b + calls e) f
    AreNamed b (binary at op e f) = AreNamed b e × AreNamed (b + calls e) f
    AreNamed b (assign at op e f) = AreNamed b e × AreNamed (b + calls e) f
    AreNamed b (conditional at c e f) = AreNamed b c × AreNamed (b + calls c) e × AreNamed (b + calls c + calls e) f

    pub AllNamed : (before : ℕ) → Exprs → Type 0
    AllNamed b no_exprs = Unit {0}
    AllNamed b (more_exprs e es) = AreNamed b e × AllNamed (b + calls e) es

-- so much stands before a part of a plain unit, and so much before that part of the instrumented one
pub record Near (b b' : Before) : Type 0 where
  pub sites : b'.sites ≤ 3 * b.sites
  pub strings : b'.strings ≡ b.strings
  pub cells : b'.cells ≡ b.cells

pub record CountsStay (sites : Sites) (b : ℕ) (wanted : Bool) (x : Expr) : Type 0 where
  pub strings_same : strings (expr sites b wanted x) ≡ strings x
  pub calls_most : calls (expr sites b wanted x) ≤ 3 * calls x

abbrev pub ExpressionsCountAlike : Type 0
ExpressionsCountAlike = (sites : Sites) (b : ℕ) (wanted : Bool) (x : Expr) → AreNamed sites b x → CountsStay sites b wanted x

abbrev pub PlacesStayNear : Type 0
PlacesStayNear = (sites : Sites) (b b' : Before) (wanted : Bool) (x : Expr) → AreNamed sites b.sites x → Near b b' → Near (after b x) (after b' (expr sites b.sites wanted x))
