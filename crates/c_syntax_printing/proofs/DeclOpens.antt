-- Where type names and declarators open past the limits (C99 6.7.5, 6.7.6).
use Rattle.std.proofs.Common.{◌⊎◌, inl, inr, suc, List, ◌∷◌, refl, arith, ℕ}
use Rattle.c_lexer.specs.declared.token.Token.{Token}
use Rattle.c_lexer.specs.declared.punctuator.TheConstants.{LEFT_BRACKET, LEFT_PARENTHESIS, ASTERISK}
use Rattle.c_lexer.specs.declared.keyword.TheConstants.{VOID}
use Rattle.c_syntax.specs.Tree.{Ident, Spec, void, absent, there, type_name, Declarator, named, pointer, array, function, no_params}
use Rattle.c_syntax.specs.Tokens.{Is}
use Rattle.c_syntax.specs.Specifiers.{Names, Consts, no_const, ReadsSpec, is_void}
use Rattle.c_syntax.specs.Grammar.{conditional_level, IsThere, HasNoName, no_size, a_size, a_type}
use Rattle.c_syntax.specs.Grammar.{Declares, a_pointer, a_direct, ReadsCore, a_declared, declarator_in_parentheses, Lengthens, no_more, an_array, a_function, are_none}
use Rattle.c_syntax_printing.specs.Twins.{On}
use Rattle.c_syntax_printing.proofs.FrameSpecifiers.{consts_on, spec_on}
use Rattle.c_syntax_printing.specs.Nodes.{InDeclarator, declarator_here, in_pointer, in_array, in_size, in_function, in_there, in_type}
use Rattle.c_syntax_printing.specs.Pairs.{PairInDeclarator, PairInCore, PairInLengthens}
use Rattle.c_syntax_printing.specs.Opens.{Opens, DeepExpr, DeepType, DeepDeclarator, Builds, Writes, DeepLengthens, Direct}
use Rattle.c_syntax_printing.proofs.Opening.{opens_as, opens_here, opens_past, opens_before, opens_token}
use Rattle.c_syntax_printing.proofs.Fills.{word}
use Rattle.c_syntax_printing.proofs.ExprOpens.{either, close_paren}
pub use Rattle.c_syntax_printing.proofs.ExprOpens.{close_bracket}
use Rattle.c_syntax_printing.proofs.Fixed.{placeless}

-- what is deep is there

pub lengthens_there : {d q : ℕ} {a e : Declarator} {i j : List Token} → Lengthens d q a e i j → IsThere a → IsThere e
lengthens_there no_more h = h
lengthens_there (an_array o s c w) h = lengthens_there w tt
lengthens_there (a_function o s c w) h = lengthens_there w tt

more_there : (at n : ℕ) {d q : ℕ} {a e : Declarator} {i j : List Token} (w : Lengthens d q a e i j) → PairInLengthens at w n → IsThere e
more_there at n no_more y = absurd y
more_there at n (an_array o s c w) y = lengthens_there w tt
more_there at n (a_function o s c w) y = lengthens_there w tt

core_there : (at n : ℕ) {d : ℕ} {a : Declarator} {i j : List Token} (c : ReadsCore d a i j) → PairInCore at c n → IsThere a
core_there at n (declarator_in_parentheses o r h c) y = h
core_there at n c y = absurd y

pub pair_there : (at n : ℕ) {d : ℕ} {e : Declarator} {i j : List Token} (r : Declares d e i j) → PairInDeclarator at r n → IsThere e
pair_there at n (a_pointer h c r) y = tt
pair_there at n (a_direct p c w) (inl y) = lengthens_there w (core_there at n c y)
pair_there at n (a_direct p c w) (inr y) = more_there at n w y

pub node_there : {at n : ℕ} {e : Declarator} → InDeclarator at n e → IsThere e
node_there (declarator_here h q) = h
node_there a = tt

pub deep_there : (at n p : ℕ) {d : ℕ} {e : Declarator} {i j : List Token} (r : Declares d e i j) → InDeclarator at n e ⊎ PairInDeclarator at r p → IsThere e
deep_there at n p r (inl x) = node_there x
deep_there at n p r (inr y) = pair_there at p r y

-- type names

pub type_opens : {at p n : ℕ} {s : Spec} {i j r : List Token} → ReadsSpec s i j → Opens (DeepDeclarator HasNoName at p n) j r → Opens (DeepType at p n) i r
type_opens {s = s} w o =
    opens_past (placeless (spec_on w)) (opens_as (λ k m c l b. record { tree = type_name _ s c.tree; reads = a_type refl b c.reads c.suits; deep = either in_type (λ y. y) c.deep }) o)

-- pointers and names

pub pointer_opens : {N : Declarator → Type 0} {at p n : ℕ} {t : Token} {i j r : List Token} → Builds N → Is ASTERISK t → Consts i j → Opens (DeepDeclarator N at p n) j r → Opens (DeepDeclarator N at p (suc n)) (t ∷ i) r
pointer_opens b h c o =
    opens_token (opens_past (consts_on c) (opens_as (λ k m e l q. record { tree = pointer _ e.tree; reads = a_pointer h q e.reads; suits = b.pointers _ _ e.suits; deep = either in_pointer (λ y. y) e.deep }) o))

pub pointer_too_deep : {N : Declarator → Type 0} {p : ℕ} {t : Token} {i : List Token} → Builds N → Writes N → Is ASTERISK t → Opens (DeepDeclarator N t.from p 0) (t ∷ i) (t ∷ i)
pointer_too_deep {p = p} b w h = opens_here (λ m. let x = w.filled (suc p) m in record {
  tokens = x.tokens;
  reads = record { tree = pointer _ w.declarator; reads = a_pointer h no_const x.reads; suits = b.pointers _ _ w.suits; deep = inl (declarator_here tt refl) };
})

pub named_too_deep : {N : Declarator → Type 0} {p : ℕ} {x : Ident} {t : Token} {i : List Token} → N (named t.from x) → Names x t → Opens (DeepDeclarator N t.from p 0) (t ∷ i) (t ∷ i)
named_too_deep g h = opens_here (λ m. record { tokens = m; reads = record { tree = named _ _; reads = a_direct refl (a_declared h) no_more; suits = g; deep = inl (declarator_here tt refl) } })

-- declarators in parentheses

pub declarator_parentheses_open : {N : Declarator → Type 0} {at p n : ℕ} {t : Token} {i r : List Token} → Is LEFT_PARENTHESIS t → Opens (DeepDeclarator N at p n) i r → Opens (DeepDeclarator N at (suc p) n) (t ∷ i) r
declarator_parentheses_open {at = at} {p} {n} h o =
    opens_token (opens_before o (λ m. record {
      tokens = close_paren ∷ m;
      reads = λ k e. record {
        tree = e.tree;
        reads = a_direct refl (declarator_in_parentheses h e.reads (deep_there at (suc n) p e.reads e.deep) (record { kind = refl })) no_more;
        suits = e.suits;
        deep = either (λ x. x) (λ y. inl (inr (p, refl, y))) e.deep;
      };
    }))

-- array sizes and parameters

-- more of them before those that open
lengthens_grow : {at p n q : ℕ} {a e f : Declarator} {i j k : List Token} → Lengthens (suc p) q a e i j → (w : Lengthens (suc p) q e f j k) → InDeclarator at n f ⊎ PairInLengthens at w p → (v : Lengthens (suc p) q a f i k) × (InDeclarator at n f ⊎ PairInLengthens at v p)
lengthens_grow no_more w y = (w, y)
lengthens_grow (an_array o s c v) w y = let x = lengthens_grow v w y in (an_array o s c x.0, either (λ z. z) (λ z. inr z) x.1)
lengthens_grow (a_function o s c v) w y = let x = lengthens_grow v w y in (a_function o s c x.0, either (λ z. z) (λ z. inr z) x.1)

pub lengthens_open : {N : Declarator → Type 0} {at p n q : ℕ} {e : Declarator} {i j r : List Token} → N e → ((k : List Token) → On (Direct (suc p) q e) i j k) → Opens (DeepLengthens N at p n q e) j r → Opens (DeepDeclarator N at p n) i r
lengthens_open g f o =
    opens_past f (opens_as (λ k m c l b.
    let x = lengthens_grow b.lengthens c.reads c.deep in
    record { tree = c.tree; reads = a_direct b.begins b.stands x.0; suits = c.suits g; deep = either (λ z. z) (λ z. inr z) x.1 }) o)

pub size_opens : {N : Declarator → Type 0} {at p n q : ℕ} {a : Declarator} {t : Token} {i r : List Token} → Builds N → Is LEFT_BRACKET t → Opens (DeepExpr at p n conditional_level) i r → Opens (DeepLengthens N at p (suc n) q a) (t ∷ i) r
size_opens {q = q} {a} b h o =
    opens_token (opens_before o (λ m. record {
      tokens = close_bracket ∷ m;
      reads = λ k e. record { tree = array q a (there e.tree); reads = an_array h (a_size e.reads) (record { kind = refl }) no_more; suits = λ n. b.arrays _ _ _ n; deep = either (λ x. in_size (in_there x)) (λ y. inl y) e.deep };
    }))

pub array_too_high : {N : Declarator → Type 0} {at p n q : ℕ} {a : Declarator} {t : Token} {i : List Token} → Builds N → Is LEFT_BRACKET t → InDeclarator at n a → Opens (DeepLengthens N at p n q a) (t ∷ i) (t ∷ i)
array_too_high {q = q} {a = a} b h x = opens_here (λ m. record {
  tokens = close_bracket ∷ m;
  reads = record { tree = array q a absent; reads = an_array h no_size (record { kind = refl }) no_more; suits = λ n. b.arrays _ _ _ n; deep = inl (in_array x) };
})

void_reads : {m : List Token} → ReadsSpec void (word VOID (omega arith) ∷ m) m
void_reads = is_void no_const (record { kind = refl }) no_const

pub function_too_high : {N : Declarator → Type 0} {at p n q : ℕ} {a : Declarator} {t : Token} {i : List Token} → Builds N → Is LEFT_PARENTHESIS t → InDeclarator at n a → Opens (DeepLengthens N at p n q a) (t ∷ i) (t ∷ i)
function_too_high {q = q} {a = a} b h x = opens_here (λ m. record {
  tokens = word VOID (omega arith) ∷ close_paren ∷ m;
  reads = record { tree = function q a no_params; reads = a_function h (are_none void_reads) (record { kind = refl }) no_more; suits = λ n. b.functions _ _ _ n; deep = inl (in_function x) };
})
