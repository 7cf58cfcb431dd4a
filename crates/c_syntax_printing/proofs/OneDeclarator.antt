-- One reading of type names, declarators, array sizes and parameters, each from those of its parts: at_F goes through the other
-- readings where one has the form F.
use Rattle.std.proofs.Common.{◌≡◌, ◌≤◌, ℕ, List, ◌∷◌, refl, sym, ap, ◌∙◌, arith}
use Rattle.c_lexer.specs.declared.token.Token.{Token}
use Rattle.c_lexer.specs.declared.punctuator.TheConstants.{LEFT_BRACKET, RIGHT_BRACKET, LEFT_PARENTHESIS, RIGHT_PARENTHESIS, ASTERISK, COMMA}
use Rattle.c_syntax.specs.Tree.{Ident, Spec, void, Expr, Maybe, absent, there, TypeName, type_name, Declarator, nothing, named, pointer, array, function, Params, no_params, more_params}
use Rattle.c_syntax.specs.Tokens.{Is, place}
use Rattle.c_syntax.specs.Specifiers.{Names, Consts, ReadsSpec}
use Rattle.c_syntax.specs.Grammar.{conditional_level, IsThere, AreSome, Reads, ReadsSize, no_size, a_size, ReadsType, a_type}
use Rattle.c_syntax.specs.Grammar.{Declares, a_pointer, a_direct, ReadsCore, a_declared, declarator_in_parentheses, no_core, Lengthens, no_more, an_array, a_function, ReadsParams, are_none, are_some, ReadsEach, last_param, next_param}
use Rattle.c_syntax.proofs.BackTokens.{begins_at, ap_three, ap_four}
use Rattle.c_syntax_printing.proofs.Ranks.{ranked, ranks, apart, one_ident, heads}
use Rattle.c_syntax_printing.specs.Starts.{start, EndsDeclarator, EndsSpec}
use Rattle.c_syntax_printing.proofs.Ends.{starts, started, started_name, parenthesis_ends_declarator, comma_ends_declarator}
use Rattle.c_syntax_printing.proofs.OneSpecifier.{same_consts, same_spec}
use Rattle.c_syntax_printing.proofs.Begins.{choosing_begins, lengthens_begin, lengthens_inside, direct_begins, declares_ends_spec, there_begins, nothing_stands}
use Rattle.c_syntax_printing.proofs.Only.{Closes, Only, OnlySize, OnlyDeclarator, OnlyCore, PassesLengthens, OnlyParams, OnlyEach}

-- brackets and parentheses close
pub bracket_closes : {u : Token} (j : List Token) → Is RIGHT_BRACKET u → Closes (u ∷ j)
bracket_closes j h = record { none = started h; high = omega (arith, ranked h) }

pub parenthesis_closes : {u : Token} (j : List Token) → Is RIGHT_PARENTHESIS u → Closes (u ∷ j)
parenthesis_closes j h = record { none = started h; high = omega (arith, ranked h) }

pub closed_end : {j : List Token} → Closes j → EndsDeclarator j
closed_end c = omega (arith, c.none)

-- the same, read from an equal list
pub moved_lengthens : {d at it : ℕ} {a b e : Declarator} {i j k : List Token} → at ≡ it → a ≡ b → i ≡ j → Lengthens d it b e j k → Lengthens d at a e i k
moved_lengthens o p q r = rw (o, p, q) r

-- array sizes
pub at_no_size : {x : ℕ} {n : Maybe} {i k : List Token} → Closes i → ReadsSize x n i k → (absent ≡ n) × (i ≡ k)
at_no_size s no_size = (refl, refl)
at_no_size s (a_size r) = absurd (omega (arith, (choosing_begins r).0, s.none))

pub at_size : {d x : ℕ} {e : Expr} {n : Maybe} {i j k : List Token} → Reads d conditional_level e i j → Only conditional_level e i j → ReadsSize x n i k → Closes k → (there e ≡ n) × (j ≡ k)
at_size b h no_size z = absurd (omega (arith, (choosing_begins b).0, z.none))
at_size b h (a_size r) z = let v = h.is _ _ _ r (omega (arith, z.high)) in (ap there v.0, v.1)

-- type names
pub at_type : {x at : ℕ} {s : Spec} {e : Declarator} {m : TypeName} {i j k n : List Token} → at ≡ place i → ReadsSpec s i j → EndsSpec j → OnlyDeclarator e j k → ReadsType x m i n → EndsDeclarator n → (type_name at s e ≡ m) × (k ≡ n)
at_type p r s h (a_type q w f g) z =
    let v = same_spec r w s (declares_ends_spec f z) in
    let u = h.is _ _ _ (begins_at (Declares _ _) v.1 f) z in (ap_three type_name (p ∙ sym q) v.0 u.0, u.1)

-- declarators
pub at_pointer : {x : ℕ} {e f : Declarator} {t : Token} {i j k m : List Token} → Is ASTERISK t → Consts i j → EndsSpec j → OnlyDeclarator e j k → Declares x f (t ∷ i) m → EndsDeclarator m → (pointer t.from e ≡ f) × (k ≡ m)
at_pointer {t = t} o c s h (a_pointer q b r) z =
    let v = same_consts c b (λ q. omega arith) (λ q. omega (arith, declares_ends_spec r z)) in
    let u = h.is _ _ _ (begins_at (Declares _ _) v r) z in (ap (λ e. pointer t.from e) u.0, u.1)
at_pointer o c s h (a_direct p b l) z = absurd ((direct_begins b l z).1 (started o))

-- where nothing more stands after a declarator
at_no_more : {x at : ℕ} {a f : Declarator} {j k : List Token} → EndsDeclarator j → Lengthens x at a f j k → (a ≡ f) × (j ≡ k)
at_no_more s no_more = (refl, refl)
at_no_more s (an_array o r c l) = absurd (omega (arith, started o))
at_no_more s (a_function o r c l) = absurd (omega (arith, started o))

pub at_direct : {x at : ℕ} {a e f : Declarator} {i j k m : List Token} → at ≡ place i → (start i ≡ 2 → ⊥) → OnlyCore a i j → PassesLengthens at a e j k → EndsDeclarator k → Declares x f i m → EndsDeclarator m → (e ≡ f) × (k ≡ m)
at_direct p n h g s (a_pointer o c r) z = absurd (n (started o))
at_direct p n h g s (a_direct q c l) z = let v = h.is _ _ _ _ _ _ c l z in at_no_more s (g.is _ _ _ (moved_lengthens (p ∙ sym q) v.0 v.1 l) z)

-- what stands before array sizes and parameters
at_declared : {x at : ℕ} {ident : Ident} {b f : Declarator} {t : Token} {i k m : List Token} → Names ident t → ReadsCore x b (t ∷ i) k → Lengthens x at b f k m → EndsDeclarator m → (named t.from ident ≡ b) × (i ≡ k)
at_declared {t = t} n (a_declared o) l z = (ap (λ a. named t.from a) (one_ident n o), refl)
at_declared n (declarator_in_parentheses o r h c) l z = absurd (omega (arith, started o, started_name n.name))
at_declared n no_core l z = absurd ((lengthens_begin l z).1 (started_name n.name))

pub only_declared : {ident : Ident} {t : Token} {i : List Token} → Names ident t → OnlyCore (named t.from ident) (t ∷ i) i
only_declared n = record { is = λ x at b f k m r l z. at_declared n r l z }

at_brackets : {x at : ℕ} {e b f : Declarator} {t u : Token} {i j k m : List Token} → Is LEFT_PARENTHESIS t → start i ≤ 6 → OnlyDeclarator e i (u ∷ j) → ReadsCore x b (t ∷ i) k → Lengthens x at b f k m → EndsDeclarator m → (e ≡ b) × (j ≡ k)
at_brackets o s h (a_declared n) l z = absurd (omega (arith, started o, started_name n.name))
at_brackets o s h (declarator_in_parentheses q r n c) l z = let v = h.is _ _ _ r (parenthesis_ends_declarator c) in (v.0, (heads v.1).1)
at_brackets o s h no_core l z = absurd (omega (arith, lengthens_inside l z o))

pub only_brackets : {d : ℕ} {e : Declarator} {t u : Token} {i j : List Token} → Is LEFT_PARENTHESIS t → Declares d e i (u ∷ j) → IsThere e → OnlyDeclarator e i (u ∷ j) → OnlyCore e (t ∷ i) j
only_brackets o b n h = record { is = λ x at c f k m r l z. at_brackets o (there_begins b n) h r l z }

pub at_no_core : {d x it : ℕ} {e b : Declarator} {i j k : List Token} → Lengthens d it nothing e i j → EndsDeclarator j → ReadsCore x b i k → (nothing ≡ b) × (i ≡ k)
at_no_core l s (a_declared n) = absurd ((lengthens_begin l s).1 (started_name n.name))
at_no_core l s (declarator_in_parentheses o r h c) = absurd (omega (arith, lengthens_inside l s o, there_begins r h))
at_no_core l s no_core = (refl, refl)

-- array sizes and parameters after a declarator
pub at_array : {x at : ℕ} {size : Maybe} {a e f : Declarator} {t u : Token} {i j k m : List Token} → Is LEFT_BRACKET t → OnlySize size i (u ∷ j) → PassesLengthens at (array at a size) e j k → Lengthens x at a f (t ∷ i) m → EndsDeclarator m → Lengthens x at e f k m
at_array o h g no_more z = absurd (omega (arith, started o))
at_array {at = at} {a = a} o h g (an_array q r c l) z =
    let v = h.is _ _ _ r (bracket_closes _ c) in g.is _ _ _ (moved_lengthens refl (ap (λ s. array at a s) v.0) (heads v.1).1 l) z
at_array o h g (a_function q r c l) z = absurd (omega (arith, apart o q))

pub at_function : {x at : ℕ} {ps : Params} {a e f : Declarator} {t u : Token} {i j k m : List Token} → Is LEFT_PARENTHESIS t → OnlyParams ps i (u ∷ j) → PassesLengthens at (function at a ps) e j k → Lengthens x at a f (t ∷ i) m → EndsDeclarator m → Lengthens x at e f k m
at_function o h g no_more z = absurd (omega (arith, started o))
at_function o h g (an_array q r c l) z = absurd (omega (arith, apart o q))
at_function {at = at} {a = a} o h g (a_function q r c l) z =
    let v = h.is _ _ _ r (parenthesis_closes _ c) in g.is _ _ _ (moved_lengthens refl (ap (λ s. function at a s) v.0) (heads v.1).1 l) z

-- void alone is no parameter
void_alone : {s : Spec} {e : Declarator} (at : ℕ) → s ≡ void → e ≡ nothing → AreSome (more_params at s e no_params) → ⊥
void_alone at p q h = let k = rw (p, q) at h in k

none_apart : {d : ℕ} {ps : Params} {i j k : List Token} → ReadsSpec void i j → Closes j → ReadsEach d ps i k → AreSome ps → Closes k → ⊥
none_apart r s (last_param {at = at} p w e) n z =
    let v = same_spec w r (declares_ends_spec e (closed_end z)) (omega (arith, s.none)) in
    void_alone at v.0 (nothing_stands e (omega (arith, starts v.1, s.none))).0 n
none_apart r s (next_param p w e o b) n z =
    let v = same_spec w r (declares_ends_spec e (comma_ends_declarator o)) (omega (arith, s.none)) in
    let u = nothing_stands e (omega (arith, starts v.1, s.none)) in
    omega (arith, s.high, ranks v.1, ranks u.1, ranked o)

-- lists of parameters
pub at_none : {x : ℕ} {qs : Params} {i j k : List Token} → ReadsSpec void i j → Closes j → ReadsParams x qs i k → Closes k → (no_params ≡ qs) × (j ≡ k)
at_none r s (are_none w) z = (refl, (same_spec r w (omega (arith, s.none)) (omega (arith, z.none))).1)
at_none r s (are_some w n) z = absurd (none_apart r s w n z)

pub at_some : {d x : ℕ} {ps qs : Params} {i j k : List Token} → ReadsEach d ps i j → AreSome ps → Closes j → OnlyEach ps i j → ReadsParams x qs i k → Closes k → (ps ≡ qs) × (j ≡ k)
at_some b n s h (are_none w) z = absurd (none_apart w z b n s)
at_some b n s h (are_some w o) z = h.is _ _ _ w z

-- parameters, with commas between
pub at_last_param : {x at : ℕ} {s : Spec} {e : Declarator} {qs : Params} {i j k m : List Token} → at ≡ place i → ReadsSpec s i j → EndsSpec j → Closes k → OnlyDeclarator e j k → ReadsEach x qs i m → Closes m → (more_params at s e no_params ≡ qs) × (k ≡ m)
at_last_param p r s c h (last_param q w e) z =
    let v = same_spec r w s (declares_ends_spec e (closed_end z)) in
    let u = h.is _ _ _ (begins_at (Declares _ _) v.1 e) (closed_end z) in (ap_three (λ (i : ℕ) (y : Spec) (x : Declarator). more_params i y x no_params) (p ∙ sym q) v.0 u.0, u.1)
at_last_param p r s c h (next_param q w e o b) z = absurd
    (let v = same_spec r w s (declares_ends_spec e (comma_ends_declarator o)) in
    let u = h.is _ _ _ (begins_at (Declares _ _) v.1 e) (comma_ends_declarator o) in omega (arith, c.high, ranks u.1, ranked o))

pub at_next_param : {x at : ℕ} {s : Spec} {e : Declarator} {rest qs : Params} {t : Token} {i j k m n : List Token} → at ≡ place i → ReadsSpec s i j → EndsSpec j → Is COMMA t → OnlyDeclarator e j (t ∷ k) → OnlyEach rest k m → ReadsEach x qs i n → Closes n → (more_params at s e rest ≡ qs) × (m ≡ n)
at_next_param p r s o h g (last_param q w e) z = absurd
    (let v = same_spec r w s (declares_ends_spec e (closed_end z)) in
    let u = h.is _ _ _ (begins_at (Declares _ _) v.1 e) (closed_end z) in omega (arith, z.high, ranks u.1, ranked o))
at_next_param p r s o h g (next_param q w e l b) z =
    let v = same_spec r w s (declares_ends_spec e (comma_ends_declarator l)) in
    let u = h.is _ _ _ (begins_at (Declares _ _) v.1 e) (comma_ends_declarator l) in
    let y = g.is _ _ _ (begins_at (ReadsEach _ _) (heads u.1).1 b) z in (ap_four more_params (p ∙ sym q) v.0 u.0 y.0, y.1)
