-- Tokens by their kinds, and phrases that end or begin at equal lists.
use Rattle.std.proofs.Common.{◌≡◌, ℕ, zero, suc, ◌≤◌, ◌+◌, ◌-◌, List, [], ◌∷◌, refl, sym, subst, ap, ap₂, ◌∙◌, zero-add, arith}
use Rattle.c_lexer.specs.declared.token.Token.{Token}
use Rattle.c_lexer.specs.declared.token.TokenKind.{TokenKind}
use Rattle.c_lexer.specs.declared.token.TokenKind.TheVariants.{Keyword, Punct}
use Rattle.c_syntax.specs.Tree.{Expr, Declarator}
use Rattle.c_syntax.specs.Tokens.{Is, IsKeyword}
use Rattle.c_syntax.specs.Grammar.{Level, postfix_level, cast_level, binary_level, conditional_level, assignment_level, expression_level, Reads, with_suffixes, no_prefix, no_cast, no_chain, a_chain, no_choice, no_assignment, no_comma, no_operator}
use Rattle.c_syntax.specs.Grammar.{Suffixes, no_suffix, an_index, an_empty_call, a_call, a_member, a_postfix, Lengthens, no_more, an_array, a_function}

abbrev pub kinds : List Token → List TokenKind
kinds [] = []
kinds (t ∷ ts) = t.kind ∷ kinds ts

-- a token of the kind stands first
pub record Heads (x : TokenKind) (ts : List Token) (k : List TokenKind) : Type 0 where
  pub token : Token
  pub rest : List Token
  pub is : ts ≡ token ∷ rest
  pub kind : token.kind ≡ x
  pub left : kinds rest ≡ k

pub headed : (x : TokenKind) (ts : List Token) (k : List TokenKind) → kinds ts ≡ x ∷ k → Heads x ts k
headed x [] k e = absurd (cc)
headed x (t ∷ ts) k e = record { token = t; rest = ts; is = refl; kind = cc; left = cc }

pub mark : {code : ℕ} {ts : List Token} {k : List TokenKind} (h : Heads (Punct code) ts k) → Is code h.token
mark h = record { kind = h.kind }

pub word : {code : ℕ} {ts : List Token} {k : List TokenKind} (h : Heads (Keyword code) ts k) → IsKeyword code h.token
word h = record { kind = h.kind }

pub ends : {d : ℕ} {l : Level} {e : Expr} {i j k : List Token} → j ≡ k → Reads d l e i j → Reads d l e i k
ends {d} {l} {e} {i} q r = subst (λ (x : List Token). Reads d l e i x) q r

pub begins : {d : ℕ} {l : Level} {e : Expr} {i j k : List Token} → i ≡ k → Reads d l e k j → Reads d l e i j
begins {d} {l} {e} {i} {j} q r = subst (λ (x : List Token). Reads d l e x j) (sym q) r

-- what is read back of a part
pub record BackOf {T : Type 0} (R : T → List Token → List Token → Type 0) (strip : T → T) (x : T) (ts : List Token) (k : List TokenKind) : Type 0 where
  pub tree : T
  pub after : List Token
  pub reads : R tree ts after
  pub same : strip tree ≡ strip x
  pub left : kinds after ≡ k

-- phrases that end or begin at equal lists
pub ends_at : (R : List Token → List Token → Type 0) {i j k : List Token} → j ≡ k → R i j → R i k
ends_at R {i} q r = subst (λ (x : List Token). R i x) q r

pub begins_at : (R : List Token → List Token → Type 0) {i j k : List Token} → i ≡ k → R k j → R i j
begins_at R {j = j} q r = subst (λ (x : List Token). R x j) (sym q) r

pub two : {ts a b : List Token} {t u : Token} → ts ≡ t ∷ a → a ≡ u ∷ b → ts ≡ t ∷ u ∷ b
two q r = cc

-- what is seen without places holds of each that is the same
pub kept : {T : Type 0} (P : T → Type 0) (strip : T → T) → ((x : T) → P (strip x) ≡ P x) → (x y : T) → strip y ≡ strip x → P x → P y
kept P strip alike x y q h = subst (λ (X : Type 0). X) (sym (alike x) ∙ (ap P (sym q) ∙ alike y)) h

-- equal parts make equal nodes
pub ap_three : {A B C D : Type 0} (f : A → B → C → D) {a x : A} {b y : B} {c z : C} → a ≡ x → b ≡ y → c ≡ z → f a b c ≡ f x y z
ap_three {A = A} {B = B} f {x = x} {y = y} {c = c} p q r = ap₂ (λ (u : A) (v : B). f u v c) p q ∙ ap (f x y) r

pub ap_four : {A B C D E : Type 0} (f : A → B → C → D → E) {a x : A} {b y : B} {c z : C} {d w : D} → a ≡ x → b ≡ y → c ≡ z → d ≡ w → f a b c d ≡ f x y z w
ap_four {D = D} {E = E} f p q r s = ap₂ (λ (g : D → E) (u : D). g u) (ap_three f p q r) s

-- a phrase of postfix operators is one of each level
pub as_casting : {d : ℕ} {e : Expr} {i j : List Token} → Reads d postfix_level e i j → Reads d cast_level e i j
as_casting r = no_cast (no_prefix r)

pub chained_up : (n : ℕ) {d : ℕ} {e : Expr} {i j : List Token} → Reads d cast_level e i j → Reads d (binary_level n) e i j
chained_up zero r = no_chain r
chained_up (suc n) r = a_chain refl (chained_up n r) no_operator

pub raised : (m n : ℕ) {d : ℕ} {e : Expr} {i j : List Token} → Reads d (binary_level n) e i j → Reads d (binary_level (m + n)) e i j
raised zero n {d} {e} {i} {j} r = subst (λ (m : ℕ). Reads d (binary_level m) e i j) (sym (zero-add n)) r
raised (suc m) n {d} {e} {i} {j} r =
    let q : suc (m + n) ≡ suc m + n = omega arith in subst (λ (x : ℕ). Reads d (binary_level x) e i j) q (a_chain refl (raised m n r) no_operator)

pub from_level : (n : ℕ) → n ≤ 9 → {d : ℕ} {e : Expr} {i j : List Token} → Reads d (binary_level (suc n)) e i j → Reads d expression_level e i j
from_level n w {d} {e} {i} {j} r =
    let q : 9 - n + suc n ≡ 10 = omega arith in
    no_comma (no_assignment (no_choice (subst (λ (x : ℕ). Reads d (binary_level x) e i j) q (raised (9 - n) (suc n) r))))

pub as_choosing : {d : ℕ} {e : Expr} {i j : List Token} → Reads d cast_level e i j → Reads d conditional_level e i j
as_choosing r = no_choice (chained_up 10 r)

pub as_assigning : {d : ℕ} {e : Expr} {i j : List Token} → Reads d postfix_level e i j → Reads d assignment_level e i j
as_assigning r = no_assignment (as_choosing (as_casting r))

pub as_expression : {d : ℕ} {e : Expr} {i j : List Token} → Reads d cast_level e i j → Reads d expression_level e i j
as_expression r = no_comma (no_assignment (as_choosing r))

-- suffixes after suffixes
pub joined_suffixes : {d at : ℕ} {a b e : Expr} {i j k : List Token} → Suffixes d at a b i j → Suffixes d at b e j k → Suffixes d at a e i k
joined_suffixes no_suffix g = g
joined_suffixes (an_index h r c f) g = an_index h r c (joined_suffixes f g)
joined_suffixes (an_empty_call h c f) g = an_empty_call h c (joined_suffixes f g)
joined_suffixes (a_call h r c f) g = a_call h r c (joined_suffixes f g)
joined_suffixes (a_member h n f) g = a_member h n (joined_suffixes f g)
joined_suffixes (a_postfix h f) g = a_postfix h (joined_suffixes f g)

-- one more suffix, whose node has the place of its operand
pub suffixed_by : {F : ℕ → Expr} {d : ℕ} {a : Expr} {i j k : List Token} → Reads d postfix_level a i j → ((at : ℕ) → Suffixes d at a (F at) j k) → (at : ℕ) × Reads d postfix_level (F at) i k
suffixed_by (with_suffixes {at = at} p r s) f = (at, with_suffixes p r (joined_suffixes s (f at)))

pub begins_suffixes : {d at : ℕ} {a e : Expr} {i j k : List Token} → i ≡ k → Suffixes d at a e k j → Suffixes d at a e i j
begins_suffixes {d} {at} {a} {e} {i} {j} q r = subst (λ (x : List Token). Suffixes d at a e x j) (sym q) r

pub joined_lengthens : {d at : ℕ} {a b e : Declarator} {i j k : List Token} → Lengthens d at a b i j → Lengthens d at b e j k → Lengthens d at a e i k
joined_lengthens no_more g = g
joined_lengthens (an_array h r c f) g = an_array h r c (joined_lengthens f g)
joined_lengthens (a_function h r c f) g = a_function h r c (joined_lengthens f g)

pub begins_lengthens : {d at : ℕ} {a e : Declarator} {i j k : List Token} → i ≡ k → Lengthens d at a e k j → Lengthens d at a e i j
begins_lengthens {d} {at} {a} {e} {i} {j} q r = subst (λ (x : List Token). Lengthens d at a e x j) (sym q) r
