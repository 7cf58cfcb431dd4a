-- Where initialisers open past the limits (C99 6.7.8).
use Rattle.std.proofs.Common.{inl, inr, ◌≤◌, suc, List, ◌∷◌, refl, ℕ}
use Rattle.c_lexer.specs.declared.token.Token.{Token}
use Rattle.c_lexer.specs.declared.punctuator.TheConstants.{LEFT_BRACE, COMMA}
use Rattle.c_syntax.specs.Tree.{Init, one as one_init, list, no_inits, more_inits}
use Rattle.c_syntax.specs.Tokens.{Is}
use Rattle.c_syntax.specs.Grammar.{assignment_level}
use Rattle.c_syntax.specs.Statements.{ReadsInit, an_expression, a_list, last_init, next_init}
use Rattle.c_syntax_printing.proofs.FrameStatements.{init_on}
use Rattle.c_syntax_printing.proofs.MorePairsOfUnits.{wide_init}
use Rattle.c_syntax_printing.specs.Nodes.{in_one, list_here, in_list, in_first_init, in_later_init}
use Rattle.c_syntax_printing.specs.Opens.{Opens, DeepExpr, DeepInit, DeepInits}
use Rattle.c_syntax_printing.proofs.Opening.{opens_as, opens_under, opens_here, opens_past, opens_before, opens_token}
use Rattle.c_syntax_printing.proofs.Fills.{name_token, name_reads}
use Rattle.c_syntax_printing.proofs.ExprOpens.{either}
use Rattle.c_syntax_printing.proofs.BodyOpens.{close_brace}

pub init_value_opens : {at p n : ℕ} {i r : List Token} → Opens (DeepExpr at p n assignment_level) i r → Opens (DeepInit at p n) i r
init_value_opens o = opens_as (λ k m a. record { tree = one_init _ a.tree; reads = an_expression a.reads refl; deep = either in_one (λ y. y) a.deep }) o

-- a list for which no node is left
pub list_too_deep : {p : ℕ} {t : Token} {i : List Token} → Is LEFT_BRACE t → Opens (DeepInit t.from p 0) (t ∷ i) (t ∷ i)
list_too_deep h = opens_here (λ m. record {
  tokens = name_token 0 ∷ close_brace ∷ m;
  reads = record { tree = list _ _; reads = a_list h (last_init (an_expression (name_reads 0) refl)) (record { kind = refl }); deep = inl list_here };
})

pub init_list_opens : {at p n : ℕ} {t : Token} {i r : List Token} → Is LEFT_BRACE t → Opens (DeepInits at p n) i r → Opens (DeepInit at p (suc n)) (t ∷ i) r
init_list_opens h o =
    opens_token (opens_before o (λ m. record { tokens = close_brace ∷ m; reads = λ k a. record { tree = list _ a.trees; reads = a_list h a.reads (record { kind = refl }); deep = either in_list (λ y. y) a.deep } }))

pub first_init_opens : {at p n : ℕ} {i r : List Token} → Opens (DeepInit at p n) i r → Opens (DeepInits at p n) i r
first_init_opens o = opens_as (λ k m a. record { trees = more_inits a.tree no_inits; reads = last_init a.reads; deep = either in_first_init (λ y. y) a.deep }) o

pub later_init_opens : {at p n d : ℕ} {a : Init} {t : Token} {i j r : List Token} → d ≤ suc p → Is COMMA t → ReadsInit d a i (t ∷ j) → Opens (DeepInits at p n) j r → Opens (DeepInits at p n) i r
later_init_opens {a = a} g h w o =
    opens_past (init_on (wide_init w g)) (opens_under (λ k m y l b. record { trees = more_inits a y.trees; reads = next_init b h y.reads; deep = either in_later_init (λ v. inr v) y.deep }) o)
