-- Nodes: as the terms that they are seen as, and what is said of them where they are made.
use Rattle.std.proofs.Common.{◌≡◌, ℕ, suc, max, sym, subst, refl, ap, ◌∙◌}
use Rattle.std.specs.Prelude.{Result, IfOk}
use Rattle.c_syntax.specs.declared.tree.DeclaratorKind.{DeclaratorKind, Name}
use Rattle.c_syntax.specs.Tree.{Expr, Exprs, comma, call, Declarator, Params, function}
use Rattle.c_syntax.specs.Grammar.{IsThere}
use Rattle.c_syntax.specs.Limits.{height, height_of_exprs, height_of_declarator, height_of_params}
use Rattle.c_syntax.specs.View.{declarator_at}
use Rattle.c_syntax_printing.specs.Nodes.{place_of_declarator}
use Rattle.c_parser_phrases.specs.declared.error.PhraseError.{PhraseError}
use Rattle.c_parser_phrases.specs.declared.depth.Depth.{Depth}
use Rattle.c_parser_phrases.specs.declared.depth.MeasuredExpr.{MeasuredExpr}
use Rattle.c_parser_phrases.specs.declared.depth.MeasuredDeclarator.{MeasuredDeclarator}
use Rattle.c_parser_phrases.specs.Inside.{IsInside, IsInsideDeclarator}
use Rattle.c_parser_phrases.specs.Making.{Makes, MakesDeclarator}
use Rattle.c_syntax.proofs.HeightLemmas.{both}
pub use Rattle.c_syntax.proofs.NodeRows.{comma_is, call_is, function_is, pointer_is, array_is}

-- the heights of these nodes
pub comma_height : {h d at : ℕ} {es : Exprs} {e : Expr} → h ≡ suc d → d ≡ height_of_exprs es → e ≡ comma at es → h ≡ height e
comma_height p q r = p ∙ ap suc q ∙ sym (ap height r)

pub call_height : {h m d g at : ℕ} {a : Expr} {es : Exprs} {e : Expr} → h ≡ suc m → m ≡ max d g → d ≡ height a → g ≡ height_of_exprs es → e ≡ call at a es → h ≡ height e
call_height p q r s t = p ∙ ap suc (q ∙ both r s) ∙ sym (ap height t)

pub function_height : {h m d g at : ℕ} {a : Declarator} {ps : Params} {e : Declarator} → h ≡ suc m → m ≡ max d g → d ≡ height_of_declarator a → g ≡ height_of_params ps → e ≡ function at a ps → h ≡ height_of_declarator e
function_height p q r s t = p ∙ ap suc (q ∙ both r s) ∙ sym (ap height_of_declarator t)

-- each kind makes a declarator, at the place

pub kind_there : (at : ℕ) (kind : DeclaratorKind) → IsThere (declarator_at at kind)
kind_there at (Name n) = tt
kind_there at kind = tt

pub place_is_declarator : (at : ℕ) (kind : DeclaratorKind) → at ≡ place_of_declarator (declarator_at at kind)
place_is_declarator at (Name n) = refl
place_is_declarator at kind = refl

-- what was made, said of the same node and the same depth

pub made_as : {x y : Expr} (r : Result MeasuredExpr PhraseError) → x ≡ y → Makes r x → Makes r y
made_as r q h = subst (λ z. Makes r z) q h

pub high_as : {m n : ℕ} (r : Result MeasuredExpr PhraseError) → m ≡ n → IfOk r (λ w. w.depth.height ≡ suc m) → IfOk r (λ w. w.depth.height ≡ suc n)
high_as r q h = subst (λ z. IfOk r (λ w. w.depth.height ≡ suc z)) q h

pub inside_as : {x y : Expr} {d : Depth} → x ≡ y → IsInside d y → IsInside d x
inside_as {d = d} q h = subst (λ z. IsInside d z) (sym q) h

pub made_declarator_as : {x y : Declarator} (r : Result MeasuredDeclarator PhraseError) → x ≡ y → MakesDeclarator r x → MakesDeclarator r y
made_declarator_as r q h = subst (λ z. MakesDeclarator r z) q h

pub high_declarator_as : {m n : ℕ} (r : Result MeasuredDeclarator PhraseError) → m ≡ n → IfOk r (λ w. w.depth.height ≡ suc m) → IfOk r (λ w. w.depth.height ≡ suc n)
high_declarator_as r q h = subst (λ z. IfOk r (λ w. w.depth.height ≡ suc z)) q h

pub inside_declarator_as : {x y : Declarator} {d : Depth} → x ≡ y → IsInsideDeclarator d y → IsInsideDeclarator d x
inside_declarator_as {d = d} q h = subst (λ z. IsInsideDeclarator d z) (sym q) h
