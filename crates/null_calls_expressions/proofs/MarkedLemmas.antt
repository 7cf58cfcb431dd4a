-- Expressions before others, and the comma expression of a marked call.
use Rattle.std.proofs.Common.{◌≡◌, ℕ, suc, Bool, true, false, List, [], ◌∷◌, ◌++◌, length, Option, Some, refl, sym, ap, ◌∙◌, arith}
use Rattle.c_tree.specs.Tree.{CType}
use Rattle.c_syntax.specs.declared.tree.Expr.{Expr as ExprTree}
use Rattle.c_syntax.specs.Tree.{Expr, a_name, comma, call, Exprs, no_exprs, more_exprs}
use Rattle.c_syntax.specs.View.{expr_of}
use Rattle.c_syntax.specs.Writes.{exprs_of}
use Rattle.null_calls_temporaries.specs.MarkedCalls.{Called}
use Rattle.null_calls_temporaries.specs.Temporaries.{pre_name, post_name, designator_name, argument_name, result_name, is_kept}
use Rattle.null_calls_temporaries.specs.InstrumentedExpressions.{kept_in, null_call, keep_designator, keep_arguments, kept_arguments, kept_designator, call_and_post, marked_call}
use Rattle.null_calls_expressions.specs.Lists.{exprs_onto}

pub onto_more : (es : List ExprTree) (e : ExprTree) (rest : Exprs) → exprs_onto (es ++ e ∷ []) rest ≡ exprs_onto es (more_exprs (expr_of e) rest)
onto_more [] e rest = refl
onto_more (f ∷ es) e rest = ap (more_exprs (expr_of f)) (onto_more es e rest)

pub onto_none : (es : List ExprTree) → exprs_onto es no_exprs ≡ exprs_of es
onto_none [] = refl
onto_none (e ∷ es) = ap (more_exprs (expr_of e)) (onto_none es)

-- the list grew by one tree, which is known
pub onto_one : (old new : List ExprTree) (x : ExprTree) (e : Expr) → expr_of x ≡ e → ((rest : Exprs) → exprs_onto new rest ≡ exprs_onto old (more_exprs (expr_of x) rest)) → (rest : Exprs) → exprs_onto new rest ≡ exprs_onto old (more_exprs e rest)
onto_one old new x e is step rest = step rest ∙ ap (λ y. exprs_onto old (more_exprs y rest)) is

-- ## Arguments

longer : {X : Type 0} (xs : List X) (x : X) → length (xs ++ x ∷ []) ≡ suc (length xs)
longer [] x = refl
longer (y ∷ xs) x = ap suc (longer xs x)

module _ (at site : ℕ) (args : List ExprTree) where
  pub none_kept : (list passed items : List ExprTree) → passed ≡ [] → items ≡ args → (rest : Exprs) → exprs_onto list (keep_arguments at site (length passed) (exprs_of items) rest) ≡ exprs_onto list (keep_arguments at site 0 (exprs_of args) rest)
  none_kept list passed items none is rest = ap (λ ps. exprs_onto list (keep_arguments at site (length ps) (exprs_of items) rest)) none ∙ ap (λ xs. exprs_onto list (keep_arguments at site 0 (exprs_of xs) rest)) is

  pub none_passed : (passed items : List ExprTree) → passed ≡ [] → items ≡ args → exprs_onto passed (kept_arguments at site (length passed) (exprs_of items)) ≡ kept_arguments at site 0 (exprs_of args)
  none_passed passed items none is = ap (λ ps. exprs_onto ps (kept_arguments at site (length ps) (exprs_of items))) none ∙ ap (λ xs. kept_arguments at site 0 (exprs_of xs)) is

-- an argument is kept
module _ (at site : ℕ) (x p : ExprTree) (items xs : List ExprTree) (passed more : List ExprTree) (is : items ≡ x ∷ xs) (grown : more ≡ passed ++ p ∷ []) where
  pub keeps_more : (old new : List ExprTree) (whole : Exprs → Exprs) → ((rest : Exprs) → exprs_onto old (keep_arguments at site (length passed) (exprs_of items) rest) ≡ whole rest)
      → ((rest : Exprs) → exprs_onto new rest ≡ exprs_onto old (more_exprs (kept_in at (argument_name site (length passed)) (expr_of x)) rest))
      → (rest : Exprs) → exprs_onto new (keep_arguments at site (length more) (exprs_of xs) rest) ≡ whole rest
  keeps_more old new whole before step rest =
      ap (λ n. exprs_onto new (keep_arguments at site n (exprs_of xs) rest)) (ap length grown ∙ longer passed p)
      ∙ (step (keep_arguments at site (suc (length passed)) (exprs_of xs) rest)
      ∙ (ap (λ ys. exprs_onto old (keep_arguments at site (length passed) (exprs_of ys) rest)) (sym is) ∙ before rest))

  -- its temporary is passed
  pub passes_more : (whole : Exprs) → exprs_onto passed (kept_arguments at site (length passed) (exprs_of items)) ≡ whole → expr_of p ≡ a_name at (argument_name site (length passed))
      → exprs_onto more (kept_arguments at site (length more) (exprs_of xs)) ≡ whole
  passes_more whole before named =
      ap (λ ys. exprs_onto ys (kept_arguments at site (length ys) (exprs_of xs))) grown
      ∙ (ap (λ n. exprs_onto (passed ++ p ∷ []) (kept_arguments at site n (exprs_of xs))) (longer passed p)
      ∙ (onto_more passed p (kept_arguments at site (suc (length passed)) (exprs_of xs)) ∙ (ap (λ e. exprs_onto passed (more_exprs e (kept_arguments at site (suc (length passed)) (exprs_of xs)))) named
      ∙ (ap (λ ys. exprs_onto passed (kept_arguments at site (length passed) (exprs_of ys))) (sym is) ∙ before))))

empty : {X : Type 0} (xs : List X) → length xs ≡ 0 → xs ≡ []
empty [] h = refl
empty (x ∷ xs) h = absurd (omega (arith, h))

pub all_kept : (at site n : ℕ) (items list : List ExprTree) (whole : Exprs → Exprs) → length items ≡ 0 → ((rest : Exprs) → exprs_onto list (keep_arguments at site n (exprs_of items) rest) ≡ whole rest) → (rest : Exprs) → exprs_onto list rest ≡ whole rest
all_kept at site n items list whole none is rest = sym (ap (λ xs. exprs_onto list (keep_arguments at site n (exprs_of xs) rest)) (empty items none)) ∙ is rest

pub all_passed : (at site n : ℕ) (items passed : List ExprTree) (whole : Exprs) → length items ≡ 0 → exprs_onto passed (kept_arguments at site n (exprs_of items)) ≡ whole → exprs_of passed ≡ whole
all_passed at site n items passed whole none is = sym (onto_none passed) ∙ (sym (ap (λ xs. exprs_onto passed (kept_arguments at site n (exprs_of xs))) (empty items none)) ∙ is)

-- the call and what follows it
pub post_unwanted : (at site : ℕ) (e : Expr) (old mid new : List ExprTree) → ((rest : Exprs) → exprs_onto mid rest ≡ exprs_onto old (more_exprs e rest)) → ((rest : Exprs) → exprs_onto new rest ≡ exprs_onto mid (more_exprs (null_call at post_name site) rest))
    → exprs_of new ≡ exprs_onto old (call_and_post at site false e)
post_unwanted at site e old mid new first second = sym (onto_none new) ∙ (second no_exprs ∙ first (more_exprs (null_call at post_name site) no_exprs))

pub post_wanted : (at site : ℕ) (e : Expr) (z : ExprTree) (old one two new : List ExprTree) → ((rest : Exprs) → exprs_onto one rest ≡ exprs_onto old (more_exprs (kept_in at (result_name site) e) rest))
    → ((rest : Exprs) → exprs_onto two rest ≡ exprs_onto one (more_exprs (null_call at post_name site) rest))
    → expr_of z ≡ a_name at (result_name site) → ((rest : Exprs) → exprs_onto new rest ≡ exprs_onto two (more_exprs (expr_of z) rest)) → exprs_of new ≡ exprs_onto old (call_and_post at site true e)
post_wanted at site e z old one two new p q c r =
    sym (onto_none new) ∙ (onto_one two new z _ c r no_exprs ∙ (q (more_exprs (a_name at (result_name site)) no_exprs)
    ∙ p (more_exprs (null_call at post_name site) (more_exprs (a_name at (result_name site)) no_exprs))))

-- the whole
pub marked_made : (at site : ℕ) (w : Bool) (c : Called) (d f one y : Expr) (es passed : Exprs) (first second third : List ExprTree) (last : List ExprTree) (k : Bool)
    → ((rest : Exprs) → exprs_onto first rest ≡ keep_designator at site c.pointer_type d rest) → f ≡ kept_designator at site c.pointer_type d
    → ((rest : Exprs) → exprs_onto second rest ≡ exprs_onto first (keep_arguments at site 0 es rest)) → passed ≡ kept_arguments at site 0 es
    → y ≡ null_call at pre_name site → ((rest : Exprs) → exprs_onto third rest ≡ exprs_onto second (more_exprs y rest))
    → one ≡ call at f passed → k ≡ is_kept w c.returns → exprs_of last ≡ exprs_onto third (call_and_post at site k one) → comma at (exprs_of last) ≡ marked_call at site w c d es
marked_made at site w c d f one y es passed first second third last k ds is args same pre third_is called kept all =
    let whole : one ≡ call at (kept_designator at site c.pointer_type d) (kept_arguments at site 0 es) = called ∙ (ap (λ g. call at g passed) is ∙ ap (call at (kept_designator at site c.pointer_type d)) same) in
    let tail = call_and_post at site (is_kept w c.returns) (call at (kept_designator at site c.pointer_type d) (kept_arguments at site 0 es)) in
    ap (comma at) (all ∙ (ap (λ j. exprs_onto third (call_and_post at site j one)) kept ∙ (ap (λ x. exprs_onto third (call_and_post at site (is_kept w c.returns) x)) whole
    ∙ (third_is tail ∙ (ap (λ x. exprs_onto second (more_exprs x tail)) pre ∙ (args (more_exprs (null_call at pre_name site) tail) ∙ ds (keep_arguments at site 0 es (more_exprs (null_call at pre_name site) tail))))))))

-- a pointer is kept
pub keeps_some : (at site : ℕ) (o : Option CType) (t : CType) (d : Expr) (old new : List ExprTree) → o ≡ Some t
    → ((rest : Exprs) → exprs_onto new rest ≡ exprs_onto old (more_exprs (kept_in at (designator_name site) d) rest)) → (rest : Exprs) → exprs_onto new rest ≡ exprs_onto old (keep_designator at site o d rest)
keeps_some at site o t d old new q step rest = step rest ∙ ap (λ p. exprs_onto old (keep_designator at site p d rest)) (sym q)

pub gives_some : (at site : ℕ) (o : Option CType) (t : CType) (d e : Expr) → o ≡ Some t → e ≡ a_name at (designator_name site) → e ≡ kept_designator at site o d
gives_some at site o t d e q named = named ∙ ap (λ p. kept_designator at site p d) (sym q)
