-- Calls, and members of comma expressions, whose parts were made.
use Rattle.std.proofs.Common.{◌≡◌, ℕ, suc, ◌+◌, ◌-◌, ◌<◌, ◌≤◌, Bool, true, false, nat_eq, List, [], ◌∷◌, ◌++◌, length, drop, Result, Ok, Err, OnOk, refl, sym, ap, ◌∙◌, arith}
use Rattle.std.specs.Prelude.{◌&&◌}
use Rattle.std.proofs.Math.Bool.{and_comm}
use Rattle.std.proofs.lemmas.Bool.Decides.{nat_tests}
use Rattle.std.proofs.lemmas.List.{append_assoc, append-nil, length-drop}
use Rattle.c_syntax.specs.declared.tree.Expr.{Expr as ExprTree}
use Rattle.c_syntax.specs.Tree.{Expr, call, Exprs, more_exprs}
use Rattle.c_syntax.specs.View.{expr_of}
use Rattle.c_syntax.specs.Writes.{exprs_of}
use Rattle.c_rules.specs.Counts.{calls}
use Rattle.dm_base.proofs.ListLemmas.{two_parts}
use Rattle.null_calls_temporaries.specs.MarkedCalls.{Sites}
use Rattle.null_calls_temporaries.specs.Temporaries.{Temporary, temporaries_where}
use Rattle.null_calls_temporaries.specs.InstrumentedExpressions.{call_where, expr, kept, arguments, members, kept_of_arguments, kept_of_members}
use Rattle.null_calls_expressions.specs.Marked.{IsMarked, Reached, of_expr, of_arguments, of_members}
use Rattle.null_calls_expressions.proofs.Turns.{both, alike, node}

-- ## Calls

-- the designator, the temporaries of the call itself, and the arguments
pub call_made : (sites : Sites) (w : Bool) {s t : Reached} (at site n : ℕ) (one two : List Temporary) {d f whole made : Expr} {es args : Exprs} → IsMarked (of_expr sites true) s (site, one) d f → n ≡ site + 1 → two ≡ one ++ temporaries_where site w (sites site)
    → IsMarked (of_arguments sites) (n, two) t es args → whole ≡ call at d es → made ≡ call_where at site w (sites site) f args → IsMarked (of_expr sites w) s t whole made
call_made sites w {s = s} at site n one two {d = d} {f = f} {es = es} p next own q is built =
    let n_is : n ≡ suc site = omega (arith, next) in
    let c = temporaries_where site w (sites site) in
    let a = kept_of_arguments sites (suc site) es in
    alike (sym is) (record {
      tree = built ∙ (λ i. call_where at site w (sites site) (p.tree i) (q.tree i)) ∙ (ap (λ m. call_where at site w (sites site) (expr sites s.0 true d) (arguments sites m es)) n_is
          ∙ ap (λ k. call_where at k w (sites k) (expr sites s.0 true d) (arguments sites (suc k) es)) p.counts);
      keeps = q.keeps ∙ (ap (λ m. two ++ kept_of_arguments sites m es) n_is ∙ (ap (λ ys. ys ++ a) (two_parts s.1 one two (kept sites s.0 true d) c p.keeps own) ∙ (append_assoc s.1 (kept sites s.0 true d ++ c) a
          ∙ (ap (λ ys. s.1 ++ ys) (append_assoc (kept sites s.0 true d) c a) ∙ ap (λ k. s.1 ++ (kept sites s.0 true d ++ (temporaries_where k w (sites k) ++ kept_of_arguments sites (suc k) es))) p.counts))));
      counts = omega (arith, next, p.counts, q.counts);
    })

-- ## Members of a comma expression

abbrev is_last : {A : Type 0} → List A → Bool
is_last [] = true
is_last (x ∷ xs) = false

last_is : {A : Type 0} (xs : List A) (n m : ℕ) → length xs ≡ m - n → n ≤ m → is_last xs ≡ nat_eq n m
last_is [] n m h le = grind (arith, nat_tests)
last_is (x ∷ xs) n m h le = grind (arith, nat_tests)

one_member : (sites : Sites) (b : ℕ) (w : Bool) (e : ExprTree) (es : List ExprTree) → members sites b w (exprs_of (e ∷ es)) ≡ more_exprs (expr sites b (is_last es && w) (expr_of e)) (members sites (b + calls (expr_of e)) w (exprs_of es))
one_member sites b w e [] = refl
one_member sites b w e (f ∷ es) = refl

one_kept : (sites : Sites) (b : ℕ) (w : Bool) (e : ExprTree) (es : List ExprTree) → kept_of_members sites b w (exprs_of (e ∷ es)) ≡ kept sites b (is_last es && w) (expr_of e) ++ kept_of_members sites (b + calls (expr_of e)) w (exprs_of es)
one_kept sites b w e [] = sym (append-nil (kept sites b w (expr_of e)))
one_kept sites b w e (f ∷ es) = refl

module _ (sites : Sites) (w own : Bool) (es : List ExprTree) (i : ℕ) (lt : i < length es) (wanted : own ≡ (w && nat_eq (i + 1) (length es))) where
  own_is : (is_last (drop (i + 1) es) && w) ≡ own
  own_is = ap (λ t. t && w) (last_is (drop (i + 1) es) (i + 1) (length es) (length-drop (i + 1) es) (omega (arith, lt))) ∙ (and_comm (nat_eq (i + 1) (length es)) w ∙ sym wanted)

  pub member_first : {s t r : Reached} (e : ExprTree) {x : Expr} {others : Exprs} → IsMarked (of_expr sites own) s t (expr_of e) x → IsMarked (of_members sites w) t r (exprs_of (drop (i + 1) es)) others
      → IsMarked (of_members sites w) s r (exprs_of (e ∷ drop (i + 1) es)) (more_exprs x others)
  member_first {s = s} e p q =
      let rest = drop (i + 1) es in
      node (both p q) (λ z. more_exprs z.0 z.1) refl refl (one_member sites s.0 w e rest ∙ ap (λ v. more_exprs (expr sites s.0 v (expr_of e)) (members sites (s.0 + calls (expr_of e)) w (exprs_of rest))) own_is)
      (one_kept sites s.0 w e rest ∙ ap (λ v. kept sites s.0 v (expr_of e) ++ kept_of_members sites (s.0 + calls (expr_of e)) w (exprs_of rest)) own_is) refl

-- ## An expression that stands for another

pub on_like : {A E P Q : Type 0} (r : Result A E) → (P → Q) → OnOk r P → OnOk r Q
on_like (Ok a) f p = f p
on_like (Err e) f p = tt
