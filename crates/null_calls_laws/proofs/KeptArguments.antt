-- The arguments of a marked call are kept in temporaries, one after the other.
use Rattle.std.proofs.Common.{◌≡◌, ℕ, suc, ◌+◌, true, false, ◌&&◌, List, [], ◌∷◌, ◌++◌, length, refl, ap, ap₂, sym, subst, ◌∙◌, arith}
use Rattle.std.proofs.lemmas.List.{append-nil}
use Rattle.c_tree.specs.Tree.{CType, CTypes, no_types, more_types, list_of, Program}
use Rattle.c_tree.specs.Tree as typed
use Rattle.c_tree.specs.Operands.{IsScalar}
use Rattle.c_syntax.specs.Tree.{Expr, a_name, Exprs, no_exprs, more_exprs}
use Rattle.c_rules.specs.Checked.{Checked, fine, both}
use Rattle.c_rules.specs.Types.{count}
use Rattle.c_rules.specs.Scopes.{Env, Before}
use Rattle.c_rules.specs.Counts.{calls, after, string_cells}
use Rattle.c_rules.specs.TypedExpression.{not_constant, TypedExpression, typed_value, tree_of}
use Rattle.c_rules.specs.Conversions.{kind_of, fits, assigned}
use Rattle.c_rules.specs.PostfixExpressions.{all_fit, passed}
use Rattle.c_rules.specs.Expressions.{value_at, tree, trees, value}
use Rattle.null_calls_laws.specs.MarkedCalls.{Sites}
use Rattle.null_calls_laws.specs.Temporaries.{Temporary, argument_name, arguments_kept}
use Rattle.null_calls_laws.specs.InstrumentedExpressions.{expr, kept, kept_of_arguments, kept_in}
use Rattle.null_calls_laws.specs.InstrumentedPrograms as with_null_calls
use Rattle.c_rules_laws.specs.TypedAlike.{More, plain_scope, instrumented_scope}
use Rattle.null_calls_laws.specs.Remade.{remade, IsRemade, Follows}
use Rattle.null_calls_laws.proofs.Operands.{assigned_operand}
use Rattle.null_calls_laws.proofs.Binary.{fits_same}
use Rattle.null_calls_laws.specs.Counts.{AllNamed, Near}
use Rattle.null_calls_laws.proofs.ExpressionCounts.{counts_stay}
use Rattle.null_calls_laws.specs.Tabled.{AllTabled, AreFound}
use Rattle.null_calls_laws.specs.Follow.{types_of, AllGo}
use Rattle.null_calls_laws.proofs.Forms.{types_both, found_first, found_rest, value_goes}
use Rattle.null_calls_laws.specs.KeptArguments.{NearBy, ArgumentsAreKept, KeptArgumentsGo}
use Rattle.c_rules_laws.proofs.MadeTypes.{scalar_result}
use Rattle.null_calls_laws.proofs.BehindArguments.{result_value}
use Rattle.null_calls_laws.proofs.AddedParts.{temporaries_are_set}
pub use Rattle.c_rules_laws.proofs.Holding.{first_fine, and_left, and_right, fine_same}
pub use Rattle.c_rules_laws.proofs.RightTypedExpressions.{fits_scalar}

pub follows_fine : (p : Program) (k : ℕ) (ts : List CType) (r s : Checked TypedExpression) (g : TypedExpression) → Follows p k ts r s → r ≡ fine g → (x : typed.Expr) × (s ≡ fine (remade g x)) × IsRemade p k ts g x
follows_fine p k ts r s g h e = subst (λ z. Follows p k ts z s) e h

module _ (p : Program) (sites : Sites) (env : Env) (w : More) where
  abbrev L : Env
  L = plain_scope env

  abbrev R : Env
  R = instrumented_scope env w

  kept_go : (es : Exprs) (ps : CTypes) (slack : ℕ) → AllGo p sites env w es → (b b' : Before) (at site i j k : ℕ) (rest : Exprs) (gs : List TypedExpression) → AllNamed sites b.sites es → AllTabled p sites L b es → AreFound w.names j (arguments_kept site i ps) → AreFound w.names k (kept_of_arguments sites b.sites es) → NearBy slack b b'
      → trees L b es ≡ fine gs → all_fit ps gs ≡ true → length gs ≡ count ps → ArgumentsAreKept p sites env w slack b b' at site i j k es rest ps gs
  kept_go no_exprs no_types slack l b b' at site i j k rest gs n t f found r e fit long =
      let none : gs ≡ [] = fine_same gs [] (sym e) in
      subst (λ z. ArgumentsAreKept p sites env w slack b b' at site i j k no_exprs rest no_types z) (sym none) (record { given = []; last = b'; near = r; chain = λ hs q. q; types = refl; trees_kept = λ typed_rest hs q. q })
  kept_go no_exprs (more_types u ps) slack l b b' at site i j k rest gs n t f found r e fit long = absurd (let q : length gs ≡ 0 = ap length (fine_same gs [] (sym e)) in omega (arith, q, long))
  kept_go (more_exprs a es) no_types slack l b b' at site i j k rest gs n t f found r e fit long =
      (let c = first_fine (value L b a) (trees L (after b a) es) (λ g gs. fine (g ∷ gs)) gs e in absurd (let q : length gs ≡ suc (length c.1) = ap length (fine_same gs (c.0 ∷ c.1) (sym c.4)) in omega (arith, q, long)))
  kept_go (more_exprs a es) (more_types u ps) slack l b b' at site i j k rest gs n t f found r e fit long =
      let c = first_fine (value L b a) (trees L (after b a) es) (λ g gs. fine (g ∷ gs)) gs e in
      let g : TypedExpression = c.0 in
      let gs2 : List TypedExpression = c.1 in
      let same : gs ≡ g ∷ gs2 = fine_same gs (g ∷ gs2) (sym c.4) in
      let fits_all : (fits u g && all_fit ps gs2) ≡ true = subst (λ z. all_fit (more_types u ps) z ≡ true) same fit in
      let fits_one : fits u g ≡ true = and_left (fits u g) (all_fit ps gs2) fits_all in
      let scalar : IsScalar u = fits_scalar u g fits_one in
      let longer : length (g ∷ gs2) ≡ suc (count ps) = subst (λ z. length z ≡ suc (count ps)) same long in
      let xs : List Temporary = kept sites b.sites true a in
      let ys : List Temporary = kept_of_arguments sites (b.sites + calls a) es in
      let a1 : Expr = expr sites b.sites true a in
      let name = argument_name site i in
      let b1 : Before = after b' (a_name at name) in
      let near1 : Near b b1 = record { sites = (let q = r.sites in omega (arith, q)); strings = append-nil b'.strings ∙ r.strings; cells = (let q = r.cells in omega (arith, q)) } in
      let h = follows_fine p k (types_of xs) (value L b a) (value R b1 a1) g (value_goes p sites env w a l.0.wanted b b1 k n.0 t.0 (found_first w.names k xs ys found) near1) c.2 in
      let x : typed.Expr = h.0 in
      let fits_too : fits u (remade g x) ≡ true = fits_same p k [] [] u (kind_of u) g x ∙ fits_one in
      let kept_one : TypedExpression = typed_value u (typed.assign u (typed.variable u false j) (tree_of (assigned u (remade g x)))) not_constant in
      let set : tree R b' (kept_in at name a1) ≡ fine kept_one = temporaries_are_set env w b' at name j u a1 (remade g x) scalar f.0 h.1 fits_too in
      let one : value R b' (kept_in at name a1) ≡ fine kept_one = ap (value_at R at) set ∙ result_value R at u (typed.assign u (typed.variable u false j) (tree_of (assigned u (remade g x)))) (scalar_result u scalar) in
      let b2 : Before = after b' (kept_in at name a1) in
      let counted = counts_stay sites b.sites true a n.0 in
      let near2 : NearBy slack (after b a) b2 = record { sites = (let q = r.sites in let v = counted.calls_most in omega (arith, q, v)); strings = ap₂ (λ u v. u ++ v) r.strings counted.strings_same; cells = ap₂ (λ c ws. c + string_cells ws) r.cells counted.strings_same } in
      let m = kept_go es ps slack l.1 (after b a) b2 at site (suc i) (suc j) (k + length (types_of xs)) rest gs2 n.1 t.1 f.1 (found_rest w.names k xs ys found) near2 c.3 (and_right (fits u g) (all_fit ps gs2) fits_all) (omega (arith, longer)) in
      let o = assigned_operand p k (types_of xs) u g x h.2 in
      subst (λ z. ArgumentsAreKept p sites env w slack b b' at site i j k (more_exprs a es) rest (more_types u ps) z) (sym same)
      (record {
        given = kept_one ∷ m.given;
        last = m.last;
        near = m.near;
        chain = λ hs q. ap₂ (λ v ws. both v ws (λ g gs. fine (g ∷ gs))) one (m.chain hs q);
        types = ap₂ (λ v ws. v ++ ws) o.types m.types ∙ sym (types_both xs ys);
        trees_kept = λ typed_rest hs q. ap₂ (λ v ws. typed.more_exprs (typed.assign u (typed.variable u false j) v) ws) o.tree (m.trees_kept typed_rest hs q ∙ ap (λ vs. with_null_calls.keep_all (suc j) (list_of ps) (with_null_calls.arguments p (k + length vs) (passed ps gs2)) typed_rest) (sym o.types));
      })

pub kept_arguments_go : KeptArgumentsGo
kept_arguments_go p sites env w es ps slack l b b' at site i j k rest gs n t f found r e fit long = kept_go p sites env w es ps slack l b b' at site i j k rest gs n t f found r e fit long
