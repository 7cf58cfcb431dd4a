use Rattle.std.proofs.Common.{◌≡◌, refl, sym, ◌∙◌}
use Rattle.std.specs.Prelude.{true}
use Rattle.c_check_units.proofs.Parts.{raised, names_first, names_second}
use Rattle.c_check_globals.proofs.Moves.{both_is, node_fails, on_is}
use Rattle.c_rules.specs.Checked.{Checked, both, fine, on}
use Rattle.c_rules.specs.Expressions.{type_declared}
use Rattle.c_rules.specs.Functions.{behind_function, function_meaning}
use Rattle.c_rules.specs.Scopes.{Meaning}
use Rattle.c_check_statements.specs.Bound.{meaning_of}
use Rattle.c_check_statements.specs.View.{env_of}
use Rattle.c_syntax.specs.View.{declarator_of, ident_of, spec_of}
use Rattle.c_tree.specs.Tree.{CType}
use Rattle.c_tree.specs.View.{ctype_of}
use Rattle.c_check.proofs.functions.declare_definition.Goals as goal

pub returns-in_err-ctype-clause-judged : goal.returns-in_err-ctype-clause-judged
returns-in_err-ctype-clause-judged c =
    let p : Checked CType = type_declared (env_of c.args.env.now) c.args.at (spec_of c.args.s.now) (declarator_of c.args.d.now) in
    let k : CType → Checked Meaning = function_meaning (env_of c.args.env.now) true (ident_of c.args.x.now) in
    raised ctype_of (both (on p k) p (λ _ t. fine t)) c.from_residual.result c.in_err-ctype.field-0.0 c.from_residual.ensures (names_second c.in_err-ctype.field-0.0 (on p k) p (λ _ t. fine t) c.in_err-ctype.ensures.judged)

pub returns-in_err-means-clause-judged : goal.returns-in_err-means-clause-judged
returns-in_err-means-clause-judged c =
    let p : Checked CType = type_declared (env_of c.args.env.now) c.args.at (spec_of c.args.s.now) (declarator_of c.args.d.now) in
    let k : CType → Checked Meaning = function_meaning (env_of c.args.env.now) true (ident_of c.args.x.now) in
    let t : CType = ctype_of c.in_ok-ctype.ctype in
    let r : Checked Meaning = function_meaning (env_of c.type_declared.new.env) true (ident_of c.args.x.now) (ctype_of c.in_ok-copied.copied) in
    let node : r ≡ k t = λ i. function_meaning (env_of (c.in_ok-ctype.ensures.kept i)) true (ident_of c.args.x.now) (c.in_ok-copied.ensures i) in
    raised ctype_of (both (on p k) p (λ _ u. fine u)) c.from_residual-in_err-means.result c.in_err-means.field-0.0 c.from_residual-in_err-means.ensures
    (names_first c.in_err-means.field-0.0 (on p k) p (λ _ u. fine u) (node_fails c.in_err-means.field-0.0 p k t r c.in_ok-ctype.ensures.judged node c.in_err-means.ensures))

pub returns-clause-judged : goal.returns-clause-judged
returns-clause-judged c =
    let p : Checked CType = type_declared (env_of c.args.env.now) c.args.at (spec_of c.args.s.now) (declarator_of c.args.d.now) in
    let k : CType → Checked Meaning = function_meaning (env_of c.args.env.now) true (ident_of c.args.x.now) in
    let t : CType = ctype_of c.in_ok-ctype.ctype in
    let r : Checked Meaning = function_meaning (env_of c.type_declared.new.env) true (ident_of c.args.x.now) (ctype_of c.in_ok-copied.copied) in
    let node : r ≡ k t = λ i. function_meaning (env_of (c.in_ok-ctype.ensures.kept i)) true (ident_of c.args.x.now) (c.in_ok-copied.ensures i) in
    both_is (on p k) p (λ _ u. fine u) (meaning_of c.in_ok-means.means) t p (on_is p k t r c.in_ok-ctype.ensures.judged node ∙ c.in_ok-means.ensures) refl c.in_ok-ctype.ensures.judged

pub returns-clause-behind : goal.returns-clause-behind
returns-clause-behind c =
    let p : Checked CType = type_declared (env_of c.args.env.now) c.args.at (spec_of c.args.s.now) (declarator_of c.args.d.now) in
    let k : CType → Checked Meaning = function_meaning (env_of c.args.env.now) true (ident_of c.args.x.now) in
    let t : CType = ctype_of c.in_ok-ctype.ctype in
    let r : Checked Meaning = function_meaning (env_of c.type_declared.new.env) true (ident_of c.args.x.now) (ctype_of c.in_ok-copied.copied) in
    let node : r ≡ k t = λ i. function_meaning (env_of (c.in_ok-ctype.ensures.kept i)) true (ident_of c.args.x.now) (c.in_ok-copied.ensures i) in
    let meant : on p k ≡ fine (meaning_of c.in_ok-means.means) = on_is p k t r c.in_ok-ctype.ensures.judged node ∙ c.in_ok-means.ensures in
    c.in_ok-declare_function.ensures ∙ (λ i. behind_function (env_of (c.in_ok-ctype.ensures.kept i)) (c.as_slice.ensures i) (sym meant i))
