use Rattle.std.proofs.Common.{slice_get, refl, ap, sym, ◌∙◌}
use Rattle.c_tree.specs.Tree.{array}
use Rattle.c_tree.specs.Layout.{extent_with}
use Rattle.c_tree.specs.View.{ctype_of}
use Rattle.c_check_scopes.specs.Measured.{extent_kept}
use Rattle.c_check_scopes.proofs.TableLemmas.{no_elements, no_array, array_told}
use Rattle.c_check_scopes.proofs.measures.+size_in.Goals as goal

pub returns-in_err-each-in-Array : goal.returns-in_err-each-in-Array
returns-in_err-each-in-Array t c =
    no_elements (λ t. (extent_with (λ s. extent_kept (slice_get c.args.structs.now s)) t).size) (λ u n. refl) c.from_residual.result (ctype_of c.args.t.now) (ctype_of c.deref.result.now) c.in-Array.n c.from_residual.ensures
    (ap ctype_of c.in-Array.is ∙ ap (λ u. array (ctype_of u) c.in-Array.n) (sym c.deref.ensures)) c.if-n-eq0.false c.in_err-each-in-Array.ensures

pub returns-in_err-size-in-Array : goal.returns-in_err-size-in-Array
returns-in_err-size-in-Array t c =
    no_array (λ t. (extent_with (λ s. extent_kept (slice_get c.args.structs.now s)) t).size) (λ u n. refl) c.from_residual-in_err-size-in-Array.result (ctype_of c.args.t.now) (ctype_of c.deref.result.now) c.in-Array.n c.in_ok-each-in-Array.each
    c.from_residual-in_err-size-in-Array.ensures (ap ctype_of c.in-Array.is ∙ ap (λ u. array (ctype_of u) c.in-Array.n) (sym c.deref.ensures)) c.in_ok-each-in-Array.ensures.1 c.in_err-size-in-Array.ensures

pub returns-in_ok-size-in-Array : goal.returns-in_ok-size-in-Array
returns-in_ok-size-in-Array t c =
    array_told (λ t. (extent_with (λ s. extent_kept (slice_get c.args.structs.now s)) t).size) (λ u n. refl) (ctype_of c.args.t.now) (ctype_of c.deref.result.now) c.in-Array.n c.in_ok-each-in-Array.each c.in_ok-size-in-Array.size
    (ap ctype_of c.in-Array.is ∙ ap (λ u. array (ctype_of u) c.in-Array.n) (sym c.deref.ensures)) c.in_ok-each-in-Array.ensures.1 c.in_ok-size-in-Array.ensures.0 c.in_ok-size-in-Array.ensures.1
