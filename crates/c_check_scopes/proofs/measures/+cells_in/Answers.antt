use Rattle.std.proofs.Common.{slice_get, refl, ap, sym, ◌∙◌}
use Rattle.c_tree.specs.Tree.{array}
use Rattle.c_tree.specs.View.{ctype_of}
use Rattle.c_check_scopes.specs.Measured.{cells_kept, counted}
use Rattle.c_check_scopes.proofs.TableLemmas.{no_elements, no_array, array_told}
use Rattle.c_check_scopes.proofs.measures.+cells_in.Goals as goal

pub returns-in_err-each-in-Array : goal.returns-in_err-each-in-Array
returns-in_err-each-in-Array t c =
    no_elements (counted (λ s. cells_kept (slice_get c.args.structs.now s))) (λ u n. refl) c.from_residual.result (ctype_of c.args.t.now) (ctype_of c.deref.result.now) c.in-Array.n c.from_residual.ensures
    (ap ctype_of c.in-Array.is ∙ ap (λ u. array (ctype_of u) c.in-Array.n) (sym c.deref.ensures)) c.if-n-eq0.false c.in_err-each-in-Array.ensures

pub returns-in_err-cells-in-Array : goal.returns-in_err-cells-in-Array
returns-in_err-cells-in-Array t c =
    no_array (counted (λ s. cells_kept (slice_get c.args.structs.now s))) (λ u n. refl) c.from_residual-in_err-cells-in-Array.result (ctype_of c.args.t.now) (ctype_of c.deref.result.now) c.in-Array.n c.in_ok-each-in-Array.each
    c.from_residual-in_err-cells-in-Array.ensures (ap ctype_of c.in-Array.is ∙ ap (λ u. array (ctype_of u) c.in-Array.n) (sym c.deref.ensures)) c.in_ok-each-in-Array.ensures.1 c.in_err-cells-in-Array.ensures

pub returns-in_ok-cells-in-Array : goal.returns-in_ok-cells-in-Array
returns-in_ok-cells-in-Array t c =
    array_told (counted (λ s. cells_kept (slice_get c.args.structs.now s))) (λ u n. refl) (ctype_of c.args.t.now) (ctype_of c.deref.result.now) c.in-Array.n c.in_ok-each-in-Array.each c.in_ok-cells-in-Array.cells
    (ap ctype_of c.in-Array.is ∙ ap (λ u. array (ctype_of u) c.in-Array.n) (sym c.deref.ensures)) c.in_ok-each-in-Array.ensures.1 c.in_ok-cells-in-Array.ensures.0 c.in_ok-cells-in-Array.ensures.1
