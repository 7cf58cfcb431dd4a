-- The names of the variables in a body.
use Rattle.std.proofs.Common.{◌≡◌, refl, append-nil}
use Rattle.c_syntax.specs.Tree.{Stmt, block, empty, evaluate, only_if, if_else, while_loop, do_loop, for_loop, switch_on, break_off, continue_on, return_from}
use Rattle.c_check_scopes.specs.Functions.{items_of_body}
use Rattle.c_check_scopes.specs.Variables.{names_of_stmt, names_of_block}

-- the names in a body
pub names_in_body : (s : Stmt) → names_of_block (items_of_body s) ≡ names_of_stmt s
names_in_body (block at is) = refl
names_in_body (empty at) = refl
names_in_body (evaluate at e) = refl
names_in_body (only_if at e s) = append-nil (names_of_stmt (only_if at e s))
names_in_body (if_else at e s t) = append-nil (names_of_stmt (if_else at e s t))
names_in_body (while_loop at e s) = append-nil (names_of_stmt (while_loop at e s))
names_in_body (do_loop at s e) = append-nil (names_of_stmt (do_loop at s e))
names_in_body (for_loop at first test step s) = append-nil (names_of_stmt (for_loop at first test step s))
names_in_body (switch_on at e gs) = append-nil (names_of_stmt (switch_on at e gs))
names_in_body (break_off at) = refl
names_in_body (continue_on at) = refl
names_in_body (return_from at m) = refl
