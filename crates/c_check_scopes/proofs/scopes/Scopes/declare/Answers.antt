use Rattle.std.proofs.Common.{arith, [], ◌∷◌, ap, ◌∙◌, sym}
use Rattle.c_check_scopes.specs.Bound.{bound, place}
use Rattle.c_check_scopes.specs.Index.{onto}
use Rattle.c_check_scopes.proofs.IndexLemmas.{declared, onto_push}
use Rattle.c_check_scopes.proofs.scopes.Scopes.declare.Goals as goal

pub invariant_of-self-in-Ok : goal.invariant_of-self-in-Ok
invariant_of-self-in-Ok c =
    rw c.in_ok-push.ensures.items (declared _ _ c.self.inside.entries.items (record { name = c.args.name; depth = c.args.depth; means = c.args.means; hidden = c.newest_of-hidden.result }) c.len-place.result c.in-Ok.ensures.updates.0 (omega (arith, c.len-place.ensures, c.self.inside.entries.ok))
    (c.newest_of-hidden.ensures ∙ ap (λ bs. place bs c.args.name.now) (sym c.self.view_is)) c.self.invariant)

pub returns-in-Ok : goal.returns-in-Ok
returns-in-Ok c =
    ap (λ es. onto es []) c.in_ok-push.ensures.items ∙ onto_push c.self.inside.entries.items (record { name = c.args.name; depth = c.args.depth; means = c.args.means; hidden = c.newest_of-hidden.result }) []
    ∙ ap (λ bs. bound c.args.name.now c.args.depth c.args.means ∷ bs) c.self.view_is
