use Rattle.std.proofs.Common.{◌≡◌, sym, ◌∙◌}
use Rattle.std.proofs.lemmas.Bool.{false≢true}
use Rattle.dm_base.specs.Fits.{Fits}
use Rattle.dyck_monitor.proofs.Adding.{adds_as, adds_nothing}
use Rattle.dyck_monitor.proofs.moves.add_end.Goals as goal

pub returns-then-fits : goal.returns-then-fits
returns-then-fits c =
    let edge = c.args.edge.now in
    adds_as (λ b. edge.to ≡ b) (λ b. Fits edge.name edge.args c.args.event.now × (edge.to ≡ b)) c.args.pool.now c.note.new.pool (λ b. (λ same. (c.fits.ensures.0 c.if-fits.true, same), λ both. both.1)) c.note.ensures

pub returns-else-fits : goal.returns-else-fits
returns-else-fits c =
    let edge = c.args.edge.now in
    adds_nothing (λ b. Fits edge.name edge.args c.args.event.now × (edge.to ≡ b)) c.args.pool.now (λ b both. absurd (false≢true (sym c.if-fits.false ∙ c.fits.ensures.1 both.0)))
