use Rattle.std.proofs.Common.{refl}
use Rattle.watch.proofs.WatchLemmas.{watched_nothing}
use Rattle.watch.proofs.watch.Watch.open.Goals as goal

pub returns : goal.returns
returns g c = record {
  model = refl;
  limit = refl;
  form = refl;
  within = c.requires;
  watched = watched_nothing g.M.Monitor _ c.new.result c.in_ok-pool.pool c.new.ensures.empty c.in_ok-pool.ensures.pool c.in_ok-pool.ensures.notes;
  order = c.new-2.ensures.empty;
  count = refl;
}
