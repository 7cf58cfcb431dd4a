use Rattle.tool_models.proofs.watching.WatchWatches.take.Goals as goal

pub returns-in-Ok : goal.returns-in-Ok
returns-in-Ok g c = λ g' k version records watched. (watched.0, c.in-Ok.ensures.stands g' k version records watched.1)
