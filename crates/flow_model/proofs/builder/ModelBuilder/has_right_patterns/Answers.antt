use Rattle.std.proofs.Common.{◌≡◌, rules}
use Rattle.flow_model.proofs.builder.ModelBuilder.has_right_patterns.Goals as goal

pub returns : goal.returns
returns c = λ nodes start.
    let same : c.deref.result.now ≡ c.args.self.now.sys = search rules in
    rw (← same) c.are_patterns_right.ensures
