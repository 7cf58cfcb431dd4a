use Rattle.std.proofs.Common.{arith}
use Rattle.c_check_declarations.proofs.ParameterLemmas.{none_declared}
use Rattle.c_check_declarations.proofs.scopes.+declare_parameters.Goals as goal
use Rattle.c_check_values.specs.View.{env_of}

pub returns-in-empty-ts : goal.returns-in-empty-ts
returns-in-empty-ts t c = none_declared (env_of c.args.env.now) c.args.number c.args.ps.now c.args.ts.now c.in-empty-ts.len_below
