use Rattle.std.proofs.Common.{arith}
use Rattle.c_check_scopes.specs.Shown.{knowns_of, members_types}
use Rattle.c_check_scopes.proofs.FittingLemmas.{fitting_there, few_there}
use Rattle.c_check_scopes.proofs.TableLemmas.{put_shown, put_laid, put_none, shows_open}
use Rattle.c_check_scopes.proofs.structs.put.Goals as goal

pub measured-defined-requires-clause-fitting : goal.measured-defined-requires-clause-fitting
measured-defined-requires-clause-fitting c = fitting_there c.args.structs.now.items c.deref.result.now c.deref.ensures.value c.requires.laid

pub measured-defined-requires-clause-few : goal.measured-defined-requires-clause-few
measured-defined-requires-clause-few c = few_there c.args.structs.now.items c.deref.result.now (members_types c.args.members.items) c.deref.ensures.value c.requires.laid c.requires.few

pub returns-then-place-len-clause-shown : goal.returns-then-place-len-clause-shown
returns-then-place-len-clause-shown c = put_none c.args.structs.now.items c.args.place (knowns_of c.args.members.items) (omega arith)

pub returns-clause-shown : goal.returns-clause-shown
returns-clause-shown c = put_shown c.args.structs.now.items c.args.place c.measured-defined.result (knowns_of c.args.members.items) c.measured-defined.ensures.members

pub returns-clause-laid : goal.returns-clause-laid
returns-clause-laid c =
    put_laid c.args.structs.now.items c.deref.result.now c.args.place c.measured-defined.result (knowns_of c.args.members.items) c.deref.ensures.value (shows_open c.args.structs.now.items c.args.place (omega arith) c.requires.open)
    c.measured-defined.ensures.members c.measured-defined.ensures.measured c.requires.known c.requires.laid
