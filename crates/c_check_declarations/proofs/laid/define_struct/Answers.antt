use Rattle.std.proofs.Common.{◌∙◌, ap, refl}
use Rattle.c_check_values.specs.Shown.{knowns_of}
use Rattle.c_rules.specs.Scopes.{struct_of}
use Rattle.c_check_values.specs.View.{env_of}
use Rattle.c_check_declarations.proofs.MemberLemmas.{put_is, still_open, members_known, members_few}
use Rattle.c_check_declarations.proofs.laid.define_struct.Goals as goal

pub define-requires-clause-open : goal.define-requires-clause-open
define-requires-clause-open c = still_open c.args.env.now.structs c.tag_number-number.result (ap (struct_of (env_of c.args.env.now)) c.tag_number-number.ensures ∙ c.requires.open)

pub define-requires-clause-known : goal.define-requires-clause-known
define-requires-clause-known c = members_known c.args.env.now.structs c.args.members.items c.requires.known

pub define-requires-clause-few : goal.define-requires-clause-few
define-requires-clause-few c = members_few c.args.env.now.structs c.args.members.items c.requires.few

pub returns : goal.returns
returns c = put_is (env_of c.args.env.now) c.args.tag.now c.tag_number-number.result c.args.env.now.structs c.define.new.self (knowns_of c.args.members.items) refl c.tag_number-number.ensures c.define.ensures
