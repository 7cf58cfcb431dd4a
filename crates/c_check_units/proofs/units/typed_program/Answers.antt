use Rattle.std.proofs.Common.{◌≡◌, ap, true, false, rules, refl, sym, ◌∙◌}
use Rattle.std.specs.Prelude.{codes, unwrap_or}
use Rattle.c_rules.specs.Checked.{fine}
use Rattle.c_rules.specs.Names.{number_among}
use Rattle.c_check_values.specs.View.{before_of, env_of}
use Rattle.c_syntax.specs.UnitView.{items_of}
use Rattle.c_check_units.specs.Made.{output_of}
use Rattle.c_check_units.proofs.TypedLemmas.{as_many, no_main, typed}
use Rattle.c_check_units.proofs.units.typed_program.Goals as goal

pub program_with-requires-clause-counted : goal.program_with-requires-clause-counted
program_with-requires-clause-counted c =
    as_many (items_of c.args.listed.now) c.args.mode (env_of c.args.env.now) (before_of c.args.before.now) (output_of c.args.defined.items c.args.objects.items) c.main_number-number.result c.requires.behind c.requires.counted c.requires.given c.main_number-number.ensures c.requires.few

pub program_with-requires-clause-typed : goal.program_with-requires-clause-typed
program_with-requires-clause-typed c =
    let main : c.has_main.result ≡ true = search rules in
    c.requires.right _
    (typed (items_of c.args.listed.now) c.args.mode (env_of c.args.env.now) (before_of c.args.before.now) (output_of c.args.defined.items c.args.objects.items) c.main_number-number.result c.requires.behind c.requires.counted c.requires.given c.main_number-number.ensures c.requires.few
    (sym c.has_main.ensures ∙ main))

pub returns-then-not-has_main : goal.returns-then-not-has_main
returns-then-not-has_main c =
    let main : c.has_main.result ≡ false = search rules in
    no_main (items_of c.args.listed.now) c.args.mode (env_of c.args.env.now) (before_of c.args.before.now) (output_of c.args.defined.items c.args.objects.items) (unwrap_or (number_among (env_of c.args.env.now).whole.functions (codes "main")) 0) c.requires.behind c.requires.counted c.requires.given refl c.requires.few (sym c.has_main.ensures ∙ main)

pub returns : goal.returns
returns c =
    let main : c.has_main.result ≡ true = search rules in
    typed (items_of c.args.listed.now) c.args.mode (env_of c.args.env.now) (before_of c.args.before.now) (output_of c.args.defined.items c.args.objects.items) c.main_number-number.result c.requires.behind c.requires.counted c.requires.given c.main_number-number.ensures c.requires.few
    (sym c.has_main.ensures ∙ main)
    ∙ ap fine (sym c.in_ok-program.ensures)
