use Rattle.std.proofs.Common.{◌≡◌, true, false, rules}
use Rattle.c_syntax.specs.UnitView.{items_of}
use Rattle.c_check_units.proofs.EnvironmentLemmas.{each_few, many_names}
use Rattle.c_check_units.proofs.environments.environment_before.Goals as goal

pub returns-then-not-are_all_few-clause-judged : goal.returns-then-not-are_all_few-clause-judged
returns-then-not-are_all_few-clause-judged c =
    let many : c.are_all_few.result ≡ false = search rules in
    many_names (items_of c.args.items.now) c.in_ok-functions.functions c.in-Ok.objects c.in-Ok-tags_of.tags c.are_all_few.result c.in_ok-functions.ensures c.in-Ok.ensures c.in-Ok-tags_of.ensures c.are_all_few.ensures many

pub of-functions-requires : goal.of-functions-requires
of-functions-requires c =
    let few : c.are_all_few.result ≡ true = search rules in
    (each_few c.in_ok-functions.functions c.in-Ok.objects c.in-Ok-tags_of.tags c.are_all_few.result c.are_all_few.ensures few).0

pub of-objects-requires : goal.of-objects-requires
of-objects-requires c =
    let few : c.are_all_few.result ≡ true = search rules in
    (each_few c.in_ok-functions.functions c.in-Ok.objects c.in-Ok-tags_of.tags c.are_all_few.result c.are_all_few.ensures few).1

pub of-tags-requires : goal.of-tags-requires
of-tags-requires c =
    let few : c.are_all_few.result ≡ true = search rules in
    (each_few c.in_ok-functions.functions c.in-Ok.objects c.in-Ok-tags_of.tags c.are_all_few.result c.are_all_few.ensures few).2
