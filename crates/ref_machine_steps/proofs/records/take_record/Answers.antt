use Rattle.std.proofs.Common.{FitsSigned, w64, rules}
use Rattle.std.proofs.lemmas.Int.{to_z-of_z}
use Rattle.ref_machine_steps.proofs.TakingLemmas.{fits_if_answers}
use Rattle.ref_machine_steps.proofs.records.take_record.Goals as goal

pub result_value-requires : goal.result_value-requires
result_value-requires c =
    let fits : FitsSigned w64 c.args.given.now.value = search rules in
    rw (c.result_kind.ensures, to_z-of_z w64 c.args.given.now.value fits) (fits_if_answers c.args.name c.args.asked.asked c.args.given.now (search rules))
