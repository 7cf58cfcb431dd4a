use Rattle.std.proofs.Common.{◌≡◌, ◌-◌, suc, ap, ◌∙◌, arith}
use Rattle.c_values.specs.Memory.{changed}
use Rattle.c_values.specs.Seen.{seen}
use Rattle.c_meaning.specs.Meaning.{static_name}
use Rattle.ref_machine_steps.proofs.ObjectLemmas.{object_of, static_more}
use Rattle.ref_machine_steps.proofs.objects.static_objects.Goals as goal

pub overflow_cast-name : goal.overflow_cast-name
overflow_cast-name c = let within = c.loop-number.invariant.0 in omega (arith, c.requires.few, within)

pub loop-number-preserved : goal.loop-number-preserved
loop-number-preserved c =
    let within = c.loop-number.invariant.0 in
    let next : c.loop-number.number ≡ suc (c.loop-number.number - 1) = omega arith in
    (omega (arith, within), static_more c.args.statics.now (c.loop-number.number - 1) c.loop-number.number c.index-statics-number.result (seen c.loop-number.memory) (seen c.add_object.new.memory) next within c.index-statics-number.is c.loop-number.invariant.1 (c.in_ok-add_object.ensures ∙ ap (λ vs. changed (seen c.loop-number.memory) (static_name (c.loop-number.number - 1)) (object_of vs c.index-statics-number.result.string)) c.deref.ensures.value))
