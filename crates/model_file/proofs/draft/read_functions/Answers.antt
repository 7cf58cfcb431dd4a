use Rattle.std.proofs.Common.{◌<◌, ◌∷◌, [], List, length, sym, ap, subst, arith, rules}
use Rattle.std.proofs.lemmas.List.{length-append}
use Rattle.std.proofs.lemmas.Result.{err_from_is_err_and}
use Rattle.flow_model.specs.Built.{Records}
use Rattle.flow_model.specs.declared.records.ModelFunction.{ModelFunction}
use Rattle.model_file.specs.Progress.{IsAt}
use Rattle.model_file.specs.States.{Fixed, AtFunctions}
use Rattle.model_file.proofs.FrameLemmas.{taken, stopped}
use Rattle.model_file.proofs.HeadLemmas.{fixed, function_step}
use Rattle.model_file.proofs.draft.read_functions.Goals as goal

pub loop-done-preserved : goal.loop-done-preserved
loop-done-preserved c =
    let less : length c.loop-done.builder.functions < c.args.count = omega arith in
    let functions = ap (λ (b : Records). b.functions) c.in_ok-function.ensures.ok in
    record {
      place = c.in_ok-one.ensures.place;
      edges = search rules;
      long = omega (arith, ap length functions, length-append c.loop-done.builder.functions (c.in_ok-one.one ∷ []));
      told = λ v start.
          let told = c.loop-done.invariant.told v start in
          let at = taken c.args.text.now c.loop-done.place c.take_function.new.place c.in_ok-one.one (fixed v (function_step v c.args.count c.loop-done.builder.functions told.some.0.graph told.some.1 less told.some.2.1)) told c.in_ok-one.ensures.taken in
          subst (λ (fs : List ModelFunction). IsAt (Fixed v (AtFunctions v c.args.count fs)) c.args.text.now c.take_function.new.place) (sym functions) at;
    }

pub returns-in_err-one-clause-stopped : goal.returns-in_err-one-clause-stopped
returns-in_err-one-clause-stopped c v start =
    let less : length c.loop-done.builder.functions < c.args.count = omega arith in
    let p = err_from_is_err_and c.from_residual.result c.from_residual.ensures.1 in
    let told = c.loop-done.invariant.told v start in
    rw (p.1, p.2) (stopped c.args.text.now c.loop-done.place c.take_function.new.place _ (fixed v (function_step v c.args.count c.loop-done.builder.functions told.some.0.graph told.some.1 less told.some.2.1)) told c.in_err-one.ensures.taken)
