use Rattle.std.proofs.Common.{◌≡◌, ◌+◌, ◌-◌, ◌++◌, suc, refl, ap, ◌∙◌, arith}
use Rattle.generated_program.specs.Generator.{called_by, main_items, generated_source}
use Rattle.generated_program.specs.Pieces.{front_text, function_text}
use Rattle.generated_program.proofs.TextLemmas.{front_added, function_added, main_added, drawn_next}
use Rattle.generated_program.proofs.texts.generated_text.Goals as goal

pub loop-done-init : goal.loop-done-init
loop-done-init c = record {
  written = front_added c.args.number c.args.last (c.args.last - 0) c.push_front.new.text.items (omega arith) (c.in_ok-push_front.ensures ∙ ap (λ w. w ++ front_text) c.new-text.ensures.items);
  drew = refl;
}

pub loop-done-preserved : goal.loop-done-preserved
loop-done-preserved c =
    let next : c.loop-done.done + 1 ≡ suc c.loop-done.done = omega arith in
    let drew = drawn_next c.args.number c.loop-done.done (c.loop-done.done + 1) c.drawn_after-x.result c.loop-done.x next c.drawn_after-x.ensures c.loop-done.invariant.drew in
    record {
      written =
          function_added c.args.number c.loop-done.done (c.loop-done.done + 1) (c.args.last - c.loop-done.done) (c.args.last - (c.loop-done.done + 1)) c.drawn_after-x.result (main_items c.args.last) c.loop-done.text.items c.push_function.new.text.items (generated_source c.args.number c.args.last) next (omega arith) drew (c.in_ok-push_function.ensures ∙ ap (λ w. c.loop-done.text.items ++ function_text (c.loop-done.done + 1) (called_by c.drawn_after-x.result (c.loop-done.done + 1)) w) c.system_call.ensures) c.loop-done.invariant.written;
      drew = drew;
    }

pub returns : goal.returns
returns c =
    main_added c.args.number c.loop-done.done (c.args.last - c.loop-done.done) c.args.last c.loop-done.text.items c.push_main.new.text.items (generated_source c.args.number c.args.last) (omega arith) c.in_ok-push_main.ensures c.loop-done.invariant.written
