use Rattle.std.proofs.Common.{◌≡◌, ◌-◌, ◌++◌}
use Rattle.generated_program.specs.Generator.{drawn, functions_behind, main_items, generated_source}
use Rattle.generated_program.proofs.TextLemmas.{text_of}
use Rattle.generated_program.proofs.texts.generated_text.Given as goal

abbrev pub invariant-loop-done : goal.invariant-loop-done
invariant-loop-done l = record {
  written : l.text.items ++ text_of (functions_behind l.number l.done (l.last - l.done) (main_items l.last)) ≡ generated_source l.number l.last;
  drew : l.x ≡ drawn l.number l.done;
}
