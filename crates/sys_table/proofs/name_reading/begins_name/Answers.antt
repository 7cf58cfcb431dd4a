use Rattle.std.proofs.Common.{◌≡◌, length, drop, refl, sym, ◌∙◌, ap, inl, inr, arith}
use Rattle.std.proofs.lemmas.Bool.{cases_lt}
use Rattle.line_text.proofs.WordLemmas.{begins_from_test, no_begin_from_test}
use Rattle.sys_table.specs.Table.{name_of}
use Rattle.sys_table.proofs.name_reading.begins_name.Goals as goal

pub returns-then-starts_with : goal.returns-then-starts_with
returns-then-starts_with c =
    let text = c.args.text.now in
    let name = c.name_text.result.now in
    let begins = begins_from_test text name (sym c.starts_with.ensures.value ∙ c.if-starts_with.true) in
    let is : name_of c.in-Some.name ≡ name = sym c.name_text.ensures in
    (λ _. (c.in-Some.name, drop (length text) name, (omega (arith, c.in-Some.ensures.name, c.loop-i.auto.i), omega (arith, c.in-Some.ensures.name)), is ∙ begins), λ _. refl)

pub loop-i-preserved : goal.loop-i-preserved
loop-i-preserved c x rest low below is =
    elim (cases_lt x c.loop-i.i) [
      | inl before ↦ c.loop-i.invariant x rest low before is
      | inr here ↦
          let same : x ≡ c.in-Some.name = omega (arith, c.in-Some.ensures.name) in
          no_begin_from_test c.args.text.now c.name_text.result.now rest (sym c.starts_with.ensures.value ∙ c.if-starts_with.false) (c.name_text.ensures ∙ ap name_of (sym same) ∙ is)
    ]
