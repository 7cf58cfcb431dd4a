use Rattle.std.proofs.Common.{◌≡◌, ◌-◌, ◌<◌, ◌∷◌, ◌++◌, suc, length, map, drop, get_or, sym, ap, ◌∙◌, subst, arith}
use Rattle.std.proofs.lemmas.List.{drop_all}
use Rattle.inline_model.specs.declared.table.Entry.{Entry}
use Rattle.inline_model.specs.Copying.{waiting_of}
use Rattle.inline_model.proofs.CopyingLemmas.{waits_more}
use Rattle.inline_model.proofs.copying.wait_for.Goals as goal

abbrev nothing : Entry
nothing = record { function = 0; place = 0; candidate = 0 }

pub loop-i-init : goal.loop-i-init
loop-i-init c = record {
  within = omega arith;
  held = sym (ap (λ xs. map (waiting_of c.args.parent) xs ++ c.args.stack.now) (drop_all (length c.args.own.now) c.args.own.now (omega arith)));
}

pub loop-i-preserved : goal.loop-i-preserved
loop-i-preserved c =
    let k = c.loop-i.i - 1 in
    let lt : k < length c.args.own.now = omega (arith, c.loop-i-test.true, c.loop-i.invariant.within) in
    let next : c.loop-i.i ≡ suc k = omega (arith, c.loop-i-test.true) in
    record {
      within = omega arith;
      held = c.in_ok-push.ensures ∙ ap (λ s. waiting_of c.args.parent (get_or c.args.own.now k nothing) ∷ s) c.loop-i.invariant.held ∙ waits_more c.args.own.now k c.loop-i.i c.args.parent nothing c.args.stack.now lt next;
    }

pub returns : goal.returns
returns c =
    let zero : c.loop-i.i ≡ 0 = omega (arith, c.loop-i-test.false) in
    subst (λ k. c.loop-i.stack ≡ map (waiting_of c.args.parent) (drop k c.args.own.now) ++ c.args.stack.now) zero c.loop-i.invariant.held
