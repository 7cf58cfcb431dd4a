use Rattle.std.proofs.Common.{[], List, ℕ, sym, subst, arith}
use Rattle.std.specs.Prelude.{Some}
use Rattle.std.proofs.lemmas.List.Elements.{All-nil}
use Rattle.c_lexer.specs.Kinds.{IsByte}
use Rattle.c_lexer.specs.Elements.{ReadsElement, HasNoElement}
use Rattle.c_lexer.specs.Literals.HasElements.{none}
use Rattle.c_lexer.proofs.LiteralValues.{slice_rest, read_more, read_further}
use Rattle.c_lexer.proofs.literal.read_elements.Goals as goal

pub loop-element-init : goal.loop-element-init
loop-element-init c = record {
  values = [];
  within = omega arith;
  are = none;
  have = (sym c.new.ensures.items, All-nil IsByte);
}

pub loop-element-smaller : goal.loop-element-smaller
loop-element-smaller c =
    let found = subst (λ (i : List ℕ). ReadsElement c.args.quote i (Some c.in-Some.element)) (slice_rest c.loop-element.found.length c.args.text.now) c.in-Some.ensures in
    read_further c.args.quote c.args.text.now c.loop-element.found c.push.new.self c.in-Some.element c.loop-element.invariant found c.in_ok-push.ensures.length

pub loop-element-preserved : goal.loop-element-preserved
loop-element-preserved c =
    let found = subst (λ (i : List ℕ). ReadsElement c.args.quote i (Some c.in-Some.element)) (slice_rest c.loop-element.found.length c.args.text.now) c.in-Some.ensures in
    read_more c.args.quote c.args.text.now c.loop-element.found c.push.new.self c.in-Some.element c.loop-element.invariant found c.in_ok-push.ensures.length c.in_ok-push.ensures.values

pub returns : goal.returns
returns c = (
  c.loop-element.invariant,
  subst (λ (i : List ℕ). HasNoElement c.args.quote i) (slice_rest c.loop-element.found.length c.args.text.now) c.in_default.ensures,
)
