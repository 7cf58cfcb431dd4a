use Rattle.std.proofs.Common.{ℕ, decimal, subst, ◌≡◌, ◌≢◌, ◌<◌, ◌^◌, [], length, refl, ap, arith, rules}
use Rattle.std.proofs.lemmas.Bool.{false≢true, eqb-true, eq-eqb}
use Rattle.std.proofs.lemmas.List.{nil_from_length}
use Rattle.line_text.proofs.NumberLemmas.{begins_all, begins_zero, begins_some, begins_none}
use Rattle.line_text.proofs.decimal.begins_number.Goals as goal

pub returns-then-is_empty : goal.returns-then-is_empty
returns-then-is_empty c =
    let none : c.args.text.now ≡ [] = nil_from_length c.args.text.now (grind arith) in
    (λ _. rw none (begins_all c.args.least c.args.most c.requires), λ _. refl)

pub returns-in-Some-eq0 : goal.returns-in-Some-eq0
returns-in-Some-eq0 c =
    let small : c.args.most < 2 ^ 64 = search rules in
    let both = begins_zero c.args.text.now c.args.least c.args.most (subst (λ (n : ℕ). c.args.text.now ≡ decimal n) c.in-Some-eq0.field-0-test c.in-Some-eq0.ensures.some) c.requires small in
    (λ holds. both.0 (eqb-true c.args.least 0 holds), λ begins. eq-eqb c.args.least 0 (both.1 begins))

pub returns-in-Some : goal.returns-in-Some
returns-in-Some c =
    let small : c.args.most < 2 ^ 64 = search rules in
    let fits : c.in-Some.front < 2 ^ 64 = search rules in
    let both = begins_some c.args.text.now c.in-Some.front c.args.least c.args.most c.in-Some.ensures.some (omega (arith, c.in-Some.front-test.1)) fits small in
    (λ holds. both.0 (c.is_front_in.ensures.0 holds), λ begins. c.is_front_in.ensures.1 (both.1 begins))

pub returns-in-None : goal.returns-in-None
returns-in-None c =
    let small : c.args.most < 2 ^ 64 = search rules in
    let some : c.args.text.now ≢ [] = λ none. (let len : length c.args.text.now ≡ 0 = ap length none in grind arith) in
    (λ holds. absurd (false≢true holds), λ begins. absurd (begins_none c.args.text.now c.args.least c.args.most some small c.in-None.ensures.none begins))
