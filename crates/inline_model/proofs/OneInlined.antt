-- There is one inlined model at most.
use Rattle.std.proofs.Common.{◌≡◌, ℕ, ◌-◌, List, [], ◌∷◌, Some, refl, sym, ◌∙◌, ap, subst}
use Rattle.std.specs.Cmp.{IsTotalOrder, nat_cmp_total}
use Rattle.std.proofs.lemmas.Cmp.{on_total, then_total}
use Rattle.flow_model.specs.declared.records.ModelFunction.{ModelFunction}
use Rattle.flow_model.specs.declared.records.SilentEdge.{SilentEdge}
use Rattle.flow_model.specs.declared.records.SysEdge.{SysEdge}
use Rattle.flow_model.specs.Graph.{Graph}
use Rattle.flow_model.specs.Order.{silent_order, sys_order}
use Rattle.flow_model.proofs.OrderLemmas.{silent_order_total, sys_order_total}
use Rattle.inline_model.specs.Copies.{Opened, function_of, opened_order, node_count, AreOpenings, Copies, Branches, AreCopies}
use Rattle.inline_model.specs.Copies.Copies.{unfolds}
use Rattle.inline_model.specs.Copies.Branches.{over, branch}
use Rattle.inline_model.specs.Inlined.{HasInlinedSilent, HasInlinedSys, IsInlined}
use Rattle.flow_model.proofs.Rising.{same_members}

pub opened_order_total : IsTotalOrder opened_order
opened_order_total = then_total (on_total (λ e. e.site) nat_cmp_total) (on_total (λ e. e.candidate) nat_cmp_total)

same_openings : (g : Graph) (f h : ℕ) (xs ys : List Opened) → f ≡ h → AreOpenings g f xs → AreOpenings g h ys → xs ≡ ys
same_openings g f h xs ys same one two =
    let there : AreOpenings g f ys = subst (λ k. AreOpenings g k ys) (sym same) two in
    same_members opened_order opened_order_total xs ys one.rise there.rise (λ z has. (there.all z).1 ((one.all z).0 has)) (λ z has. (one.all z).1 ((there.all z).0 has))

mutual
  same_copies : {g : Graph} {copy copy' : List Opened} {xs ys r q : List (List Opened)} → Copies g copy xs r → Copies g copy' ys q → copy ≡ copy' → r ≡ q → xs ≡ ys
  same_copies {g} (unfolds {copy = copy} {calls = calls} {list = list} are branches) (unfolds {copy = copy'} {calls = calls'} {list = list'} are' branches') same rest =
      let calls_same : calls ≡ calls' = same_openings g (function_of g copy) (function_of g copy') calls calls' (ap (function_of g) same) are are' in
      let lists : list ≡ list' = same_branches branches branches' same calls_same rest in
      λ i. same i ∷ lists i

  same_branches : {g : Graph} {copy copy' calls calls' : List Opened} {xs ys r q : List (List Opened)} → Branches g copy calls xs r → Branches g copy' calls' ys q → copy ≡ copy' → calls ≡ calls' → r ≡ q → xs ≡ ys
  same_branches over over same calls rest = rest
  same_branches over (branch one more) same calls rest = absurd (cc)
  same_branches (branch one more) over same calls rest = absurd (cc)
  same_branches (branch {calls = calls} {call = call} {middle = middle} one more) (branch {calls = calls'} {call = call'} {middle = middle'} one' more') same both rest =
      let first : call ≡ call' = cc in
      let later : calls ≡ calls' = cc in
      let middles : middle ≡ middle' = same_branches more more' same later rest in
      same_copies one one' (λ i. first i ∷ same i) middles

pub one_inlined : (g m n : Graph) → IsInlined g m → IsInlined g n → m ≡ n
one_inlined g m n one two =
    let copies : one.copies ≡ two.copies = same_copies one.are two.are refl refl in
    let some : Some one.function ≡ Some two.function = sym one.is_start ∙ two.is_start in
    let function : one.function ≡ two.function = cc in
    let nodes : m.nodes ≡ n.nodes = one.nodes ∙ ap (node_count g) copies ∙ sym two.nodes in
    let start : m.start ≡ n.start = one.start ∙ sym two.start in
    let functions : m.functions ≡ n.functions = one.functions ∙ ap (λ (f : ModelFunction). record { name = f.name; entry = 0; exit = f.exit - f.entry } ∷ []) function ∙ sym two.functions in
    let silent : m.silent ≡ n.silent = same_members silent_order silent_order_total m.silent n.silent one.silent_rise two.silent_rise
    (λ (z : SilentEdge) has. (two.silent z.from z.to).1 (subst (λ cs. HasInlinedSilent g cs z.from z.to) copies ((one.silent z.from z.to).0 has)))
    (λ (z : SilentEdge) has. (one.silent z.from z.to).1 (subst (λ cs. HasInlinedSilent g cs z.from z.to) (sym copies) ((two.silent z.from z.to).0 has))) in
    let sys : m.sys ≡ n.sys = same_members sys_order sys_order_total m.sys n.sys one.sys_rise two.sys_rise
    (λ (z : SysEdge) has. (two.sys z.from z.name z.args z.to).1 (subst (λ cs. HasInlinedSys g cs z.from z.name z.args z.to) copies ((one.sys z.from z.name z.args z.to).0 has)))
    (λ (z : SysEdge) has. (one.sys z.from z.name z.args z.to).1 (subst (λ cs. HasInlinedSys g cs z.from z.name z.args z.to) (sym copies) ((two.sys z.from z.name z.args z.to).0 has))) in
    let calls : m.calls ≡ n.calls = one.calls ∙ sym two.calls in
    λ i. record { nodes = nodes i; start = start i; functions = functions i; silent = silent i; sys = sys i; calls = calls i }

-- two lists of all copies are one
pub one_list : {g : Graph} {xs ys : List (List Opened)} → AreCopies g xs → AreCopies g ys → xs ≡ ys
one_list one two = same_copies one two refl refl
