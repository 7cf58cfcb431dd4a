-- A model that is made of records which are in order already is what they say.
use Rattle.std.proofs.Common.{◌≡◌, List, [], ◌∷◌, refl, sym, ap₂, subst}
use Rattle.std.specs.Prelude.{All, IsPermutation}
use Rattle.std.specs.Cmp.{IsTotalOrder, nat_cmp_total}
use Rattle.std.specs.List.{AllZip}
use Rattle.std.specs.Ordering.{nat_cmp}
use Rattle.std.specs.declared.cmp.Ordering.{Ordering}
use Rattle.std.specs.declared.cmp.Ordering.TheVariants.{Less}
use Rattle.std.proofs.lemmas.List.Elements.{All-tail, All-head}
use Rattle.std.proofs.lemmas.List.Sorted.{All-permutation, IsPermutation-sym}
use Rattle.flow_model.specs.Built.{IsReordered, IsMadeOf}
use Rattle.flow_model.specs.Call.{Call}
use Rattle.flow_model.specs.Graph.{Graph}
use Rattle.flow_model.specs.Order.{silent_order, sys_order, site_order, StrictlyRise}
use Rattle.flow_model.specs.Rules.{IsInOrder}
use Rattle.flow_model.proofs.OneOrder.{one_order}
use Rattle.flow_model.proofs.OrderLemmas.{silent_order_total, sys_order_total}

-- a total order goes one way
apart : {X : Type 0} {order : X → X → Ordering} → IsTotalOrder order → (x y : X) → order x y ≡ Less → order y x ≡ Less → ⊥
apart total x y less back = let other = total.antisymm x y in cc

sites_apart : (c d : Call) → site_order c d ≡ Less → site_order d c ≡ Less → ⊥
sites_apart c d = apart nat_cmp_total c.site d.site

abbrev HasRisingCandidates : Call → Type 0
HasRisingCandidates c = StrictlyRise nat_cmp c.candidates

same_call : (c d : Call) → HasRisingCandidates c → HasRisingCandidates d → IsReordered c d → d ≡ c
same_call c d rise_c rise_d moved =
    let candidates : d.candidates ≡ c.candidates = sym (one_order nat_cmp (apart nat_cmp_total) c.candidates d.candidates rise_c rise_d moved.candidates) in
    λ i. record { from = moved.from i; site = moved.site i; to = moved.to i; candidates = candidates i }

same_calls : (cs ds : List Call) → All HasRisingCandidates cs → All HasRisingCandidates ds → AllZip IsReordered cs ds → ds ≡ cs
same_calls [] [] rise_c rise_d moved = refl
same_calls [] (d ∷ ds) rise_c rise_d moved = absurd moved
same_calls (c ∷ cs) [] rise_c rise_d moved = absurd moved
same_calls (c ∷ cs) (d ∷ ds) rise_c rise_d moved =
    ap₂ (λ x xs. x ∷ xs) (same_call c d (All-head HasRisingCandidates c cs rise_c) (All-head HasRisingCandidates d ds rise_d) moved.0)
    (same_calls cs ds (All-tail HasRisingCandidates c cs rise_c) (All-tail HasRisingCandidates d ds rise_d) moved.1)

pub made_of_ordered : (g m : Graph) → IsInOrder g → IsInOrder m → IsMadeOf g m → m ≡ g
made_of_ordered g m given kept made =
    let cs = made.calls.0 in
    let rise : All HasRisingCandidates cs = All-permutation HasRisingCandidates m.calls cs (IsPermutation-sym cs m.calls made.calls.2) kept.candidates in
    let same : cs ≡ g.calls = same_calls g.calls cs given.candidates rise made.calls.1 in
    let calls : m.calls ≡ g.calls = sym (one_order site_order sites_apart g.calls m.calls given.calls kept.calls (subst (λ (ds : List Call). IsPermutation ds m.calls) same made.calls.2)) in
    let silent : m.silent ≡ g.silent = sym (one_order silent_order (apart silent_order_total) g.silent m.silent given.silent kept.silent made.silent) in
    let sys : m.sys ≡ g.sys = sym (one_order sys_order (apart sys_order_total) g.sys m.sys given.sys kept.sys made.sys) in
    λ i. record { nodes = made.nodes i; start = made.start i; functions = made.functions i; silent = silent i; sys = sys i; calls = calls i }
