-- No copy stands twice in the list of copies.
use Rattle.std.proofs.Common.{◌≡◌, ◌≢◌, inl, inr, ◌+◌, List, [], ◌∷◌, ◌++◌, length, Contains, AllPairs, refl, sym, ◌∙◌, ap, subst, arith}
use Rattle.std.specs.declared.cmp.Ordering.TheVariants.{Less}
use Rattle.std.proofs.lemmas.List.{append-nil, append_assoc, length-append}
use Rattle.std.proofs.lemmas.List.Elements.{Contains-append_cases}
use Rattle.flow_model.specs.Graph.{Graph}
use Rattle.flow_model.specs.Order.{StrictlyRise}
use Rattle.inline_model.specs.Copies.{Opened, opened_order, Copies, Branches, AreCopies}
use Rattle.inline_model.specs.Copies.Copies.{unfolds}
use Rattle.inline_model.specs.Copies.Branches.{over, branch}
use Rattle.inline_model.proofs.OneInlined.{opened_order_total}
use Rattle.flow_model.proofs.Rising.{cons_cases, is_first, is_later, pairs_nil, pairs_cons, pairs_head, pairs_tail}

pairs_append : {X : Type 0} (R : X → X → Type 0) (xs ys : List X) → AllPairs R xs → AllPairs R ys → ((x y : X) → Contains xs x → Contains ys y → R x y) → AllPairs R (xs ++ ys)
pairs_append R [] ys one two across = two
pairs_append R (x ∷ xs) ys one two across =
    pairs_cons R x (xs ++ ys)
    (λ z has. elim (Contains-append_cases xs ys z has) [ inl left ↦ pairs_head R x xs one z left | inr right ↦ across x z (is_first x xs) right ])
    (pairs_append R xs ys (pairs_tail R x xs one) two (λ w z left right. across w z (is_later x xs w left) right))

-- the list ends in the other
record EndsIn (tail list : List Opened) : Type 0 where
  front : List Opened
  is : list ≡ front ++ tail

shorter : {call : Opened} {tail list : List Opened} → EndsIn (call ∷ tail) list → EndsIn tail list
shorter {call} {tail} there = record { front = there.front ++ call ∷ []; is = there.is ∙ sym (append_assoc there.front (call ∷ []) tail) }

not_itself : (call : Opened) (tail : List Opened) → EndsIn (call ∷ tail) tail → ⊥
not_itself call tail there = omega (arith, ap length there.is, length-append there.front (call ∷ tail))

same_end : (xs ys : List Opened) (x y : Opened) (tail : List Opened) → xs ++ x ∷ tail ≡ ys ++ y ∷ tail → x ≡ y
same_end [] [] x y tail same = cc
same_end [] (z ∷ ys) x y tail same =
    let rest : tail ≡ ys ++ y ∷ tail = cc in
    absurd (omega (arith, ap length rest, length-append ys (y ∷ tail)))
same_end (z ∷ xs) [] x y tail same =
    let rest : xs ++ x ∷ tail ≡ tail = cc in
    absurd (omega (arith, ap length rest, length-append xs (x ∷ tail)))
same_end (z ∷ xs) (w ∷ ys) x y tail same =
    let rest : xs ++ x ∷ tail ≡ ys ++ y ∷ tail = cc in
    same_end xs ys x y tail rest

not_before_itself : (call : Opened) → opened_order call call ≡ Less → ⊥
not_before_itself call less = let other = opened_order_total.antisymm call call in cc

-- copies that go on from one by different calls differ
apart : {x y : Opened} {copy c d : List Opened} → opened_order x y ≡ Less → EndsIn (x ∷ copy) c → EndsIn (y ∷ copy) d → c ≢ d
apart {x} {y} {copy} less one two same =
    let call : x ≡ y = same_end one.front two.front x y copy (sym one.is ∙ same ∙ two.is) in
    not_before_itself x (subst (λ z. opened_order x z ≡ Less) (sym call) less)

record Distinct (g : Graph) (copy : List Opened) (list rest : List (List Opened)) : Type 0 where
  front : List (List Opened)
  stands : list ≡ front ++ rest
  ends : (d : List Opened) → Contains front d → EndsIn copy d
  differ : AllPairs (λ c d. c ≢ d) front

record DistinctBranches (g : Graph) (copy calls : List Opened) (list rest : List (List Opened)) : Type 0 where
  front : List (List Opened)
  stands : list ≡ front ++ rest
  ends : (d : List Opened) → Contains front d → (call : Opened) × Contains calls call × EndsIn (call ∷ copy) d
  differ : AllPairs (λ c d. c ≢ d) front

distinct_unfolded : (g : Graph) (copy calls : List Opened) (list rest : List (List Opened)) → DistinctBranches g copy calls list rest → Distinct g copy (copy ∷ list) rest
distinct_unfolded g copy calls list rest there = record {
  front = copy ∷ there.front;
  stands = ap (λ xs. copy ∷ xs) there.stands;
  ends = λ d has. elim (cons_cases copy there.front d has) [
    | inl same ↦ record { front = []; is = sym same }
    | inr later ↦ shorter (there.ends d later).2
  ];
  differ = pairs_cons (λ c d. c ≢ d) copy there.front (λ d has same. let end = there.ends d has in not_itself end.0 copy (subst (EndsIn (end.0 ∷ copy)) (sym same) end.2)) there.differ;
}

distinct_more : (g : Graph) (copy calls : List Opened) (call : Opened) (list middle rest : List (List Opened)) → StrictlyRise opened_order (call ∷ calls) → Distinct g (call ∷ copy) list middle → DistinctBranches g copy calls middle rest → DistinctBranches g copy (call ∷ calls) list rest
distinct_more g copy calls call list middle rest rise one more = record {
  front = one.front ++ more.front;
  stands = one.stands ∙ ap (λ xs. one.front ++ xs) more.stands ∙ sym (append_assoc one.front more.front rest);
  ends = λ d has. elim (Contains-append_cases one.front more.front d has) [
    | inl left ↦ (call, is_first call calls, one.ends d left)
    | inr right ↦ (let end = more.ends d right in (end.0, is_later call calls end.0 end.1, end.2))
  ];
  differ = pairs_append (λ c d. c ≢ d) one.front more.front one.differ more.differ
      (λ c d left right. let end = more.ends d right in apart (pairs_head (λ x y. opened_order x y ≡ Less) call calls rise end.0 end.1) (one.ends c left) end.2);
}

mutual
  distinct : {g : Graph} {copy : List Opened} {list rest : List (List Opened)} → Copies g copy list rest → Distinct g copy list rest
  distinct {g} {copy} {rest = rest} (unfolds {calls = calls} {list = list} are branches) = distinct_unfolded g copy calls list rest (distinct_branches branches are.rise)

  distinct_branches : {g : Graph} {copy calls : List Opened} {list rest : List (List Opened)} → Branches g copy calls list rest → StrictlyRise opened_order calls → DistinctBranches g copy calls list rest
  distinct_branches {list = list} over rise = record { front = []; stands = refl; ends = λ d has. absurd (omega (arith, has.1)); differ = pairs_nil (λ c d. c ≢ d) }
  distinct_branches {g} {copy} {list = list} {rest = rest} (branch {calls = calls} {call = call} {middle = middle} one more) rise =
      distinct_more g copy calls call list middle rest rise (distinct one) (distinct_branches more (pairs_tail (λ x y. opened_order x y ≡ Less) call calls rise))

pub copies_differ : {g : Graph} {copies : List (List Opened)} → AreCopies g copies → AllPairs (λ c d. c ≢ d) copies
copies_differ are =
    let there = distinct are in
    subst (AllPairs (λ c d. c ≢ d)) (sym (there.stands ∙ append-nil there.front)) there.differ
