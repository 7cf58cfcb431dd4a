-- A phrase that is read whatever follows it is a front.
use Rattle.std.proofs.Common.{◌≡◌, List, [], ◌∷◌, ◌++◌, refl, ap, sym, ◌∙◌, subst}
use Rattle.std.proofs.lemmas.List.{append_cancel_right}
use Rattle.c_lexer.specs.declared.token.Token.{Token}
use Rattle.c_syntax_printing.specs.Fronts.{IsFrontPhrase}
use Rattle.c_syntax_printing.specs.Twins.{Twin, here, along, On, OnAt}

-- the front that two lists have in common
front_of : {j k i m : List Token} → Twin j k i m → List Token
front_of here = []
front_of (along {t = t} q) = t ∷ front_of q

first_is : {j k i m : List Token} (q : Twin j k i m) → i ≡ front_of q ++ j
unfolding front_of
first_is here = refl
first_is (along {t = t} q) = ap (λ x. t ∷ x) (first_is q)

other_is : {j k i m : List Token} (q : Twin j k i m) → m ≡ front_of q ++ k
unfolding front_of
other_is here = refl
other_is (along {t = t} q) = ap (λ x. t ∷ x) (other_is q)

-- the two fronts of a list before one rest are one
same_front : {j k l i m n : List Token} (q : Twin j k i m) (r : Twin j l i n) → front_of r ≡ front_of q
same_front {j = j} q r = append_cancel_right (front_of r) (front_of q) j (sym (first_is r) ∙ first_is q)

pub front_of_all : {R : List Token → List Token → Type 0} {i j : List Token} → ((k : List Token) → On R i j k) → IsFrontPhrase R i j
front_of_all {R} {i} {j} f =
    let a : On R i j j = f j in
    record {
      front = front_of a.twin;
      is = first_is a.twin;
      again = λ k. let b : On R i j k = f k in subst (λ (x : List Token). R x k) (other_is b.twin ∙ ap (λ (x : List Token). x ++ k) (same_front a.twin b.twin)) b.reads;
    }

pub front_of_each : {R : List Token → List Token → Type 0} {i j : List Token} → ((k : List Token) → OnAt R i j k) → IsFrontPhrase R i j
front_of_each {R} {i} {j} f = front_of_all (λ k. let b : OnAt R i j k = f k in record { tokens = b.tokens; twin = b.twin; reads = b.reads })
