-- What a sink takes in several calls.
use Rattle.std.proofs.Common.{◌≡◌, ℕ, ◌+◌, ◌-◌, List, ◌++◌, length, take, drop, length-drop, arith, Option, Some, None, sym, ◌∙◌, ap, subst, append_assoc}
use Rattle.std.proofs.Math.Seq.{take-add}
use Rattle.std.proofs.lemmas.List.{take_all}
use Rattle.dm_io.specs.Sink.{Takes}

-- what is taken in two calls
pub Takes-append : (a b c : Option (List ℕ)) (x y : List ℕ) → Takes a b x → Takes b c y → Takes a c (x ++ y)
Takes-append a b None x y p q = tt
Takes-append a None (Some c) x y p q = absurd q
Takes-append None (Some b) (Some c) x y p q = absurd p
Takes-append (Some a) (Some b) (Some c) x y p q = q ∙ ap (λ z. z ++ y) p ∙ append_assoc a x y

-- a part more of one text, from a slice of it
pub Takes-part : (a b c : Option (List ℕ)) (text : List ℕ) (n k : ℕ) → Takes a b (take n text) → Takes b c (take k (take (length text - n) (drop n text))) → Takes a c (take (n + k) text)
Takes-part a b c text n k p q =
    let rest : take (length text - n) (drop n text) ≡ drop n text = take_all (length text - n) (drop n text) (omega (arith, length-drop n text)) in
    let P : List ℕ → Type 0 = λ x. Takes a c x in
    subst P (ap (λ y. take n text ++ take k y) rest ∙ sym (take-add n k text)) (Takes-append a b c _ _ p q)
