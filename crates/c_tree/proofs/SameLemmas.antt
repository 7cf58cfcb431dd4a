-- When two types are the same.
use Rattle.std.proofs.Common.{◌≡◌, ◌↔◌, ℕ, zero, suc, Bool, IsTrue, List, [], ◌∷◌, length, get_or, ◌<◌, refl, ap, sym, ◌∙◌, arith}
use Rattle.c_tree.specs.declared.tree.CType.{CType as TypeTree}
use Rattle.c_tree.specs.Tree.{CType, void, function, CTypes, no_types, more_types}
use Rattle.c_tree.specs.View.{ctype_of, types_of}
use Rattle.c_tree.proofs.SameBelow.{SameBelow}

abbrev count : CTypes → ℕ
count no_types = 0
count (more_types t ts) = suc (count ts)

count_types : (ts : List TypeTree) → count (types_of ts) ≡ length ts
count_types [] = refl
count_types (t ∷ ts) = ap suc (count_types ts)

-- the same types are as many
pub same_length : (ts us : List TypeTree) → types_of ts ≡ types_of us → length ts ≡ length us
same_length ts us q = sym (count_types ts) ∙ (ap count q ∙ count_types us)

abbrev pub result_in : CType → CType
result_in (function r ts) = r
result_in a = void

abbrev pub parameters_in : CType → CTypes
parameters_in (function r ts) = ts
parameters_in a = no_types

-- two functions are the same where their results and their parameters are
pub same_functions :
    (r : Bool) (a b t u : CType) (ts us : CTypes) → a ≡ function t ts → b ≡ function u us → t ≡ u → IsTrue r ↔ (ts ≡ us)
    → IsTrue r ↔ (a ≡ b)
same_functions r a b t u ts us p q same h = (λ e. p ∙ (ap (λ x. function x ts) same ∙ (ap (function u) (h.0 e) ∙ sym q)), λ e. h.1 (ap parameters_in (sym p ∙ (e ∙ q))))

abbrev first_in : CTypes → CType
first_in no_types = void
first_in (more_types t ts) = t

abbrev others_in : CTypes → CTypes
others_in no_types = no_types
others_in (more_types t ts) = ts

-- lists that are the same place by place are the same
pub all_same : (ts us : List TypeTree) (n : ℕ) → length ts ≡ length us → n ≡ length ts → SameBelow ts us n → types_of ts ≡ types_of us
all_same [] [] n q r h = refl
all_same (t ∷ ts) (u ∷ us) n q r h =
    let first : ctype_of t ≡ ctype_of u = h 0 t u (omega (arith, r)) in
    let rest : types_of ts ≡ types_of us = all_same ts us (length ts) (omega (arith, q)) refl (λ k d e below. h (suc k) d e (omega (arith, r, below))) in
    ap (λ x. more_types x (types_of ts)) first ∙ ap (more_types (ctype_of u)) rest
all_same ts us n q r h = absurd (omega (arith, q))

-- the same lists are the same at each place
pub same_at : (ts us : List TypeTree) (k : ℕ) (d e : TypeTree) → k < length ts → types_of ts ≡ types_of us → ctype_of (get_or ts k d) ≡ ctype_of (get_or us k e)
same_at [] us k d e below q = absurd (omega (arith, below))
same_at (t ∷ ts) [] k d e below q = let p : suc (length ts) ≡ 0 = same_length (t ∷ ts) [] q in absurd (omega (arith, p))
same_at (t ∷ ts) (u ∷ us) zero d e below q = ap first_in q
same_at (t ∷ ts) (u ∷ us) (suc k) d e below q = same_at ts us k d e (omega (arith, below)) (ap others_in q)
