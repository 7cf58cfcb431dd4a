-- The parts of a line, as they are added in turn.
use Rattle.std.proofs.Common.{◌≡◌, ℕ, List, ◌++◌, Result, Ok, Err, OnOk, ap, ap₂, ◌∙◌}
use Rattle.std.specs.Prelude.{codes, decimal, flat_map}
use Rattle.std.proofs.lemmas.List.{append_assoc}
use Rattle.c_meaning.specs.CallGraph.{candidates}
use Rattle.c_tree.specs.Tree.{Program}
use Rattle.site_lines.specs.SiteLines.{kind_of_site, name_behind}
use Rattle.site_lines.specs.Parts.{site_front, site_end}

three : (old x y z : List ℕ) → ((old ++ x) ++ y) ++ z ≡ old ++ ((x ++ y) ++ z)
three old x y z = ap (λ v. v ++ z) (append_assoc old x y) ∙ append_assoc old (x ++ y) z

four : (old x y z w : List ℕ) → (((old ++ x) ++ y) ++ z) ++ w ≡ old ++ (((x ++ y) ++ z) ++ w)
four old x y z w = ap (λ v. v ++ w) (three old x y z) ∙ append_assoc old ((x ++ y) ++ z) w

pub five : (old x y z u w : List ℕ) → ((((old ++ x) ++ y) ++ z) ++ u) ++ w ≡ old ++ ((((x ++ y) ++ z) ++ u) ++ w)
five old x y z u w = ap (λ v. v ++ w) (four old x y z u) ∙ append_assoc old (((x ++ y) ++ z) ++ u) w

pub front_made : {E : Type 0} (r : Result (Unit {0}) E) (p : Program) (n m : ℕ) (old a b d new kind : List ℕ) → m ≡ n → kind ≡ kind_of_site p n → a ≡ old ++ decimal m → b ≡ a ++ codes " " → d ≡ b ++ kind → OnOk r (new ≡ d ++ codes " ") → OnOk r (new ≡ old ++ site_front p n)
front_made (Ok u) p n m old a b d new kind number word first second third is =
    is
    ∙ ap (λ v. v ++ codes " ") (third ∙ ap (λ v. v ++ kind) (second ∙ ap (λ v. v ++ codes " ") first))
    ∙ four old (decimal m) (codes " ") kind (codes " ")
    ∙ ap₂ (λ (i : ℕ) (k : List ℕ). old ++ (decimal i ++ codes " " ++ k ++ codes " ")) number word
front_made (Err x) p n m old a b d new kind number word first second third is = is

pub end_made : {E : Type 0} (r : Result (Unit {0}) E) (p : Program) (n : ℕ) (old caller a b d g new functions : List ℕ) → functions ≡ candidates p n → a ≡ old ++ codes " in " → b ≡ a ++ caller → d ≡ b ++ codes " calls" → g ≡ d ++ flat_map (name_behind p) functions → OnOk r (new ≡ g ++ codes "\n") → OnOk r (new ≡ old ++ site_end p n caller)
end_made (Ok u) p n old caller a b d g new functions all first second third fourth is =
    is
    ∙ ap (λ v. v ++ codes "\n") (fourth ∙ ap (λ v. v ++ flat_map (name_behind p) functions) (third ∙ ap (λ v. v ++ codes " calls") (second ∙ ap (λ v. v ++ caller) first)))
    ∙ five old (codes " in ") caller (codes " calls") (flat_map (name_behind p) functions) (codes "\n")
    ∙ ap (λ (fs : List ℕ). old ++ (codes " in " ++ caller ++ codes " calls" ++ flat_map (name_behind p) fs ++ codes "\n")) all
end_made (Err x) p n old caller a b d g new functions all first second third fourth is = is
