-- The pieces are the printed text of the unit.
use Rattle.std.proofs.Common.{◌≡◌, ℕ, zero, suc, List, [], ◌∷◌, ◌++◌, codes, decimal, append_assoc, refl, ap, ap₂, sym, ◌∙◌, arith}
use Rattle.std.proofs.lemmas.Fmt.{decimal_digit}
use Rattle.c_lexer.specs.Words.{keywords, punctuators}
use Rattle.c_syntax.specs.Tree.{Items, more_items}
use Rattle.c_syntax.specs.Print.{Kinds, item_kinds, unit_kinds}
use Rattle.c_syntax.specs.Text.{kinds_text}
use Rattle.generated_program.specs.Generator.{next_drawn, drawn, called_by, system_call_by, prototype, first_function, later_function, main_function, functions_behind, main_items, generated_source}
use Rattle.generated_program.specs.Pieces.{front_text, function_text, main_text}

zero_is : decimal 0 ≡ 48 ∷ []
zero_is = decimal_digit 0 (omega arith)

pub front_written : (k : Kinds) → kinds_text (item_kinds (prototype (codes "getpid")) (item_kinds (prototype (codes "getppid")) (item_kinds first_function k))) ≡ front_text ++ kinds_text k
unfolding keywords punctuators
front_written k = rw zero_is refl

pub function_written : (x i : ℕ) (k : Kinds) → kinds_text (item_kinds (later_function x i) k) ≡ function_text i (called_by x i) (system_call_by x) ++ kinds_text k
unfolding keywords punctuators
function_written x i k = rw zero_is (simp append_assoc)

pub main_written : (last : ℕ) → kinds_text (item_kinds (main_function last) []) ≡ main_text last
unfolding keywords punctuators
main_written last = rw zero_is refl

-- the text of items
abbrev pub text_of : Items → List ℕ
text_of is = kinds_text (unit_kinds is [])

pub front_added : (number last k : ℕ) (text : List ℕ) → k ≡ last → text ≡ front_text → text ++ text_of (functions_behind number 0 k (main_items last)) ≡ generated_source number last
front_added number last k text e h =
    let rest : Items = functions_behind number 0 last (main_items last) in
    ap₂ (λ w n. w ++ text_of (functions_behind number 0 n (main_items last))) h e ∙ sym (front_written (unit_kinds rest []))

-- the next number was drawn
pub drawn_next : (number done i x y : ℕ) → i ≡ suc done → x ≡ next_drawn y → y ≡ drawn number done → x ≡ drawn number i
drawn_next number done i x y next drew was = drew ∙ ap next_drawn was ∙ sym (ap (drawn number) next)

module _ (number done i k left x : ℕ) (rest : Items) (before after whole : List ℕ) where
  pub function_added : i ≡ suc done → k ≡ suc left → x ≡ drawn number i → after ≡ before ++ function_text i (called_by x i) (system_call_by x)
      → before ++ text_of (functions_behind number done k rest) ≡ whole → after ++ text_of (functions_behind number i left rest) ≡ whole
  function_added next more drew wrote h =
      let later : Items = functions_behind number i left rest in
      let piece : List ℕ = function_text i (called_by x i) (system_call_by x) in
      let same : x ≡ drawn number (suc done) = drew ∙ ap (drawn number) next in
      let items : more_items (later_function x i) later ≡ functions_behind number done k rest =
      ap₂ (λ y j. more_items (later_function y j) (functions_behind number j left rest)) same next ∙ sym (ap (λ n. functions_behind number done n rest) more) in
      ap (λ w. w ++ text_of later) wrote
      ∙ append_assoc before piece (text_of later)
      ∙ ap (λ w. before ++ w) (sym (function_written x i (unit_kinds later [])) ∙ ap text_of items)
      ∙ h

pub main_added : (number done k last : ℕ) (before after whole : List ℕ) → k ≡ zero → after ≡ before ++ main_text last → before ++ text_of (functions_behind number done k (main_items last)) ≡ whole → after ≡ whole
main_added number done k last before after whole none wrote h =
    wrote ∙ ap (λ w. before ++ w) (sym (main_written last) ∙ sym (ap (λ n. text_of (functions_behind number done n (main_items last))) none)) ∙ h

seven : (o a b d e f g h : List ℕ) → ((((((o ++ a) ++ b) ++ d) ++ e) ++ f) ++ g) ++ h ≡ o ++ (a ++ (b ++ (d ++ (e ++ (f ++ (g ++ h))))))
seven o a b d e f g h = simp append_assoc

-- seven pieces one after another
pub pieces_joined : (o a b d e f g h p q r s t u new : List ℕ) → p ≡ o ++ a → q ≡ p ++ b → r ≡ q ++ d → s ≡ r ++ e → t ≡ s ++ f → u ≡ t ++ g → new ≡ u ++ h → new ≡ o ++ (a ++ (b ++ (d ++ (e ++ (f ++ (g ++ h))))))
pieces_joined o a b d e f g h p q r s t u new h1 h2 h3 h4 h5 h6 h7 =
    h7 ∙ ap (λ w. w ++ h) (h6 ∙ ap (λ w. w ++ g) (h5 ∙ ap (λ w. w ++ f) (h4 ∙ ap (λ w. w ++ e) (h3 ∙ ap (λ w. w ++ d) (h2 ∙ ap (λ w. w ++ b) h1))))) ∙ seven o a b d e f g h
