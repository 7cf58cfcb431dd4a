-- The lines of numbers that follow one another, and those of one function.
use Rattle.std.proofs.Common.{◌≡◌, ℕ, ◌+◌, Bool, List, [], ◌∷◌, ◌++◌, Some, flat_map, nat_eq, slice_get, sym, ◌∙◌, ap}
use Rattle.std.specs.List.{range_with_len}
use Rattle.std.proofs.lemmas.List.{append_assoc, flat_map_more, map-id}
use Rattle.std.proofs.lemmas.List.FromFn.{map-range_with_len_more}
use Rattle.flow_model.specs.declared.records.ModelFunction.{ModelFunction}
use Rattle.flow_model.specs.Graph.{Graph, end_of}
use Rattle.model_picture.specs.Picture.{function_lines, subgraph, subgraph_where}

-- six texts one after another
pub six_parts : (old a b c d e f p q r s t u : List ℕ) → a ≡ old ++ p → b ≡ a ++ q → c ≡ b ++ r → d ≡ c ++ s → e ≡ d ++ t → f ≡ e ++ u → f ≡ old ++ (((((p ++ q) ++ r) ++ s) ++ t) ++ u)
six_parts old a b c d e f p q r s t u is_a is_b is_c is_d is_e is_f =
    is_f
    ∙ ap (λ (w : List ℕ). w ++ u) (is_e ∙ ap (λ (w : List ℕ). w ++ t) (is_d ∙ ap (λ (w : List ℕ). w ++ s) (is_c ∙ ap (λ (w : List ℕ). w ++ r) (is_b ∙ ap (λ (w : List ℕ). w ++ q) is_a))))
    ∙ simp append_assoc

range_more : (a n j : ℕ) → a + n ≡ j → range_with_len a (n + 1) ≡ range_with_len a n ++ j ∷ []
range_more a n j is =
    sym (map-id (range_with_len a (n + 1))) ∙ map-range_with_len_more (λ (k : ℕ). k) a n j is ∙ ap (λ (xs : List ℕ). xs ++ j ∷ []) (map-id (range_with_len a n))

-- the line of one number more
pub one_more : (f : ℕ → List ℕ) (old before new : List ℕ) (a n j : ℕ) → a + n ≡ j → before ≡ old ++ flat_map f (range_with_len a n) → new ≡ before ++ f j → new ≡ old ++ flat_map f (range_with_len a (n + 1))
one_more f old before new a n j is so_far next =
    next ∙ ap (λ (t : List ℕ). t ++ f j) so_far ∙ flat_map_more f old (range_with_len a n) j ∙ ap (λ (xs : List ℕ). old ++ flat_map f xs) (sym (range_more a n j is))

-- the lines of all of them
pub all_lines : (f : ℕ → List ℕ) (old new : List ℕ) (a n m : ℕ) → n ≡ m → new ≡ old ++ flat_map f (range_with_len a n) → new ≡ old ++ flat_map f (range_with_len a m)
all_lines f old new a n m is so_far = so_far ∙ ap (λ (k : ℕ). old ++ flat_map f (range_with_len a k)) is

-- the lines of a function by its number
pub function_there : (g : Graph) (number : ℕ) (starts : Bool) (past : ℕ) (one : ModelFunction) (old new : List ℕ) → slice_get g.functions number ≡ Some one → starts ≡ nat_eq number g.start → past ≡ end_of g.functions g.nodes number
    → new ≡ old ++ function_lines number starts past one → new ≡ old ++ subgraph g number
function_there g number starts past one old new there is_start is_past is =
    is
    ∙ ap (λ (t : List ℕ). old ++ t)
    (ap (λ (s : Bool). function_lines number s past one) is_start ∙ ap (λ (p : ℕ). function_lines number (nat_eq number g.start) p one) is_past ∙ ap (subgraph_where g number) (sym there))
