-- What items give, one after another.
use Rattle.std.proofs.Common.{◌≡◌, List, [], ◌∷◌, ◌++◌, map, ap, sym, ◌∙◌, append-nil}
use Rattle.std.proofs.lemmas.List.{map-append}
use Rattle.c_rules.specs.Items.{Output, no_output, with_output, output_of_function}
use Rattle.c_tree.specs.declared.tree.Function.{Function as FunctionTree}
use Rattle.c_tree.specs.declared.tree.Static.{Static as StaticTree}
use Rattle.c_tree.specs.View.{function_of, static_of}

pub with_nothing : (p : Output) → with_output p no_output ≡ p
with_nothing p = λ i. record { functions = append-nil p.functions i; statics = append-nil p.statics i }

pub no_more : (p : Output) → p ≡ with_output p no_output
no_more p = sym (with_nothing p)

pub one_static : (fs : List FunctionTree) (ss ts : List StaticTree) (s : StaticTree) → ts ≡ ss ++ s ∷ []
    → record { functions = map function_of fs; statics = map static_of ts } ≡ with_output (record { functions = map function_of fs; statics = map static_of ss }) (record { functions = []; statics = static_of s ∷ [] })
one_static fs ss ts s step = λ i. record { functions = sym (append-nil (map function_of fs)) i; statics = (ap (map static_of) step ∙ map-append static_of ss (s ∷ [])) i }

pub one_function : (ss : List StaticTree) (fs gs : List FunctionTree) (f : FunctionTree) → gs ≡ fs ++ f ∷ []
    → record { functions = map function_of gs; statics = map static_of ss } ≡ with_output (record { functions = map function_of fs; statics = map static_of ss }) (output_of_function (function_of f))
one_function ss fs gs f step = λ i. record { functions = (ap (map function_of) step ∙ map-append function_of fs (f ∷ [])) i; statics = sym (append-nil (map static_of ss)) i }
