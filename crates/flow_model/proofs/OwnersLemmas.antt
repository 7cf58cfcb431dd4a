-- The function that owns a node, among functions whose entries rise.
use Rattle.std.proofs.Common.{◌≡◌, ℕ, ◌+◌, ◌<◌, ◌≤◌, List, length, get_or, refl, ap, subst, inl, inr, arith}
use Rattle.std.specs.Prelude.{unwrap_or, option_map}
use Rattle.std.proofs.lemmas.Bool.{cases_lt}
use Rattle.std.proofs.lemmas.Option.{slice_get_within, get_or_from_slice_get, slice_get-get_or}
use Rattle.flow_model.specs.declared.records.ModelFunction.{ModelFunction}
use Rattle.flow_model.specs.Ends.{EndsAt}
use Rattle.flow_model.specs.Graph.{Owns, end_of, Graph, HasFunction}
use Rattle.flow_model.specs.Rules.{HasOwnExits}

module _ (functions : List ModelFunction) (nodes node begun : ℕ) (fits : begun ≤ length functions)
    (before : (k : ℕ) (d : ModelFunction) → k < begun → (get_or functions k d).entry ≤ node)
    (after : (k : ℕ) (d : ModelFunction) → begun ≤ k → k < length functions → node < (get_or functions k d).entry) where
  -- the owner is the last function that begins at the node or before it
  pub owner_is_last : (f : ℕ) → Owns functions nodes f node → f + 1 ≡ begun
  owner_is_last f owns =
      let within : f < length functions = slice_get_within functions f owns.one owns.has in
      let same : get_or functions f owns.one ≡ owns.one = get_or_from_slice_get functions f owns.one owns.one owns.has in
      let begins : f < begun = elim (cases_lt f begun) [
        | inl lt ↦ lt
        | inr ge ↦ absurd (let late : node < (get_or functions f owns.one).entry = after f owns.one ge within in omega (arith, owns.from, ap (λ (one : ModelFunction). one.entry) same))
      ] in
      elim (cases_lt (f + 1) begun) [
        | inl more ↦ absurd (
            let inside : f + 1 < length functions = omega arith in
            let ends : end_of functions nodes f ≡ (get_or functions (f + 1) owns.one).entry = ap (λ o. unwrap_or (option_map (λ (one : ModelFunction). one.entry) o) nodes) (slice_get-get_or functions (f + 1) owns.one inside) in
            let early : (get_or functions (f + 1) owns.one).entry ≤ node = before (f + 1) owns.one more in
            omega (arith, owns.to, ends))
        | inr last ↦ omega arith
      ]

  -- the function that ends at the node is that one
  pub ending_is_last : HasOwnExits functions nodes → (f : ℕ) → EndsAt functions f node → f + 1 ≡ begun
  ending_is_last exits f ends = owner_is_last f (subst (Owns functions nodes f) ends.ends (exits f ends.one ends.has))

-- a function of a model that ends at the node, and the same among the model's functions
pub function_of_end : (g : Graph) (f node : ℕ) → EndsAt g.functions f node → (entry : ℕ) × HasFunction g f entry node
function_of_end g f node ends = (ends.one.entry, record { one = ends.one; has = ends.has; begins = refl; ends = ends.ends })

pub end_of_function : (g : Graph) (f entry node : ℕ) → HasFunction g f entry node → EndsAt g.functions f node
end_of_function g f entry node has = record { one = has.one; has = has.has; ends = has.ends }
