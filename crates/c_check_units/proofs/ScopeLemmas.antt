-- Scopes that are left.
use Rattle.std.proofs.Common.{◌≡◌, ℕ, zero, suc, List, [], ◌∷◌, ◌++◌, length, take, drop, refl, ap, sym, subst, ◌∙◌}
use Rattle.std.proofs.lemmas.List.{length-map}
use Rattle.c_check_units.specs.Scoped.{IsWithin}
use Rattle.c_rules.specs.Scopes.{Env, Binding}
use Rattle.c_check_values.specs.Environment.{Environment}
use Rattle.c_check_values.specs.Bound.{Bound, binding_of, bindings_of}
use Rattle.c_check_values.specs.View.{env_of}

pub names_counted : (e : Environment) (n : ℕ) → n ≡ length e.names → length (env_of e).names ≡ n
names_counted e n is = length-map e.names binding_of ∙ sym is

abbrev tail : List Binding → List Binding
tail [] = []
tail (b ∷ bs) = bs

abbrev is_empty : List Binding → Type 0
is_empty [] = Unit {0}
is_empty (b ∷ bs) = ⊥

none_or : (b : Binding) (bs : List Binding) → [] ≡ b ∷ bs → ⊥
none_or b bs h = subst is_empty h tt

parted : (k : ℕ) (ns : List Bound) → ns ≡ take k ns ++ drop k ns
parted zero ns = refl
parted (suc k) [] = refl
parted (suc k) (n ∷ ns) = ap (λ xs. n ∷ xs) (parted k ns)

behind : (ns : List Bound) (bs cs : List Binding) → bindings_of ns ≡ bs ++ cs → bindings_of (drop (length bs) ns) ≡ cs
behind ns [] cs h = h
behind [] (b ∷ bs) cs h = absurd (none_or b (bs ++ cs) h)
behind (n ∷ ns) (b ∷ bs) cs h = behind ns bs cs (ap tail h)

pub left : (old : Environment) (e : Env) (count depth : ℕ) (ns : List Bound) → ((inner outer : List Bound) → old.names ≡ inner ++ outer → length outer ≡ count → ns ≡ outer)
    → IsWithin (env_of old) e → length e.names ≡ count → e.depth ≡ depth → env_of (record old { names = ns; depth = depth }) ≡ e
left old e count depth ns step within counted deep =
    let k : ℕ = length within.0 in
    let h : env_of old ≡ record e { names = within.0 ++ e.names; depth = within.1 } = within.2 in
    let rest : bindings_of (drop k old.names) ≡ e.names = behind old.names within.0 e.names (ap (λ x. x.names) h) in
    let size : length (drop k old.names) ≡ count = sym (length-map (drop k old.names) binding_of) ∙ (ap length rest ∙ counted) in
    let is : ns ≡ drop k old.names = step (take k old.names) (drop k old.names) (parted k old.names) size in
    let names : bindings_of ns ≡ e.names = ap bindings_of is ∙ rest in
    λ i. record {
      whole = (h i).whole;
      names = names i;
      depth = sym deep i;
      structs = (h i).structs;
      enums = (h i).enums;
      functions = (h i).functions;
      tags = (h i).tags;
      context = (h i).context;
    }
