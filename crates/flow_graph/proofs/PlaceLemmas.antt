-- What is called at sites, one mention after another.
use Rattle.std.proofs.Common.{◌≡◌, ℕ, ◌+◌, ◌<◌, ◌≤◌, Bool, true, false, List, [], ◌∷◌, ◌++◌, length, take, get_or, Option, None, Some, refl, sym, ap, ◌∙◌, nat_eq}
use Rattle.std.specs.Prelude.{if◌then◌else◌}
use Rattle.std.proofs.lemmas.List.{take_more, take_all, map-append}
use Rattle.c_tree.specs.Tree.{CType}
use Rattle.c_meaning.specs.Mentions.{Callee, Direct, Through, Mention, Named, Calls}
use Rattle.c_meaning.specs.CallGraph.{callee_at}
use Rattle.flow_graph.specs.declared.mention.Mention.{Mention as Said}
use Rattle.flow_graph.specs.declared.call_sites.Place.{Place}
use Rattle.flow_graph.specs.Saying.{mention_of, said}
use Rattle.flow_graph.specs.CallGraphPlaces.{first_of, placed, single}

some_first : (types : List CType) (c : Callee) (y : Option Place) → placed types (Some c) ≡ first_of (placed types (Some c)) y
some_first types (Direct f) y = refl
some_first types (Through t) y = refl

next_by : (types : List CType) (c : Callee) (x y z : Option Callee) (b : Bool) → placed types x ≡ first_of (placed types y) (placed types z) → placed types (if b then Some c else x) ≡ first_of (placed types (if b then Some c else y)) (placed types z)
next_by types c x y z true rest = some_first types c (placed types z)
next_by types c x y z false rest = rest

-- one mention more
next_place : (types : List CType) (s : ℕ) (xs : List Mention) (m : Mention) → placed types (callee_at s (xs ++ m ∷ [])) ≡ first_of (placed types (callee_at s xs)) (placed types (callee_at s (single m)))
next_place types s [] m = refl
next_place types s (Named f ∷ xs) m = next_place types s xs m
next_place types s (Calls r c ∷ xs) m = next_by types c (callee_at s (xs ++ m ∷ [])) (callee_at s xs) (callee_at s (single m)) (nat_eq s r) (next_place types s xs m)

first_none : (x : Option Place) → x ≡ first_of x None
first_none None = refl
first_none (Some x) = refl

-- a step of the loop, and its end
pub places_more : (types : List CType) (ms : List Said) (i : ℕ) (m : Said) (s : ℕ) (old new : Option Place) → i < length ms → m ≡ get_or ms i m
    → old ≡ placed types (callee_at s (said (take i ms))) → new ≡ first_of old (placed types (callee_at s (single (mention_of m)))) → new ≡ placed types (callee_at s (said (take (i + 1) ms)))
places_more types ms i m s old new lt is before step =
    let more : take (i + 1) ms ≡ take i ms ++ m ∷ [] = take_more ms i m lt ∙ ap (λ y. take i ms ++ y ∷ []) (sym is) in
    step
    ∙ ap (λ x. first_of x (placed types (callee_at s (single (mention_of m))))) before
    ∙ sym (next_place types s (said (take i ms)) (mention_of m))
    ∙ ap (λ xs. placed types (callee_at s xs)) (sym (map-append mention_of (take i ms) (m ∷ [])) ∙ ap said (sym more))

pub places_end : (types : List CType) (ms : List Said) (i s : ℕ) (x : Option Place) → length ms ≤ i → x ≡ placed types (callee_at s (said (take i ms))) → x ≡ placed types (callee_at s (said ms))
places_end types ms i s x over is = is ∙ ap (λ xs. placed types (callee_at s (said xs))) (take_all i ms over)
