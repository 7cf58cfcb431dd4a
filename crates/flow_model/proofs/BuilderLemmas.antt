-- Lemmas on the making of a model from the records of a builder.
use Rattle.std.proofs.Common.{◌≡◌, ◌≢◌, ◌↔◌, ℕ, ◌<◌, List, [], ◌∷◌, length, get_or, All, AllPairs, sym, ◌∙◌, refl, ap, arith}
use Rattle.std.proofs.lemmas.List.Elements.{All-cons, All-head, All-tail, AllZip-get_or, length_all_zip}
use Rattle.std.proofs.lemmas.List.Sorted.{All-permutation, IsPermutation-sym}
use Rattle.std.specs.List.{AllZip}
use Rattle.sys_table.specs.Table.{IsRight}
use Rattle.flow_model.specs.Built.{IsReordered, IsMadeOf}
use Rattle.flow_model.specs.Call.{Call}
use Rattle.flow_model.specs.Checked.{KeepsFirstFive}
use Rattle.flow_model.specs.Graph.{Graph, HaveOneOwner}
use Rattle.flow_model.specs.Rules.{HasInnerEdges, HasKnownFunctions, HasNoRepeats, HasRightPatterns, IsInOrder, IsValid, IsLeastBroken}

-- what holds of each call edge holds of each with its candidates in another order, where it does so of one
all_reordered : (P : Call → Type 0) → ((c d : Call) → IsReordered c d → P c → P d) → (cs ds : List Call) → AllZip IsReordered cs ds → All P cs → All P ds
all_reordered P moves [] [] zipped all = all
all_reordered P moves [] (d ∷ ds) zipped all = absurd zipped
all_reordered P moves (c ∷ cs) [] zipped all = absurd zipped
all_reordered P moves (c ∷ cs) (d ∷ ds) zipped all =
    All-cons P d ds (moves c d zipped.0 (All-head P c cs all)) (all_reordered P moves cs ds zipped.1 (All-tail P c cs all))

-- the sites stay where they are when candidates are reordered
site_reordered : (cs ds : List Call) → AllZip IsReordered cs ds → (i : ℕ) (d : Call) → i < length cs → (get_or ds i d).site ≡ (get_or cs i d).site
site_reordered cs ds zipped i d within = (AllZip-get_or IsReordered cs ds i d d zipped within).site

pub sites_reordered : (cs ds : List Call) → AllZip IsReordered cs ds → AllPairs (λ c d. c.site ≢ d.site) cs ↔ AllPairs (λ c d. c.site ≢ d.site) ds
sites_reordered cs ds zipped =
    let lengths : length cs ≡ length ds = length_all_zip IsReordered cs ds zipped in (
      (λ differ i j d less within same. differ i j d less (omega arith) (sym (site_reordered cs ds zipped i d (omega arith)) ∙ same ∙ site_reordered cs ds zipped j d (omega arith))),
      (λ differ i j d less within same. differ i j d less (omega arith) (site_reordered cs ds zipped i d (omega arith) ∙ same ∙ sym (site_reordered cs ds zipped j d within))),
    )

-- what holds of each call edge of the records holds of each call edge of the model made of them
all_made : (P : Call → Type 0) → ((c d : Call) → IsReordered c d → P c → P d) → (g m : Graph) → IsMadeOf g m → All P g.calls → All P m.calls
all_made P moves g m made all = All-permutation P made.calls.0 m.calls made.calls.2 (all_reordered P moves g.calls made.calls.0 made.calls.1 all)

-- rule 4 of the records is rule 4 of the model made of them
inner_made : (g m : Graph) → IsMadeOf g m → HasInnerEdges g → HasInnerEdges m
inner_made g m made inner =
    rw (made.functions, made.nodes) (record {
      silent = All-permutation (λ e. HaveOneOwner g.functions g.nodes e.from e.to) g.silent m.silent made.silent inner.silent;
      sys = All-permutation (λ e. HaveOneOwner g.functions g.nodes e.from e.to) g.sys m.sys made.sys inner.sys;
      calls = all_made (λ c. HaveOneOwner g.functions g.nodes c.from c.to) (λ c d same one. rw (same.from, same.to) one) g m made inner.calls;
    })

-- rule 5 of the records is rule 5 of the model made of them
known_made : (g m : Graph) → IsMadeOf g m → HasKnownFunctions g → HasKnownFunctions m
known_made g m made known =
    let count : length m.functions ≡ length g.functions = ap length made.functions in
    record {
      some = omega (arith, known.some);
      start = omega (arith, made.start, known.start);
      candidates = rw count (all_made (λ c. All (λ f. f < length g.functions) c.candidates) (λ c d same all. All-permutation (λ f. f < length g.functions) c.candidates d.candidates same.candidates all) g m made known.candidates);
    }

-- rule 7 of the records is rule 7 of the model made of them, and the other way round
pub patterns_made : (g m : Graph) → IsMadeOf g m → HasRightPatterns g ↔ HasRightPatterns m
patterns_made g m made = (
  All-permutation (λ e. IsRight e.name e.args) g.sys m.sys made.sys,
  All-permutation (λ e. IsRight e.name e.args) m.sys g.sys (IsPermutation-sym g.sys m.sys made.sys),
)

-- a model in order that is made of records that keep the rules is valid
pub valid_made : (g m : Graph) → IsMadeOf g m → KeepsFirstFive g → IsInOrder m → HasRightPatterns m → IsValid m
valid_made g m made five order patterns = record {
  entries = rw (made.functions, made.nodes) five.entries;
  exits = rw (made.functions, made.nodes) five.exits;
  names = rw made.functions five.names;
  edges = inner_made g m made five.edges;
  functions = known_made g m made five.functions;
  patterns = patterns;
  order = order;
}

-- where the model made of the records breaks rule 7, the records break it, and no lower one where they keep those
pub patterns_broken : (g m : Graph) → IsMadeOf g m → KeepsFirstFive g → HasNoRepeats g → (HasRightPatterns m → ⊥) → IsLeastBroken g 7
patterns_broken g m made five repeats wrong =
    IsLeastBroken.patterns refl five.entries five.exits five.names five.edges five.functions repeats (λ right. wrong ((patterns_made g m made).0 right))
