use Rattle.std.proofs.Common.{◌∙◌, sym, ap, map}
use Rattle.std.specs.Cmp.Lexicographic.{slice_cmp}
use Rattle.std.specs.Ordering.{nat_cmp}
use Rattle.flow_model.proofs.OrderLemmas.{bytes_tie}
use Rattle.flow_model.proofs.SortingLemmas.{differ_by_key, AllPairs-keys}
use Rattle.flow_model.proofs.sorting.do_names_differ.Goals as goal

pub returns : goal.returns
returns c =
    let keys = ap (map (λ name. name.now)) c.deref_mut.ensures.value ∙ c.in_ok-names.ensures in
    let differ = differ_by_key (λ x y. slice_cmp nat_cmp x.now y.now) (λ x. x.now) (λ x y. bytes_tie x.now y.now) c.deref_mut.result.now c.sort_apart.result c.sort_apart.ensures.differ in (
      λ e. AllPairs-keys (λ x. x.now) (λ x. x.name) c.deref_mut.result.now c.args.functions.now keys (differ.0 e),
      λ pairs. differ.1 (AllPairs-keys (λ x. x.name) (λ x. x.now) c.args.functions.now c.deref_mut.result.now (sym keys) pairs),
    )
