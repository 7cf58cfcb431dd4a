-- Lists kept one after another: one more at the end, and a list by its number.
use Rattle.std.proofs.Common.{◌≡◌, ℕ, ◌+◌, ◌-◌, ◌<◌, ◌≤◌, List, [], ◌∷◌, ◌++◌, length, take, drop, get_or, sym, ap, ap₂, ◌∙◌, subst, inl, inr, arith}
use Rattle.std.specs.Prelude.{slice_index, slice_index_or, slice_range}
use Rattle.std.proofs.lemmas.Bool.{cases_lt}
use Rattle.std.proofs.lemmas.List.{take-append-le, take_all, drop-append-le, drop_at, length-append, length-drop, length_push, get_or_append_left, get_or_push, get_or_default}
use Rattle.std.proofs.lemmas.List.FromFn.{length-map-range_with_len, get_or-map-range_with_len}
use Rattle.flow_model.specs.Graph.{Graph}
use Rattle.callgraph_monitor.specs.Laid.{list_at, lists_of, AreLaid, HaveBelow}
use Rattle.callgraph_monitor.specs.Space.{AreEnds, AreQuiet}

-- a part of the first of two lists
range_before : (xs ys : List ℕ) (i j : ℕ) → i ≤ j → j ≤ length xs → slice_range (xs ++ ys) i j ≡ slice_range xs i j
range_before xs ys i j le within =
    ap (take (j - i)) (drop-append-le i xs ys (omega arith)) ∙ take-append-le (j - i) (drop i xs) ys (omega (arith, length-drop i xs))

-- the second of two lists
range_behind : (xs ys : List ℕ) (i j : ℕ) → i ≡ length xs → j ≡ length (xs ++ ys) → slice_range (xs ++ ys) i j ≡ ys
range_behind xs ys i j from to = ap (take (j - i)) (drop_at xs ys i (sym from)) ∙ take_all (j - i) ys (omega (arith, length-append xs ys))

-- no list yet
pub have-none : (P : ℕ → List ℕ → Type 0) (starts nodes : List ℕ) → starts ≡ 0 ∷ [] → nodes ≡ [] → HaveBelow P 0 starts nodes
have-none P starts nodes first none =
    let long : length starts ≡ 1 = ap length first in
    let start : slice_index starts 0 ≡ 0 = ap (λ xs. slice_index xs 0) first in
    record {
      long = long;
      last = start ∙ sym (ap length none);
      laid = record {
        rise = λ k h. absurd (omega arith);
        within = λ k h. (let same : k ≡ 0 = omega arith in let at : slice_index starts k ≡ 0 = ap (slice_index starts) same ∙ start in omega arith);
      };
      each = λ k h. absurd (omega (arith, h));
    }

-- one list more
module _ (P : ℕ → List ℕ → Type 0) (n : ℕ) (starts nodes more longer : List ℕ) (end : ℕ) (have : HaveBelow P n starts nodes) (grown : longer ≡ nodes ++ more) (at_end : end ≡ length longer) where
  abbrev next : List ℕ
  next = starts ++ end ∷ []

  before : (k : ℕ) → k < n + 1 → slice_index next k ≡ slice_index starts k
  before k lt = let long = have.long in get_or_append_left starts (end ∷ []) 0 k (omega arith)

  behind : slice_index next (n + 1) ≡ length longer
  behind = get_or_push starts end 0 (n + 1) have.long ∙ at_end

  grows : length nodes ≤ length longer
  grows = omega (arith, ap length grown, length-append nodes more)

  start_within : (k : ℕ) → k < n + 1 → slice_index starts k ≤ length nodes
  start_within k lt = have.laid.within k (let long = have.long in omega arith)

  start_rises : (k : ℕ) → k < n + 1 → slice_index next k ≤ slice_index next (k + 1)
  start_rises k lt = elim (cases_lt k n) [
    | inl less ↦
        let rise = have.laid.rise k (let long = have.long in omega arith) in
        omega (arith, rise, before k lt, before (k + 1) (omega arith))
    | inr at ↦
        let same : k ≡ n = omega arith in
        omega (arith, before k lt, start_within k lt, grows, ap (λ m. slice_index next (m + 1)) same, behind)
  ]

  list_before : (k : ℕ) → k < n → list_at next longer k ≡ list_at starts nodes k
  list_before k lt =
      ap₂ (slice_range longer) (before k (omega arith)) (before (k + 1) (omega arith))
      ∙ ap (λ xs. slice_range xs (slice_index starts k) (slice_index starts (k + 1))) grown
      ∙ range_before nodes more (slice_index starts k) (slice_index starts (k + 1)) (have.laid.rise k (let long = have.long in omega arith)) (start_within (k + 1) (omega arith))

  list_behind : list_at next longer n ≡ more
  list_behind =
      ap₂ (slice_range longer) (before n (omega arith)) behind
      ∙ ap (λ xs. slice_range xs (slice_index starts n) (length longer)) grown
      ∙ range_behind nodes more (slice_index starts n) (length longer) have.last (ap length grown)

  pub have-more : P n more → HaveBelow P (n + 1) (starts ++ end ∷ []) longer
  have-more is = record {
    long = let long = have.long in omega (arith, length_push starts end);
    last = behind;
    laid = record {
      rise = λ k h. start_rises k (let long = have.long in omega (arith, h, length_push starts end));
      within = λ k h. elim (cases_lt k (n + 1)) [
        | inl less ↦ omega (arith, before k less, start_within k less, grows)
        | inr at ↦
            let long = have.long in
            let same : k ≡ n + 1 = omega (arith, h, length_push starts end) in
            omega (arith, ap (slice_index next) same, behind)
      ];
    };
    each = λ k h. elim (cases_lt k n) [
      | inl less ↦ subst (P k) (sym (list_before k less)) (have.each k less)
      | inr at ↦
          let same : n ≡ k = omega arith in
          subst (λ m. P m (list_at next longer m)) same (subst (P n) (sym list_behind) is)
    ];
  }

-- all lists
pub are_quiet : (g : Graph) (n : ℕ) (starts nodes : List ℕ) → n ≡ g.nodes → HaveBelow (AreEnds g) n starts nodes → AreQuiet g (lists_of starts nodes)
are_quiet g n starts nodes all have = record {
  long = let long = have.long in omega (arith, all, length-map-range_with_len (list_at starts nodes) 0 (length starts - 1));
  each = λ a h.
      let long = have.long in
      subst (AreEnds g a) (sym (get_or-map-range_with_len (list_at starts nodes) 0 (length starts - 1) a a [] (omega arith) (omega arith))) (have.each a (omega arith));
}

-- What is read of lists that are seen as such: a list by its number.
module _ (starts nodes : List ℕ) (seen : List (List ℕ)) (laid : AreLaid starts nodes) (is : lists_of starts nodes ≡ seen) (k : ℕ) (lt : k < length seen) where
  pub next_known : k + 1 < length starts
  next_known = omega (arith, lt, ap length is, length-map-range_with_len (list_at starts nodes) 0 (length starts - 1))

  module _ (from to : ℕ) (at_from : from ≡ get_or starts k from) (at_to : to ≡ get_or starts (k + 1) to) where
    from_read : from ≡ slice_index starts k
    from_read = at_from ∙ get_or_default starts k from 0 (omega (arith, next_known))

    to_read : to ≡ slice_index starts (k + 1)
    to_read = at_to ∙ get_or_default starts (k + 1) to 0 next_known

    pub part_rises : from ≤ to
    part_rises = omega (arith, laid.rise k next_known, from_read, to_read)

    pub part_within : to ≤ length nodes
    part_within = omega (arith, laid.within (k + 1) next_known, to_read)

    pub part_read : slice_range nodes from to ≡ slice_index_or seen k []
    part_read =
        ap₂ (slice_range nodes) from_read to_read
        ∙ sym (get_or-map-range_with_len (list_at starts nodes) 0 (length starts - 1) k k [] (omega (arith, next_known)) (omega arith))
        ∙ ap (λ lists. slice_index_or lists k []) is
