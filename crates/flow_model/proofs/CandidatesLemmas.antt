-- A loop over call edges that sorts the candidates of each.
use Rattle.std.proofs.Common.{◌≡◌, ◌≢◌, ◌↔◌, ℕ, ◌+◌, ◌<◌, ◌≤◌, Bool, true, ◌&&◌, List, [], ◌∷◌, ◌++◌, length, get_or, set, take, drop, IsTrue, refl, sym, ◌∙◌, ap, arith}
use Rattle.std.specs.Prelude.{All, AllPairs}
use Rattle.std.specs.List.{AllZip}
use Rattle.std.specs.Ordering.{nat_cmp}
use Rattle.std.proofs.lemmas.Bool.{and_parts, and_from}
use Rattle.std.proofs.lemmas.List.{take_more, take_more_set, drop-set-lt, drop-drop, take_all, get_or-drop, get_or_append_left, get_or_push, length_push}
use Rattle.std.proofs.lemmas.List.Elements.{All-push, All-nil, AllZip-push}
use Rattle.flow_model.specs.Built.{IsReordered}
use Rattle.flow_model.specs.Call.{Call}
use Rattle.flow_model.specs.Order.{StrictlyRise}

-- no candidate of the call stands twice
abbrev pub Apart : Call → Type 0
Apart c = AllPairs (λ f h. f ≢ h) c.candidates

-- the candidates of the call stand in order
abbrev pub Rising : Call → Type 0
Rising c = StrictlyRise nat_cmp c.candidates

-- the first k of the call edges are sorted, and the others are as they were
pub record SortedSoFar (old calls : List Call) (k : ℕ) (apart : Bool) : Type 0 where
  pub same : AllZip IsReordered (take k old) (take k calls)
  pub rest : drop k calls ≡ drop k old
  pub differ : IsTrue apart ↔ All Apart (take k old)
  pub rise : IsTrue apart → All Rising (take k calls)

pub SortedSoFar-none : (calls : List Call) → SortedSoFar calls calls 0 true
SortedSoFar-none calls = record {
  same = tt;
  rest = refl;
  differ = (λ _. All-nil Apart, λ _. refl);
  rise = λ _. All-nil Rising;
}

All-push_front : {X : Type 0} (P : X → Type 0) (xs : List X) (x : X) → All P (xs ++ x ∷ []) → All P xs
All-push_front P xs x all k d h =
    rw (get_or_append_left xs (x ∷ []) d k h) at (all k d (omega (arith, length_push xs x)))

All-push_last : {X : Type 0} (P : X → Type 0) (xs : List X) (x : X) → All P (xs ++ x ∷ []) → P x
All-push_last P xs x all = rw (get_or_push xs x x (length xs) refl) at (all (length xs) x (omega (arith, length_push xs x)))

-- the call edge at k is sorted; d is any one
pub SortedSoFar-more : (old calls : List Call) (k : ℕ) (apart now : Bool) (d c : Call) → k < length calls → length calls ≡ length old → SortedSoFar old calls k apart → IsReordered (get_or calls k d) c → IsTrue now ↔ Apart (get_or calls k d) → (IsTrue now → Rising c) → SortedSoFar old (set calls k c) (k + 1) (apart && now)
SortedSoFar-more old calls k apart now d c h long so_far reordered differ rise =
    let here : k < length old = omega arith in
    let untouched : get_or calls (k + 0) d ≡ get_or old (k + 0) d = sym (get_or-drop k calls 0 d) ∙ ap (λ xs. get_or xs 0 d) so_far.rest ∙ get_or-drop k old 0 d in
    let at_k : k + 0 ≡ k = omega arith in
    let before : get_or calls k d ≡ get_or old k d = rw at_k at untouched in
    let old_more = take_more old k d here in
    let calls_more = take_more_set calls k c h in
    let reordered_old : IsReordered (get_or old k d) c = rw before at reordered in
    let differ_old : IsTrue now ↔ Apart (get_or old k d) = rw before at differ in
    record {
      same = rw (old_more, calls_more) (AllZip-push IsReordered (take k old) (take k calls) _ c so_far.same reordered_old);
      rest = drop-set-lt (k + 1) calls k c (omega arith) ∙ sym (drop-drop 1 k calls) ∙ ap (drop 1) so_far.rest ∙ drop-drop 1 k old;
      differ =
          rw old_more (
            λ e.
                let both = and_parts apart now e in
                All-push Apart (take k old) _ (so_far.differ.0 both.0) (differ_old.0 both.1),
            λ all. and_from apart now (so_far.differ.1 (All-push_front Apart _ _ all)) (differ_old.1 (All-push_last Apart _ _ all)),
          );
      rise =
          rw calls_more
          (λ e.
          let both = and_parts apart now e in
          All-push Rising (take k calls) c (so_far.rise both.0) (rise both.1));
    }

-- what is known once each call edge is sorted
pub record AreSorted (old calls : List Call) (apart : Bool) : Type 0 where
  pub same : AllZip IsReordered old calls
  pub differ : IsTrue apart ↔ All Apart old
  pub rise : IsTrue apart → All Rising calls

pub AreSorted-from_all : (old calls : List Call) (k : ℕ) (apart : Bool) → length calls ≡ length old → length old ≤ k → SortedSoFar old calls k apart → AreSorted old calls apart
AreSorted-from_all old calls k apart long all so_far =
    let whole = take_all k old all in
    let whole_calls = take_all k calls (omega arith) in
    record {
      same = rw (whole, whole_calls) at so_far.same;
      differ = rw whole at so_far.differ;
      rise = rw whole_calls at so_far.rise;
    }
