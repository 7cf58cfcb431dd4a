-- The text of a list, one item after another, and that what is written of a valid model is formed.
use Rattle.std.proofs.Common.{◌≡◌, ℕ, zero, suc, ◌+◌, ◌<◌, ◌≤◌, List, [], ◌∷◌, ◌++◌, length, take, flat_map, Some, slice_get, slice_index_or, ◌∙◌, ap, sym, subst, append_assoc, inl, inr, arith}
use Rattle.std.proofs.lemmas.Bool.{cases_lt}
use Rattle.std.proofs.lemmas.List.{append-nil, take_more}
use Rattle.std.proofs.lemmas.List.Concat.{flat_map-append}
use Rattle.std.proofs.lemmas.Option.{get_or_from_slice_get}
use Rattle.flow_model.specs.declared.records.ModelFunction.{ModelFunction}
use Rattle.flow_model.specs.Graph.{Graph}
use Rattle.flow_model.specs.Rules.{HasRightEntries, IsValid}
use Rattle.model_file.specs.declared.version.ModelVersion.TheVariants.{Two}
use Rattle.model_file.specs.ModelText.{model_text, silent_line, sys_line, call_line, ending, IsSpelled}
use Rattle.model_file.specs.Refusal.{longest, IsModel}
use Rattle.model_file.specs.Writing.{HasSmallParts, first_lines, edge_lines}

pub next_item : {X : Type 0} (f : X → List ℕ) (xs : List X) (i : ℕ) (x : X) → i < length xs → slice_get xs i ≡ Some x → flat_map f (take (i + 1) xs) ≡ flat_map f (take i xs) ++ f x
next_item f xs i x within there =
    ap (flat_map f) (take_more xs i x within ∙ ap (λ y. take i xs ++ y ∷ []) (get_or_from_slice_get xs i x x there))
    ∙ flat_map-append f (take i xs) (x ∷ [])
    ∙ ap (λ (t : List ℕ). flat_map f (take i xs) ++ t) (append-nil (f x))

-- the text with one item more
pub text_more : {X : Type 0} (f : X → List ℕ) (xs : List X) (i : ℕ) (x : X) (start old new : List ℕ) → i < length xs → slice_get xs i ≡ Some x → old ≡ start ++ flat_map f (take i xs) → new ≡ old ++ f x → new ≡ start ++ flat_map f (take (i + 1) xs)
text_more f xs i x start old new within there before step =
    step
    ∙ ap (λ (t : List ℕ). t ++ f x) before
    ∙ append_assoc start (flat_map f (take i xs)) (f x)
    ∙ ap (λ (t : List ℕ). start ++ t) (sym (next_item f xs i x within there))

-- what holds of the items before one, and of it, holds of those before the next
pub so_far : {X : Type 0} (P : X → Type 0) (xs : List X) (i : ℕ) (x : X) → slice_get xs i ≡ Some x → P x → ((k : ℕ) (d : X) → k < i → P (slice_index_or xs k d)) → (k : ℕ) (d : X) → k < i + 1 → P (slice_index_or xs k d)
so_far P xs i x there holds before k d within =
    elim (cases_lt k i) [
      | inl less ↦ before k d less
      | inr more ↦
          let same : k ≡ i = omega (arith, within, more) in
          subst (λ (n : ℕ). P (slice_index_or xs n d)) (sym same) (subst P (sym (get_or_from_slice_get xs i x d there)) holds)
    ]

-- the parts of a written model
pub parts : (text : List ℕ) (g : Graph) (one two three : List ℕ) → one ≡ first_lines g → two ≡ one ++ edge_lines g → three ≡ two ++ ending g.start → three ≡ model_text Two g
parts text g one two three first edges last =
    let x : List ℕ = first_lines g in
    let e : List ℕ = flat_map silent_line g.silent in
    let f : List ℕ = flat_map (sys_line Two) g.sys in
    let h : List ℕ = flat_map call_line g.calls in
    last ∙ ap (λ (t : List ℕ). t ++ ending g.start) (edges ∙ ap (λ (t : List ℕ). t ++ edge_lines g) first ∙ sym (append_assoc x (e ++ f) h) ∙ ap (λ (t : List ℕ). t ++ h) (sym (append_assoc x e f)))

-- the function with the number k begins at node k or later
rising : (fs : List ModelFunction) (n : ℕ) → HasRightEntries fs n → (k : ℕ) (d : ModelFunction) → k < length fs → k ≤ (slice_index_or fs k d).entry
rising fs n right zero d within = omega arith
rising fs n right (suc k) d within =
    let before = rising fs n right k d (omega (arith, within)) in
    let next = right.rise k (suc k) d (omega arith) within in
    omega (arith, before, next)

count_small : (fs : List ModelFunction) (n : ℕ) → HasRightEntries fs n → length fs ≤ n
count_small [] n right = omega arith
count_small (x ∷ fs) n right =
    let within : length fs < length (x ∷ fs) = omega arith in
    let late = rising (x ∷ fs) n right (length fs) x within in
    let below = right.below (length fs) x within in
    omega (arith, late, below)

-- a valid model has a text
pub spelled : (g : Graph) → IsValid g → HasSmallParts g → IsSpelled Two g
spelled g valid small =
    let count = count_small g.functions g.nodes valid.entries in
    record {
      nodes = small.nodes;
      start = small.start;
      count = omega (arith, count, valid.entries.few);
      functions = λ k d within.
          record { name = valid.names.names k d within; entry = (small.functions k d within).entry; exit = (small.functions k d within).exit };
      silent = small.silent;
      sys = λ k d within.
          record { from = (small.sys k d within).from; name = (small.sys k d within).name; to = (small.sys k d within).to; right = valid.patterns k d within; pattern = tt };
      calls = λ k d within.
          record { from = (small.calls k d within).from; site = (small.calls k d within).site; to = (small.calls k d within).to; candidates = (small.calls k d within).candidates; rise = valid.order.candidates k d within };
      order = valid.order;
    }

pub formed : (g : Graph) (text : List ℕ) → IsValid g → HasSmallParts g → text ≡ model_text Two g → length text ≤ longest → IsModel text g
formed g text valid small is short =
    record { version = Two; is = record { spelled = spelled g valid small; is = is }; valid = valid; short = short }
