-- The lines of kept events and the numbers of verdicts, one after another.
use Rattle.std.proofs.Common.{◌≡◌, ℕ, ◌+◌, ◌<◌, ◌≤◌, Bool, true, false, List, [], ◌∷◌, ◌++◌, length, take, get_or, filter, refl, sym, ◌∙◌, ap, append-nil, append_assoc, arith, length-append}
use Rattle.std.specs.Prelude.{if◌then◌else◌}
use Rattle.std.proofs.lemmas.List.{take_more, length-take}
use Rattle.std.proofs.lemmas.List.Elements.{filter-append}
use Rattle.dm_base.specs.declared.event.Event.{Event}
use Rattle.dm_base.specs.declared.verdict.Step.{Step}
use Rattle.dm_base.specs.declared.verdict.Verdict.{Verdict}
use Rattle.report.specs.ProcessLines.{kept_line, kept_lines, is_of, how_many}

kept_last : (n : ℕ) (es : List Event) (e : Event) → kept_lines n (es ++ e ∷ []) ≡ kept_lines n es ++ kept_line (n + length es) e
kept_last n [] e =
    let same : n ≡ n + 0 = omega arith in
    append-nil (kept_line n e) ∙ ap (λ (m : ℕ). kept_line m e) same
kept_last n (x ∷ es) e =
    let same : n + 1 + length es ≡ n + length (x ∷ es) = omega arith in
    ap (λ (w : List ℕ). kept_line n x ++ w) (kept_last (n + 1) es e ∙ ap (λ (m : ℕ). kept_lines (n + 1) es ++ kept_line m e) same)
    ∙ sym (append_assoc (kept_line n x) (kept_lines (n + 1) es) (kept_line (n + length (x ∷ es)) e))

-- one line more
pub kept_next : (n number : ℕ) (es : List Event) (i : ℕ) (e : Event) (old new : List ℕ) → i < length es → e ≡ get_or es i e → number ≡ n + i → old ≡ kept_lines n (take i es) → new ≡ old ++ kept_line number e → new ≡ kept_lines n (take (i + 1) es)
kept_next n number es i e old new less next at is grown =
    let long : n + i ≡ n + length (take i es) = omega (arith, length-take i es, less) in
    grown
    ∙ ap (λ (w : List ℕ). w ++ kept_line number e) is
    ∙ ap (λ (m : ℕ). kept_lines n (take i es) ++ kept_line m e) (at ∙ long)
    ∙ sym (kept_last n (take i es) e)
    ∙ ap (kept_lines n) (ap (λ (x : Event). take i es ++ x ∷ []) next ∙ sym (take_more es i e less))

one : (b : Bool) (v : Verdict) → length (if b then v ∷ [] else []) ≡ (if b then 1 else 0)
one true v = refl
one false v = refl

-- one verdict more
pub count_next : (kind : Step) (vs : List Verdict) (i count more : ℕ) (v : Verdict) → i < length vs → v ≡ get_or vs i v → count ≡ how_many kind (take i vs) → more ≡ (if is_of kind v then 1 else 0) → count + more ≡ how_many kind (take (i + 1) vs)
count_next kind vs i count more v less next is added =
    let here : length (filter (is_of kind) (take i vs ++ v ∷ [])) ≡ length (filter (is_of kind) (take i vs)) + length (filter (is_of kind) (v ∷ [])) =
    ap length (filter-append (is_of kind) (take i vs) (v ∷ [])) ∙ length-append (filter (is_of kind) (take i vs)) (filter (is_of kind) (v ∷ [])) in
    let last : length (filter (is_of kind) (v ∷ [])) ≡ (if is_of kind v then 1 else 0) = one (is_of kind v) v in
    let whole : how_many kind (take i vs ++ v ∷ []) ≡ how_many kind (take (i + 1) vs) = ap (how_many kind) (ap (λ (x : Verdict). take i vs ++ x ∷ []) next ∙ sym (take_more vs i v less)) in
    (λ j. is j + added j) ∙ sym (λ j. how_many kind (take i vs) + last j) ∙ sym here ∙ whole
