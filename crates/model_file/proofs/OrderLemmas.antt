-- Lists that strictly rise, their first parts, and one item more.
use Rattle.std.proofs.Common.{◌≡◌, ℕ, suc, List, [], ◌∷◌, ◌++◌, length, get_or, Option, None, Some, refl, sym, ◌∙◌, ap, subst, ⊎_elim, arith}
use Rattle.std.specs.Prelude.{All, IfSome}
use Rattle.std.specs.declared.cmp.Ordering.{Ordering}
use Rattle.std.specs.declared.cmp.Ordering.TheVariants.{Less}
use Rattle.std.specs.Cmp.{IsTotalOrder}
use Rattle.std.specs.Ordering.{nat_cmp}
use Rattle.std.proofs.lemmas.Bool.{cases_lt}
use Rattle.std.proofs.lemmas.List.{length-append, get_or_append_left, get_or_at}
use Rattle.std.proofs.lemmas.List.Elements.{All-weaker}
use Rattle.std.proofs.lemmas.List.Quantifiers.{all_pairs_push}
use Rattle.flow_model.specs.Call.{Call}
use Rattle.flow_model.specs.Graph.{Graph}
use Rattle.flow_model.specs.Order.{StrictlyRise, silent_order, sys_order, site_order}
use Rattle.flow_model.proofs.OrderLemmas.{site_order_total}
use Rattle.model_file.specs.declared.version.ModelVersion.{ModelVersion}
use Rattle.model_file.specs.ModelText.{IsSmall, IsSpelledFunction, IsSpelledSilent, IsSpelledSys, IsSpelledCall, IsSpelled}
use Rattle.model_file.specs.States.{IsLastOf, IsLastSite}

-- of all items, the first ones
pub all_front : {X : Type 0} (P : X → Type 0) (xs ys : List X) → All P (xs ++ ys) → All P xs
all_front P xs ys all k d within = subst P (get_or_append_left xs ys d k within) (all k d (omega (arith, length-append xs ys)))

pub all_at : {X : Type 0} (P : X → Type 0) (xs : List X) (x : X) (ys : List X) → All P (xs ++ x ∷ ys) → P x
all_at P xs x ys all = subst P (get_or_at xs x ys x _ refl) (all (length xs) x (omega (arith, length-append xs (x ∷ ys))))

pub all_more : {X : Type 0} (P : X → Type 0) (xs ys : List X) → All P (xs ++ ys) → All P ys
all_more P [] ys all = all
all_more P (x ∷ xs) ys all = all_more P xs ys (λ k d within. all (suc k) d (omega (arith, within)))

pub rise_front : {X : Type 0} (order : X → X → Ordering) (xs ys : List X) → StrictlyRise order (xs ++ ys) → StrictlyRise order xs
rise_front order xs ys rise i j d before within =
    let at_i : get_or (xs ++ ys) i d ≡ get_or xs i d = get_or_append_left xs ys d i (omega arith) in
    let at_j : get_or (xs ++ ys) j d ≡ get_or xs j d = get_or_append_left xs ys d j within in
    ap (λ x. order x (get_or xs j d)) (sym at_i) ∙ ap (order (get_or (xs ++ ys) i d)) (sym at_j) ∙ rise i j d before (omega (arith, length-append xs ys))

pub none_rise : {X : Type 0} (order : X → X → Ordering) → StrictlyRise order []
none_rise order i j d before within = absurd (omega (arith, within))

-- the items before one go before it
rise_before : {X : Type 0} (order : X → X → Ordering) (xs : List X) (y : X) (ys : List X) → StrictlyRise order (xs ++ y ∷ ys) → All (λ x. order x y ≡ Less) xs
rise_before order xs y ys rise k d within =
    let at_k : get_or (xs ++ y ∷ ys) k d ≡ get_or xs k d = get_or_append_left xs (y ∷ ys) d k within in
    let at_y : get_or (xs ++ y ∷ ys) (length xs) d ≡ y = get_or_at xs y ys d _ refl in
    ap (λ x. order x y) (sym at_k) ∙ ap (order (get_or (xs ++ y ∷ ys) k d)) (sym at_y) ∙ rise k (length xs) d within (omega (arith, length-append xs (y ∷ ys)))

-- what goes after the last item goes after each
before_next : {X : Type 0} {order : X → X → Ordering} → IsTotalOrder order → (front : List X) (last next : X) → StrictlyRise order (front ++ last ∷ []) → order last next ≡ Less → All (λ x. order x next ≡ Less) (front ++ last ∷ [])
before_next {X} {order} total front last next rise less k d within =
    ⊎_elim
    (λ earlier.
    let apart : order (get_or front k d) last ≡ Less = rise_before order front last [] rise k d earlier in
    let at : get_or (front ++ last ∷ []) k d ≡ get_or front k d = get_or_append_left front (last ∷ []) d k earlier in
    ap (λ x. order x next) at ∙ total.trans (get_or front k d) last next apart less)
    (λ later.
    let same : length front ≡ k = omega (arith, length-append front (last ∷ [])) in
    ap (λ x. order x next) (get_or_at front last [] d k same) ∙ less)
    (cases_lt k (length front))

-- one item more
pub rise_push : {X : Type 0} {order : X → X → Ordering} → IsTotalOrder order → (xs : List X) (last : Option X) (next : X) → StrictlyRise order xs → IsLastOf last xs → IfSome last (λ d. order d next ≡ Less) → StrictlyRise order (xs ++ next ∷ [])
rise_push {X} {order} total xs None next rise is after =
    all_pairs_push (λ x y. order x y ≡ Less) xs next rise (λ k d within. absurd (omega (arith, ap length is)))
rise_push {X} {order} total xs (Some last) next rise (front, is) less =
    all_pairs_push (λ x y. order x y ≡ Less) xs next rise (subst (All (λ x. order x next ≡ Less)) (sym is) (before_next total front last next (subst (StrictlyRise order) is rise) less))

pub after_last : {X : Type 0} (order : X → X → Ordering) (xs : List X) (last : Option X) (next : X) (ys : List X) → IsLastOf last xs → StrictlyRise order (xs ++ next ∷ ys) → IfSome last (λ d. order d next ≡ Less)
after_last order xs None next ys is rise = tt
after_last {X} order xs (Some last) next ys (front, is) rise =
    all_at (λ x. order x next ≡ Less) front last [] (subst (All (λ x. order x next ≡ Less)) is (rise_before order xs next ys rise))

-- the same for call edges, which are in the order of their sites
pub calls_push : (cs : List Call) (last : Option ℕ) (next : Call) → StrictlyRise site_order cs → IsLastSite last cs → IfSome last (λ site. nat_cmp site next.site ≡ Less) → StrictlyRise site_order (cs ++ next ∷ [])
calls_push cs None next rise is after = rise_push site_order_total cs None next rise is tt
calls_push cs (Some site) next rise (front, c, is, same) less =
    rise_push site_order_total cs (Some c) next rise (front, is) (ap (λ n. nat_cmp n next.site) same ∙ less)

pub call_after_last : (cs : List Call) (last : Option ℕ) (next : Call) (ys : List Call) → IsLastSite last cs → StrictlyRise site_order (cs ++ next ∷ ys) → IfSome last (λ site. nat_cmp site next.site ≡ Less)
call_after_last cs None next ys is rise = tt
call_after_last cs (Some site) next ys (front, c, is, same) rise =
    ap (λ n. nat_cmp n next.site) (sym same) ∙ after_last site_order cs (Some c) next ys (front, is) rise

-- lists that have a text

-- the items fit and strictly rise
abbrev pub Listed : {X : Type 0} → (X → Type 0) → (X → X → Ordering) → List X → Type 0
Listed Fits order xs = All Fits xs × StrictlyRise order xs

pub listed_front : {X : Type 0} (Fits : X → Type 0) (order : X → X → Ordering) (xs ys zs : List X) → zs ≡ xs ++ ys → Listed Fits order zs → Listed Fits order xs
listed_front Fits order xs ys zs is listed = (all_front Fits xs ys (subst (All Fits) is listed.0), rise_front order xs ys (subst (StrictlyRise order) is listed.1))

pub spell : (v : ModelVersion) (g : Graph) → IsSmall g.nodes → IsSmall g.start → IsSmall (length g.functions) → All IsSpelledFunction g.functions → Listed IsSpelledSilent silent_order g.silent → Listed (IsSpelledSys v) sys_order g.sys → Listed IsSpelledCall site_order g.calls → IsSpelled v g
spell v g nodes start count functions silent sys calls =
    record {
      nodes = nodes;
      start = start;
      count = count;
      functions = functions;
      silent = silent.0;
      sys = sys.0;
      calls = calls.0;
      order = record { silent = silent.1; sys = sys.1; calls = calls.1; candidates = All-weaker IsSpelledCall (λ c. StrictlyRise nat_cmp c.candidates) (λ c fits. fits.rise) g.calls calls.0 };
    }
