-- The lines of call expressions, one after another.
use Rattle.std.proofs.Common.{◌≡◌, ℕ, zero, suc, ◌+◌, ◌<◌, ◌≤◌, List, [], ◌∷◌, ◌++◌, length, take, get_or, Vec, Global, Result, Ok, Err, IfOk, refl, sym, ap, ap₂, ◌∙◌, arith, append-nil}
use Rattle.std.specs.Prelude.{codes, flat_map}
use Rattle.std.proofs.lemmas.List.{take_more, take_all, append_assoc, length-map}
use Rattle.text_places.specs.Locations.{SourceLocation, located, location_text}
use Rattle.c_syntax.specs.declared.tree.Item.{Item as ItemTree}
use Rattle.c_syntax.specs.UnitView.{items_of}
use Rattle.c_tree.specs.Sites.{sites_of_program}
use Rattle.c_tree.specs.Tree.{Program}
use Rattle.c_rules.specs.CallPlaces.{CallPlace, call_places}
use Rattle.c_check_counts.specs.SeenCalls.{place_seen, seen}
use Rattle.c_check_counts.specs.declared.call_place.CallPlace.{CallPlace as Found}
use Rattle.c_meaning.specs.CallGraph.{candidates}
use Rattle.site_lines.specs.SiteLines.{name_behind, site_line, site_lines, sites_text}
use Rattle.site_lines.specs.Parts.{site_front, line_at}
use Rattle.site_lines.proofs.PartLemmas.{five}

-- the line of a site at its location
line_is : (file text : List ℕ) (p : Program) (n : ℕ) (c : CallPlace) (location : SourceLocation) → location ≡ located file text c.at → line_at p n location c.caller ≡ site_line file text p n c
line_is file text p n c location e =
    ap (λ l. line_at p n l c.caller) e
    ∙ sym (five (site_front p n ++ location_text (located file text c.at)) (codes " in ") c.caller (codes " calls") (flat_map (name_behind p) (candidates p n)) (codes "\n"))

lines_more : (file text : List ℕ) (p : Program) (n : ℕ) (cs : List CallPlace) (c : CallPlace) → site_lines file text p n (cs ++ c ∷ []) ≡ site_lines file text p n cs ++ site_line file text p (n + length cs) c
lines_more file text p n [] c = append-nil (site_line file text p n c) ∙ ap (λ k. site_line file text p k c) (let e : n ≡ n + 0 = omega arith in e)
lines_more file text p n (d ∷ cs) c =
    let e : suc n + length cs ≡ n + suc (length cs) = omega arith in
    ap (λ z. site_line file text p n d ++ z) (lines_more file text p (suc n) cs c ∙ ap (λ k. site_lines file text p (suc n) cs ++ site_line file text p k c) e)
    ∙ sym (append_assoc (site_line file text p n d) (site_lines file text p (suc n) cs) (site_line file text p (n + suc (length cs)) c))

seen_more : (xs ys : List Found) → seen (xs ++ ys) ≡ seen xs ++ seen ys
seen_more [] ys = refl
seen_more (x ∷ xs) ys = ap (λ zs. place_seen x ∷ zs) (seen_more xs ys)

seen_long : (k : ℕ) (xs : List Found) → k ≤ length xs → length (seen (take k xs)) ≡ k
seen_long zero xs l = refl
seen_long (suc k) [] l = absurd (omega (arith, l))
seen_long (suc k) (x ∷ xs) l = ap suc (seen_long k xs (omega (arith, l)))

-- the lines with one more, whose location a reader of the same text told
pub one_line : (file text first read : List ℕ) (p : Program) (xs : List Found) (k : ℕ) (d : Found) (location : SourceLocation) (old new : List ℕ) → k < length xs → first ≡ file → read ≡ text → location ≡ located first read (get_or xs k d).at
    → old ≡ site_lines file text p 0 (seen (take k xs)) → new ≡ old ++ line_at p k location (get_or xs k d).caller.now → new ≡ site_lines file text p 0 (seen (take (k + 1) xs))
one_line file text first read p xs k d location old new lt named same told before now =
    let x : Found = get_or xs k d in
    let here : location ≡ located file text x.at = told ∙ ap₂ (λ (f t : List ℕ). located f t x.at) named same in
    let more : take (k + 1) xs ≡ take k xs ++ x ∷ [] = take_more xs k d lt in
    let count : 0 + length (seen (take k xs)) ≡ k = (let l = seen_long k xs (omega (arith, lt)) in omega (arith, l)) in
    now
    ∙ ap (λ (z : List ℕ). z ++ line_at p k location x.caller.now) before
    ∙ ap (λ (z : List ℕ). site_lines file text p 0 (seen (take k xs)) ++ z) (line_is file text p k (place_seen x) location here ∙ ap (λ (n : ℕ). site_line file text p n (place_seen x)) (sym count))
    ∙ sym (lines_more file text p 0 (seen (take k xs)) (place_seen x))
    ∙ ap (site_lines file text p 0) (sym (seen_more (take k xs) (x ∷ [])) ∙ ap seen (sym more))

-- all lines
pub all_lines : (file text : List ℕ) (p : Program) (xs : List Found) (k : ℕ) (new : List ℕ) → length xs ≤ k → new ≡ site_lines file text p 0 (seen (take k xs)) → new ≡ site_lines file text p 0 (seen xs)
all_lines file text p xs k new over e = e ∙ ap (λ ys. site_lines file text p 0 (seen ys)) (take_all k xs over)

-- ## The call expressions of a unit, found by their items

-- as many as the unit has call expressions
pub many_found : (found given : List Found) (us vs : List ItemTree) (p : Program) → given ≡ found → us ≡ vs → seen found ≡ call_places (items_of us) → length (call_places (items_of vs)) ≡ length (sites_of_program p) → length given ≡ length (sites_of_program p)
many_found found given us vs p same items told many =
    ap length same ∙ sym (length-map found place_seen) ∙ ap length (told ∙ ap (λ (is : List ItemTree). call_places (items_of is)) items) ∙ many

-- and their lines are those of the unit
pub lines_of_unit : {E : Type 0} (r : Result (Vec ℕ Global) E) (file text : List ℕ) (p : Program) (found given : List Found) (us vs : List ItemTree) → given ≡ found → us ≡ vs → seen found ≡ call_places (items_of us)
    → IfOk r (λ lines. lines.items ≡ site_lines file text p 0 (seen given)) → IfOk r (λ lines. lines.items ≡ sites_text file text (items_of vs) p)
lines_of_unit (Ok lines) file text p found given us vs same items told is =
    is ∙ ap (site_lines file text p 0) (ap seen same ∙ told ∙ ap (λ (is : List ItemTree). call_places (items_of is)) items)
lines_of_unit (Err e) file text p found given us vs same items told is = is
