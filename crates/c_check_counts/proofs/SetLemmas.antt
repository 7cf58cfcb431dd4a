-- Names, each once.
use Rattle.std.proofs.Common.{◌≡◌, ℕ, ◌+◌, ◌<◌, ◌≤◌, List, [], ◌∷◌, ◌++◌, length, take, get_or, Bor, refl, sym, ap, ◌∙◌}
use Rattle.std.proofs.lemmas.List.{take_more, take_all, map-append}
use Rattle.c_rules.specs.Names.{Name, with_new, each_once}
use Rattle.c_syntax.specs.SeenNames.{bytes_of, seen}

pub each_more : (ys xs : List Name) (x : Name) → each_once ys (xs ++ x ∷ []) ≡ with_new (each_once ys xs) x
each_more ys [] x = refl
each_more ys (y ∷ xs) x = each_more (with_new ys y) xs x

pub once_more : (xs : List (Bor (List ℕ))) (i : ℕ) (d : Bor (List ℕ)) (old new : List Name) → i < length xs → old ≡ each_once [] (seen (take i xs))
    → new ≡ with_new old (get_or xs i d).now → new ≡ each_once [] (seen (take (i + 1) xs))
once_more xs i d old new lt before step =
    let more : seen (take (i + 1) xs) ≡ seen (take i xs) ++ (get_or xs i d).now ∷ [] = ap seen (take_more xs i d lt) ∙ map-append bytes_of (take i xs) (get_or xs i d ∷ []) in
    step ∙ (ap (λ ys. with_new ys (get_or xs i d).now) before ∙ (sym (each_more [] (seen (take i xs)) (get_or xs i d).now) ∙ ap (each_once []) (sym more)))

pub once_all : (xs : List (Bor (List ℕ))) (i : ℕ) (ys : List Name) → length xs ≤ i → ys ≡ each_once [] (seen (take i xs)) → ys ≡ each_once [] (seen xs)
once_all xs i ys over is = is ∙ ap (λ zs. each_once [] (seen zs)) (take_all i xs over)
