-- A line marker as far as its double quote.
use Rattle.std.proofs.Common.{◌≡◌, ◌≢◌, ℕ, ◌+◌, ◌<◌, ◌≤◌, List, [], ◌∷◌, ◌++◌, length, get_or, take, drop, suc, refl, sym, ap, ◌∙◌, subst, ⊎_elim, arith, append_assoc, length-append}
use Rattle.std.specs.Prelude.{All}
use Rattle.std.proofs.lemmas.Bool.{cases_order}
use Rattle.std.proofs.lemmas.List.{take-append-drop, take_at, drop_more, length-take-le, get_or_at, get_or_append_left, get_or-take}
use Rattle.dm_base.specs.Name.{IsDigit}
use Rattle.c_lexer.specs.Runs.{IsRunLength}
use Rattle.c_lexer.specs.WhiteParts.{IsMarkerHead, BeginsMarker}

-- two bytes that stand at a place
pub record PairAt (a : List ℕ) (n : ℕ) : Type 0 where
  pub within : n + 2 ≤ length a
  pub space : get_or a n 0 ≡ 32
  pub quote : get_or a (n + 1) 0 ≡ 34

-- two bytes that stand at a place begin what is left from there
pub two_left : (a : List ℕ) (n b c : ℕ) → n + 1 < length a → get_or a n 0 ≡ b → get_or a (n + 1) 0 ≡ c → drop n a ≡ b ∷ c ∷ drop (n + 1 + 1) a
two_left a n b c within first second =
    let one : drop n a ≡ get_or a n 0 ∷ drop (n + 1) a = drop_more a n 0 (omega arith) in
    let two : drop (n + 1) a ≡ get_or a (n + 1) 0 ∷ drop (n + 1 + 1) a = drop_more a (n + 1) 0 within in
    cc

pair_rest : (a : List ℕ) (n : ℕ) → PairAt a n → drop n a ≡ 32 ∷ 34 ∷ drop (n + 1 + 1) a
pair_rest a n at = two_left a n 32 34 (omega (arith, at.within)) at.space at.quote

pair_after : (digits rest : List ℕ) → PairAt (digits ++ 32 ∷ 34 ∷ rest) (length digits)
pair_after digits rest = record {
  within = omega (arith, length-append digits (32 ∷ 34 ∷ rest));
  space = get_or_at digits 32 (34 ∷ rest) 0 (length digits) refl;
  quote = let e : digits ++ 32 ∷ 34 ∷ rest ≡ (digits ++ 32 ∷ []) ++ 34 ∷ rest = sym (append_assoc digits (32 ∷ []) (34 ∷ rest)) in rw e (get_or_at (digits ++ 32 ∷ []) 34 rest 0 (length digits + 1) (omega (arith, length-append digits (32 ∷ []))));
}

-- digits before another byte are all that stand first
digits_are : (digits rest : List ℕ) (n : ℕ) → All IsDigit digits → IsRunLength IsDigit (digits ++ 32 ∷ rest) n → n ≡ length digits
digits_are digits rest n all run =
    let long : length (digits ++ 32 ∷ rest) ≡ length digits + length {A = ℕ} (32 ∷ rest) = length-append digits (32 ∷ rest) in
    ⊎_elim (λ same. same)
    (λ apart. ⊎_elim
    (λ low.
    let at = drop_more (digits ++ 32 ∷ rest) n 0 (omega arith) in
    absurd (run.ends (get_or (digits ++ 32 ∷ rest) n 0) (drop (n + 1) (digits ++ 32 ∷ rest)) at
    (subst IsDigit (sym (get_or_append_left digits (32 ∷ rest) 0 n low)) (all n 0 low))))
    (λ over.
    let within : length digits < length (take n (digits ++ 32 ∷ rest)) = let e = length-take-le n (digits ++ 32 ∷ rest) run.within in omega arith in
    let space : get_or (take n (digits ++ 32 ∷ rest)) (length digits) 0 ≡ 32 = get_or-take n (digits ++ 32 ∷ rest) (length digits) 0 over ∙ get_or_at digits 32 rest 0 (length digits) refl in
    let digit : IsDigit 32 = subst IsDigit space (run.each (length digits) 0 within) in
    absurd (omega arith))
    apart)
    (cases_order n (length digits))

some_digits : (digits : List ℕ) → digits ≢ [] → 0 < length digits
some_digits [] some = absurd (some refl)
some_digits (b ∷ digits) some = omega arith

-- what a marker's bytes are, where the text begins with # and a space
pub pair_from_marker : (a : List ℕ) (n : ℕ) → IsRunLength IsDigit a n → BeginsMarker (35 ∷ 32 ∷ a) → (0 < n) × PairAt a n
pair_from_marker a n run (w, rest, is, head) =
    let whole : 35 ∷ 32 ∷ a ≡ (35 ∷ 32 ∷ head.digits ++ 32 ∷ 34 ∷ []) ++ rest = is ∙ ap (λ v. v ++ rest) head.is in
    let after : a ≡ head.digits ++ 32 ∷ 34 ∷ rest = ap (drop 2) whole ∙ append_assoc head.digits (32 ∷ 34 ∷ []) rest in
    let count : n ≡ length head.digits = digits_are head.digits (34 ∷ rest) n head.are_digits (subst (λ v. IsRunLength IsDigit v n) after run) in (
      subst (λ k. 0 < k) (sym count) (some_digits head.digits head.some),
      subst (λ v. PairAt v n) (sym after) (subst (PairAt (head.digits ++ 32 ∷ 34 ∷ rest)) (sym count) (pair_after head.digits rest)),
    )

marker_text : (a : List ℕ) (n : ℕ) → PairAt a n → take (suc (suc n)) a ≡ take n a ++ 32 ∷ 34 ∷ []
marker_text a n at =
    let rest = drop (n + 1 + 1) a in
    let split : a ≡ (take n a ++ 32 ∷ 34 ∷ []) ++ rest = sym (take-append-drop n a) ∙ ap (λ v. take n a ++ v) (pair_rest a n at) ∙ sym (append_assoc (take n a) (32 ∷ 34 ∷ []) rest) in
    let within : n + 2 ≤ length a = at.within in
    let long : length (take n a) ≡ n = length-take-le n a (omega arith) in
    ap (λ v. take (suc (suc n)) v) split ∙ take_at (take n a ++ 32 ∷ 34 ∷ []) rest (suc (suc n)) (omega (arith, length-append (take n a) (32 ∷ 34 ∷ [])))

head_at : (a : List ℕ) (n : ℕ) → IsRunLength IsDigit a n → 0 < n → PairAt a n → IsMarkerHead (take (suc (suc (suc (suc n)))) (35 ∷ 32 ∷ a))
head_at a n run some at = record {
  digits = take n a;
  is = ap (λ v. 35 ∷ 32 ∷ v) (marker_text a n at);
  some = λ none. let e = length-take-le n a run.within in let f : length (take n a) ≡ 0 = ap length none in omega arith;
  are_digits = run.each;
}

pub marker_head_reads : (i a : List ℕ) (n : ℕ) → i ≡ 35 ∷ 32 ∷ a → IsRunLength IsDigit a n → 0 < n → PairAt a n → (n + 4 ≤ length i) × IsMarkerHead (take (n + 4) i)
marker_head_reads i a n is run some at =
    let count : n + 4 ≡ suc (suc (suc (suc n))) = omega arith in
    let long : length i ≡ length {A = ℕ} (35 ∷ 32 ∷ a) = ap length is in (
      omega (arith, at.within),
      subst (λ v. IsMarkerHead (take (n + 4) v)) (sym is) (subst (λ m. IsMarkerHead (take m (35 ∷ 32 ∷ a))) (sym count) (head_at a n run some at)),
    )

-- no marker begins where its bytes don't stand
pub no_marker_bytes : (i : List ℕ) (n : ℕ) → i ≡ 35 ∷ 32 ∷ drop 2 i → IsRunLength IsDigit (drop 2 i) n → ((0 < n) × PairAt (drop 2 i) n → ⊥) → BeginsMarker i → ⊥
no_marker_bytes i n is run none begins = none (pair_from_marker (drop 2 i) n run (subst BeginsMarker is begins))
