-- Events at places of a trace, and null calls between them.
use Rattle.std.proofs.Common.{◌≡◌, ℕ, ◌+◌, ◌<◌, List, [], ◌∷◌, ◌++◌, length, take, get_or, Some, slice_get, refl, sym, ◌∙◌, ap, subst, arith, append-nil}
use Rattle.std.proofs.lemmas.List.{append_assoc, length_push, length-take, get_or-take}
use Rattle.std.proofs.lemmas.Option.{slice_get_within, slice_get-get_or, get_or_from_slice_get}
use Rattle.dm_base.specs.declared.event.Event.{Event}
use Rattle.dm_base.specs.declared.event.Event.TheVariants.{Sys, Pre, Post}
use Rattle.dm_base.specs.Trace.{erase}
use Rattle.flow_model.proofs.Histories.{erase-append, take_next}

pub at_seam : {X : Type 0} (p : List X) (e : X) (u : List X) → slice_get (p ++ e ∷ u) (length p) ≡ Some e
at_seam [] e u = refl
at_seam (x ∷ p) e u = at_seam p e u

-- an item of a first part of a list
pub in_whole : {X : Type 0} (xs : List X) (n i : ℕ) (x : X) → slice_get (take n xs) i ≡ Some x → (i < n) × (slice_get xs i ≡ Some x)
in_whole xs n i x at =
    let short : i < length (take n xs) = slice_get_within (take n xs) i x at in
    let lt : i < n = omega (arith, length-take n xs) in
    let within : i < length xs = omega (arith, length-take n xs) in
    let same : get_or xs i x ≡ x = sym (get_or-take n xs i x lt) ∙ get_or_from_slice_get (take n xs) i x x at in
    (lt, slice_get-get_or xs i x within ∙ ap Some same)

-- the events up to a place, that one included
pub take_at : (t : List Event) (k : ℕ) (e : Event) → slice_get t k ≡ Some e → take (k + 1) t ≡ take k t ++ e ∷ []
take_at t k e at = sym (take_next t k e (slice_get_within t k e at) (sym (get_or_from_slice_get t k e e at)))

pub erase-take_at : (t : List Event) (k : ℕ) (e : Event) → slice_get t k ≡ Some e → erase (take (k + 1) t) ≡ erase (take k t) ++ erase (e ∷ [])
erase-take_at t k e at = ap erase (take_at t k e at) ∙ erase-append (take k t) (e ∷ [])

-- What null calls lead on.
module _ (t : List Event) (P : ℕ → Type 0) (null : (k : ℕ) (e : Event) → slice_get t k ≡ Some e → erase (e ∷ []) ≡ [] → P k → P (k + 1)) where
  over_null : (p u : List Event) (e : Event) → t ≡ p ++ e ∷ u → erase (e ∷ []) ≡ [] → P (length p) → P (length (p ++ e ∷ []))
  over_null p u e is left has =
      let at : slice_get t (length p) ≡ Some e = ap (λ s. slice_get s (length p)) is ∙ at_seam p e u in
      subst P (sym (length_push p e)) (null (length p) e at left has)

  one_more : (p u : List Event) (e : Event) → t ≡ p ++ e ∷ u → t ≡ (p ++ e ∷ []) ++ u
  one_more p u e is = is ∙ sym (append_assoc p (e ∷ []) u)

  -- where nothing else is left
  pub nulls : (p u : List Event) → t ≡ p ++ u → [] ≡ erase u → P (length p) → P (length t)
  nulls p [] is none has = subst P (ap length (sym (append-nil p) ∙ sym is)) has
  nulls p (Sys n a o ∷ u) is none has = absurd cc
  nulls p (Pre s ∷ u) is none has = nulls (p ++ Pre s ∷ []) u (one_more p u (Pre s) is) none (over_null p u (Pre s) is refl has)
  nulls p (Post s ∷ u) is none has = nulls (p ++ Post s ∷ []) u (one_more p u (Post s) is) none (over_null p u (Post s) is refl has)

  -- the next event that isn't left out
  pub record Next (e : Event) (w : List Event) : Type 0 where
    pub before : List Event
    pub rest : List Event
    pub is : t ≡ before ++ e ∷ rest
    pub left : w ≡ erase rest
    pub kept : erase (e ∷ []) ≡ e ∷ []
    pub has : P (length before)

  pub next : (p u : List Event) (e : Event) (w : List Event) → t ≡ p ++ u → e ∷ w ≡ erase u → P (length p) → Next e w
  next p [] e w is same has = absurd cc
  next p (Sys n a o ∷ u) e w is same has =
      let event : Sys n a o ≡ e = cc in
      record { before = p; rest = u; is = is ∙ ap (λ d. p ++ d ∷ u) event; left = cc; kept = subst (λ d. erase (d ∷ []) ≡ d ∷ []) event refl; has = has }
  next p (Pre s ∷ u) e w is same has = next (p ++ Pre s ∷ []) u e w (one_more p u (Pre s) is) same (over_null p u (Pre s) is refl has)
  next p (Post s ∷ u) e w is same has = next (p ++ Post s ∷ []) u e w (one_more p u (Post s) is) same (over_null p u (Post s) is refl has)
