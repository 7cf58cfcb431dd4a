-- The functions that mentions name, and the types of the pointers that they call.
use Rattle.std.proofs.Common.{◌≡◌, ◌⊎◌, ◌↔◌, ℕ, ◌<◌, List, [], ◌∷◌, ◌++◌, length, Contains, refl, sym, ◌∙◌, ap, subst, inl, inr, arith, append-nil}
use Rattle.std.specs.Borrow.{Bor}
use Rattle.std.proofs.lemmas.List.{map-append}
use Rattle.std.proofs.lemmas.List.Elements.{Contains-append_left, Contains-push, Contains-push_cases}
use Rattle.std.proofs.lemmas.Option.{get_or_from_slice_get}
use Rattle.c_tree.specs.declared.tree.CType.{CType as TypeTree}
use Rattle.c_tree.specs.Tree.{CType}
use Rattle.c_tree.specs.View.{ctype_of}
use Rattle.c_meaning.specs.Mentions.{Callee, Through, Mention, Named, Calls}
use Rattle.flow_graph.specs.declared.mention.Mention.{Mention as Told}
use Rattle.dm_base.specs.Adding.{Has, Adds, Gains}
use Rattle.flow_graph.specs.Saying.{mention_of, said}
use Rattle.flow_graph.specs.Types.{types_at, first_place, IsThrough}
use Rattle.dm_base.proofs.AddingLemmas.{gains_same, are_all}
use Rattle.c_meaning.proofs.Members.{in_map, from_map}
use Rattle.flow_graph.proofs.ReachingLemmas.{first_within}

same_name : {f g : ℕ} → Named f ≡ Named g → f ≡ g
same_name e = cc

no_name : {f s : ℕ} {callee : Callee} → Named f ≡ Calls s callee → ⊥
no_name e = cc

same_type_called : {s r : ℕ} {t u : CType} → Calls s (Through t) ≡ Calls r (Through u) → t ≡ u
same_type_called e = cc

-- a mention that names f
pub gains_name : (old new : List ℕ) (m : Mention) (f : ℕ) → m ≡ Named f → Gains (Contains old) (Contains new) (λ g. g ≡ f) → Gains (Contains old) (Contains new) (λ g. m ≡ Named g)
gains_name old new m f is gains = gains_same (Contains old) (Contains new) (λ g. g ≡ f) (λ g. m ≡ Named g) (λ g. (λ e. is ∙ ap Named (sym e), λ e. same_name (sym e ∙ is))) gains

pub named_all : (ms : List Told) (keys : List ℕ) → Gains (Contains []) (Contains keys) (λ g. Has (λ m. mention_of m ≡ Named g) ms) → (f : ℕ) → Contains keys f ↔ Contains (said ms) (Named f)
named_all ms keys gains f = (
  λ has. elim ((gains f).0 has) as (λ _. Contains (said ms) (Named f)) [
    | inl none ↦ absurd (omega (arith, none.1))
    | inr r ↦ subst (Contains (said ms)) r.2 (in_map mention_of ms r.0 r.1)
  ],
  λ has. (gains f).1 (inr (from_map mention_of ms (Named f) has)),
)

-- a mention that calls a pointer
pub adds_type : (types : List (Bor TypeTree)) (t : Bor TypeTree) (m : Mention) (s : ℕ) → m ≡ Calls s (Through (ctype_of t.now)) → Adds (types_at types) (types_at (types ++ t ∷ [])) (λ u. IsThrough u m)
adds_type types t m s is =
    let more : types_at (types ++ t ∷ []) ≡ types_at types ++ ctype_of t.now ∷ [] = map-append (λ t. ctype_of t.now) types (t ∷ []) in
    subst (λ us. Adds (types_at types) us (λ u. IsThrough u m)) (sym more) (record {
      grows = (ctype_of t.now ∷ [], refl);
      is = λ u. (
        λ has. elim (Contains-push_cases (types_at types) (ctype_of t.now) u has) as (λ _. Contains (types_at types) u ⊎ IsThrough u m) [
          | inl was ↦ inl was
          | inr e ↦ inr (s, is ∙ ap (λ u. Calls s (Through u)) e)
        ],
        λ either. elim either as (λ _. Contains (types_at types ++ ctype_of t.now ∷ []) u) [
          | inl was ↦ Contains-append_left (types_at types) (ctype_of t.now ∷ []) u was
          | inr called ↦ subst (Contains (types_at types ++ ctype_of t.now ∷ [])) (same_type_called (sym is ∙ called.1)) (Contains-push (types_at types) (ctype_of t.now))
        ],
      );
    })

pub adds_known_type : (types : List CType) (t : CType) (m : Mention) (s : ℕ) → m ≡ Calls s (Through t) → first_place t types < length types → Adds types types (λ u. IsThrough u m)
adds_known_type types t m s is within =
    let k = first_place t types in
    let here : Contains types t = (k, within, get_or_from_slice_get types k t t (first_within t types within)) in
    record {
      grows = ([], sym (append-nil types));
      is = λ u. (
        λ has. inl has,
        λ either. elim either as (λ _. Contains types u) [ inl was ↦ was | inr called ↦ subst (Contains types) (same_type_called (sym is ∙ called.1)) here ],
      );
    }

pub types_all : (ms : List Told) (types : List CType) → Adds [] types (λ t. Has (λ m. IsThrough t (mention_of m)) ms) → (s : ℕ) (t : CType) → Contains (said ms) (Calls s (Through t)) → Contains types t
types_all ms types adds s t has =
    let r = from_map mention_of ms (Calls s (Through t)) has in
    (are_all types (λ t. Has (λ m. IsThrough t (mention_of m)) ms) adds t).1 (r.0, r.1, (s, r.2))
