-- Keys that are noted, and what a sweep keeps.
use Rattle.std.proofs.Common.{◌≡◌, ◌≢◌, ◌⊎◌, ◌↔◌, ℕ, ◌+◌, ◌<◌, ◌≤◌, List, [], ◌∷◌, ◌++◌, length, take, get_or, Contains, Some, None, refl, sym, ◌∙◌, ap, subst, inl, inr, arith, append-nil}
use Rattle.std.proofs.lemmas.List.{take_more, take_all, append_assoc, take-append-le}
use Rattle.std.proofs.lemmas.List.Elements.{Contains-append_left, Contains-push_cases}
use Rattle.std.proofs.lemmas.Bool.{cases_eq}
use Rattle.stack_automaton.specs.declared.place.Edge.{Edge}
use Rattle.stack_automaton.specs.Held.{States, IsThere, HasEdge, Leads}
use Rattle.stack_automaton.specs.Held.Leads.{here, on}
use Rattle.dm_base.specs.Adding.{Has, Adds}
use Rattle.stack_automaton.specs.Noting.{IsNextTo, IsLedTo, AreNotedTo, IsSwept}
use Rattle.stack_automaton.specs.Storing.{IsClosed}

pub leads_more : {E : ℕ → ℕ → ℕ → Type 0} {j k l q : ℕ} → Leads E j k → E k l q → Leads E j q
leads_more here edge = on edge here
leads_more (on first rest) edge = on first (leads_more rest edge)

pub leads_closed : {E : ℕ → ℕ → ℕ → Type 0} {j k : ℕ} (P : ℕ → Type 0) → ((k l q : ℕ) → P k → E k l q → P q) → Leads E j k → P j → P k
leads_closed P closed here is = is
leads_closed P closed (on {k = k} {l = l} {q = q} first rest) is = leads_closed P closed rest (closed k l q is first)

pub noted_none : (s : States) (begin : List ℕ) → AreNotedTo s begin begin 0
noted_none s begin = record {
  grows = ([], sym (append-nil begin));
  sound = λ q has. (q, has, here);
  followed = λ k q has. absurd (omega (arith, has.1));
}

pub noted_more : (s : States) (begin mid new : List ℕ) (i key : ℕ) → i < length mid → key ≡ get_or mid i key → AreNotedTo s begin mid i → Adds mid new (IsNextTo s key) → AreNotedTo s begin new (i + 1)
noted_more s begin mid new i key lt is before adds =
    let (r, one) = before.grows in
    let (t, two) = adds.grows in
    let short : i + 1 ≤ length mid = omega arith in
    let same : take (i + 1) new ≡ take (i + 1) mid = ap (λ xs. take (i + 1) xs) two ∙ take-append-le (i + 1) mid t short in
    let more : take (i + 1) mid ≡ take i mid ++ key ∷ [] = take_more mid i key lt ∙ ap (λ y. take i mid ++ y ∷ []) (sym is) in
    let at : Contains mid key = (i, lt, sym is) in
    record {
      grows = (r ++ t, two ∙ ap (λ xs. xs ++ t) one ∙ append_assoc begin r t);
      sound = λ q has. elim ((adds.is q).0 has) as (λ _. IsLedTo s begin q) [
        | inl was ↦ before.sound q was
        | inr next ↦ let (k, in_begin, leads) = before.sound key at in let (l, edge) = next in (k, in_begin, leads_more leads edge)
      ];
      followed = λ k q has next. elim (Contains-push_cases (take i mid) key k (subst (λ xs. Contains xs k) (same ∙ more) has)) as (λ _. Contains new q) [
        | inl was ↦ (adds.is q).1 (inl (before.followed k q was next))
        | inr e ↦ (adds.is q).1 (inr (subst (λ j. IsNextTo s j q) (sym e) next))
      ];
    }

pub noted_all : (s : States) (begin all : List ℕ) (n : ℕ) → length all ≤ n → AreNotedTo s begin all n → (q : ℕ) → Contains all q ↔ IsLedTo s begin q
noted_all s begin all n over to q =
    let (rest, grows) = to.grows in (
      to.sound q,
      λ (k, has, leads). leads_closed (Contains all) (λ j l r is edge. to.followed j r (subst (λ xs. Contains xs j) (sym (take_all n all over)) is) (l, edge)) leads
          (subst (λ xs. Contains xs k) (sym grows) (Contains-append_left begin rest k has)),
    )

pub same_next : (s : States) (key : ℕ) (edges : List Edge) → s key ≡ Some edges → (q : ℕ) → Has (λ e. q ≡ e.to) edges ↔ IsNextTo s key q
same_next s key edges found q = (
  λ (e, has, to). (e.label, (edges, found, subst (λ n. Contains edges (record { label = e.label; to = n })) (sym to) has)),
  λ (l, (others, is, has)).
      let both : Some others ≡ Some edges = sym is ∙ found in
      let equal : others ≡ edges = cc in
      (record { label = l; to = q }, subst (λ es. Contains es (record { label = l; to = q })) equal has, refl),
)

pub leads_trans : {E : ℕ → ℕ → ℕ → Type 0} {i j k : ℕ} → Leads E i j → Leads E j k → Leads E i k
leads_trans here rest = rest
leads_trans (on edge more) rest = on edge (leads_trans more rest)

pub led_from : (s : States) (old mid : List ℕ) (key : ℕ) → Adds old mid (λ k. k ≡ key) → (k : ℕ) → IsLedTo s mid k ↔ ((j : ℕ) × (Contains old j ⊎ (j ≡ key)) × Leads (HasEdge s) j k)
led_from s old mid key adds k = (
  λ (j, has, leads). (j, (adds.is j).0 has, leads),
  λ (j, has, leads). (j, (adds.is j).1 has, leads),
)

-- a key is freed
module _ (old new : States) (key : ℕ) (others : (k : ℕ) → k ≢ key → new k ≡ old k) where
  pub freed_kept : (noted : List ℕ) (final : ℕ) → key ≢ final → (Contains noted key → ⊥) → (k : ℕ) → Contains noted k ⊎ (k ≡ final) → new k ≡ old k
  freed_kept noted final other free k (inl has) = others k (λ e. free (subst (Contains noted) e has))
  freed_kept noted final other free k (inr last) = others k (λ e. other (sym e ∙ last))

  pub freed_fewer : new key ≡ None → (k : ℕ) (edges : List Edge) → new k ≡ Some edges → old k ≡ Some edges
  freed_fewer gone k edges is = elim (cases_eq k key) as (λ _. old k ≡ Some edges) [
    | inl e ↦ let both : None ≡ Some edges = sym gone ∙ ap new (sym e) ∙ is in absurd cc
    | inr ne ↦ sym (others k ne) ∙ is
  ]

-- edges at a key that is swept or kept
module _ (old new : States) (noted : List ℕ) (final : ℕ) (kept : (k : ℕ) → Contains noted k ⊎ (k ≡ final) → new k ≡ old k) where
  pub same_noted : (k l q : ℕ) → Contains noted k → HasEdge new k l q ↔ HasEdge old k l q
  same_noted k l q is = (
    λ (es, f, e). (es, sym (kept k (inl is)) ∙ f, e),
    λ (es, f, e). (es, kept k (inl is) ∙ f, e),
  )

  pub leads_new : ((k l q : ℕ) → Contains noted k → HasEdge old k l q → Contains noted q) → {j q : ℕ} → Contains noted j → Leads (HasEdge old) j q → Leads (HasEdge new) j q
  leads_new closed is here = here
  leads_new closed is (on {k = k} {l = l} {q = q} edge rest) = on ((same_noted k l q is).1 edge) (leads_new closed (closed k l q is edge) rest)

-- A sweep, where the notes are closed.
module _ (old new : States) (noted : List ℕ) (final : ℕ) (was_closed : IsClosed old) (empty : old final ≡ Some []) (closed : (k l q : ℕ) → Contains noted k → HasEdge old k l q → Contains noted q)
    (kept : (k : ℕ) → Contains noted k ⊎ (k ≡ final) → new k ≡ old k) (gone : (k : ℕ) → (Contains noted k → ⊥) → k ≢ final → new k ≡ None) (decide : (k : ℕ) → Contains noted k ⊎ (Contains noted k → ⊥)) where
  pub swept_closed : IsClosed new
  swept_closed k edges e found has = elim (decide k) as (λ _. IsThere new e.to) [
    | inl is ↦
        let was : old k ≡ Some edges = sym (kept k (inl is)) ∙ found in
        let (more, there) = was_closed k edges e was has in
        (more, kept e.to (inl (closed k e.label e.to is (edges, was, has))) ∙ there)
    | inr not ↦ elim (cases_eq k final) as (λ _. IsThere new e.to) [
      | inl last ↦
          let at : new k ≡ Some [] = kept k (inr last) ∙ ap old last ∙ empty in
          let both : Some edges ≡ Some [] = sym found ∙ at in
          let none : edges ≡ [] = cc in
          absurd (let inside : Contains [] e = subst (λ es. Contains es e) none has in omega (arith, inside.1))
      | inr other ↦ let both : Some edges ≡ None = sym found ∙ gone k not other in absurd cc
    ]
  ]

  pub swept_empty : new final ≡ Some []
  swept_empty = kept final (inr refl) ∙ empty

-- a sweep that has come to one key more
pub swept_more : (old mid new : States) (noted : List ℕ) (final n : ℕ) → ((k : ℕ) → Contains noted k ⊎ (k ≡ final) → new k ≡ mid k) → ((k : ℕ) → k ≢ n → new k ≡ mid k) → ((Contains noted n → ⊥) → n ≢ final → new n ≡ None)
    → ((k : ℕ) (edges : List Edge) → new k ≡ Some edges → mid k ≡ Some edges) → IsSwept old mid noted final n → IsSwept old new noted final (n + 1)
swept_more old mid new noted final n kept others gone fewer was = record {
  kept = λ k keep. kept k keep ∙ was.kept k keep;
  gone = λ k lt not ne. elim (cases_eq k n) as (λ _. new k ≡ None) [
    | inl e ↦ subst (λ j. (Contains noted j → ⊥) → j ≢ final → new j ≡ None) (sym e) gone not ne
    | inr other ↦ others k other ∙ was.gone k (omega (arith, other, lt)) not ne
  ];
  fewer = λ k edges is. was.fewer k edges (fewer k edges is);
}
