-- What a monitor stands for after one event more.
use Rattle.std.proofs.Common.{◌≡◌, ◌↔◌, ℕ, ◌+◌, ◌≤◌, List, [], ◌∷◌, ◌++◌, length, Contains, refl, sym, ◌∙◌, ap, subst, arith}
use Rattle.dm_base.specs.declared.event.Event.{Event}
use Rattle.dm_base.specs.declared.event.Event.TheVariants.{Sys, Pre, Post}
use Rattle.dm_base.specs.declared.verdict.Step.{Step}
use Rattle.dm_base.specs.declared.verdict.Step.TheVariants.{Kept, Rejected, Bound}
use Rattle.dm_base.specs.Trace.{depth}
use Rattle.dm_sets.specs.Entries.{Entries}
use Rattle.dm_sets.specs.Nodes.{Nodes, Has}
use Rattle.flow_model.specs.declared.which.Which.TheVariants.{Dyck}
use Rattle.flow_model.specs.Graph.{Graph, HasFunction}
use Rattle.flow_model.specs.Language.{Reads}
use Rattle.flow_model.proofs.Histories.{accepted_nothing, accepted_more, rejected_more, rejected_stays, bound_more, bound_stays}
use Rattle.dyck_monitor.specs.Moves.{IsAhead, IsAfter}
use Rattle.dyck_monitor.specs.Silence.{LeadsTo}
use Rattle.dyck_monitor.specs.Silence.LeadsTo.{here}
use Rattle.dyck_monitor.specs.Sites.{SitesGoOn, OpensSite}
use Rattle.dyck_monitor.specs.Standing.{HoldsRuns, Stands}
use Rattle.dyck_monitor.proofs.Standings.{holds_more, holds_nothing, refused_without_ahead, refused_by_sites, reads_by_ahead, sites_few, within_more, deep_more}

-- before the first event
pub stands_nothing : (g : Graph) (bound : ℕ) (nodes : Nodes) (sites : Entries) (entry exit : ℕ) → HasFunction g g.start entry exit → nodes.size ≡ g.nodes → sites ≡ record { bound = bound; items = [] } → ((c : ℕ) → Has nodes c ↔ LeadsTo g entry c) → Stands g bound nodes sites Kept []
stands_nothing g bound nodes sites entry exit start size empty leads =
    let holds = holds_nothing g (Has nodes) entry exit start leads in
    let (first, last, has, run) = (holds entry []).1 ((leads entry).1 here, refl) in
    record {
      size = size;
      bound_is = ap (λ s. s.bound) empty;
      told = accepted_nothing Dyck g bound ((first, last, entry, [], has, run), omega arith);
      holds = λ _. subst (λ s. HoldsRuns g (Has nodes) s.items []) (sym empty) holds;
    }

module _ (g : Graph) (bound : ℕ) (nodes : Nodes) (sites : Entries) (h : List Event) where
  -- what was refused, or passed the bound, stays so
  pub stands_over : (last : Step) (e : Event) → (last ≡ Kept → ⊥) → Stands g bound nodes sites last h → Stands g bound nodes sites last (h ++ e ∷ [])
  stands_over Kept e over stands = absurd (over refl)
  stands_over Rejected e over stands = record {
    size = stands.size;
    bound_is = stands.bound_is;
    told = (stands.told.0, rejected_stays Dyck g bound h e stands.told.0 stands.told.1);
    holds = λ kept. absurd (over kept);
  }
  stands_over Bound e over stands = record {
    size = stands.size;
    bound_is = stands.bound_is;
    told = (stands.told.0, bound_stays Dyck g bound h e stands.told.0 stands.told.1);
    holds = λ kept. absurd (over kept);
  }

  -- The history is accepted so far.
  module _ (e : Event) (new_nodes : Nodes) (new_sites : Entries) (stands : Stands g bound nodes sites Kept h) (size : new_nodes.size ≡ nodes.size) (bound_is : new_sites.bound ≡ sites.bound) where
    stands_refused : (Reads Dyck g (h ++ e ∷ []) → ⊥) → Stands g bound new_nodes new_sites Rejected (h ++ e ∷ [])
    stands_refused refused = record {
      size = size ∙ stands.size;
      bound_is = bound_is ∙ stands.bound_is;
      told = (length h + 1, rejected_more Dyck g bound h e stands.told refused);
      holds = λ kept. absurd (cc);
    }

    -- no node is ahead
    pub stands_rejected : ((b : ℕ) → IsAhead g (Has nodes) e b → ⊥) → Stands g bound new_nodes new_sites Rejected (h ++ e ∷ [])
    stands_rejected none = stands_refused (refused_without_ahead g (Has nodes) sites.items h e (stands.holds refl) none)

    -- the event returns to another site than the newest
    pub stands_wrong : ((z : List ℕ) → SitesGoOn e sites.items z → ⊥) → Stands g bound new_nodes new_sites Rejected (h ++ e ∷ [])
    stands_wrong none = stands_refused (refused_by_sites g (Has nodes) sites.items h e (stands.holds refl) none)

    pub stands_kept : (b : ℕ) → IsAhead g (Has nodes) e b → ((c : ℕ) → Has new_nodes c ↔ IsAfter g (Has nodes) e c) → SitesGoOn e sites.items new_sites.items → (OpensSite e → length new_sites.items ≤ sites.bound) → Stands g bound new_nodes new_sites Kept (h ++ e ∷ [])
    stands_kept b ahead after goes opened =
        let holds = stands.holds refl in
        let few = few_after e new_sites.items goes opened in
        let reads = reads_by_ahead g (Has nodes) sites.items h e holds b new_sites.items ahead goes in
        let within = within_more g bound (Has nodes) sites.items h holds stands.told e new_sites.items goes few in
        record {
          size = size ∙ stands.size;
          bound_is = bound_is ∙ stands.bound_is;
          told = accepted_more Dyck g bound h e stands.told (reads, within);
          holds = λ _. holds_more g (Has nodes) sites.items h e holds (Has new_nodes) new_sites.items after goes;
        }
      where
        few_now : length sites.items ≤ bound
        few_now = sites_few g bound (Has nodes) sites.items h (stands.holds refl) stands.told

        few_after : (e : Event) (new : List ℕ) → SitesGoOn e sites.items new → (OpensSite e → length new ≤ sites.bound) → length new ≤ bound
        few_after (Sys name arguments outcome) new goes opened = omega (arith, few_now, ap length goes)
        few_after (Pre s) new goes opened = omega (arith, opened tt, stands.bound_is)
        few_after (Post s) new goes opened = omega (arith, few_now, ap length goes)

    -- with the most calls open the event opens another one
    pub stands_bound : (b : ℕ) → IsAhead g (Has nodes) e b → OpensSite e → sites.bound ≤ length sites.items → Stands g bound new_nodes new_sites Bound (h ++ e ∷ [])
    stands_bound b ahead opens full = record {
      size = size ∙ stands.size;
      bound_is = bound_is ∙ stands.bound_is;
      told = (length h + 1, bound_more Dyck g bound h e refl stands.told (reads_opened e b ahead opens) (deep_opened e opens (omega (arith, full, stands.bound_is))));
      holds = λ kept. absurd (cc);
    }
      where
        reads_opened : (e : Event) (b : ℕ) → IsAhead g (Has nodes) e b → OpensSite e → Reads Dyck g (h ++ e ∷ [])
        reads_opened (Sys name arguments outcome) b ahead opens = absurd opens
        reads_opened (Pre s) b ahead opens = reads_by_ahead g (Has nodes) sites.items h (Pre s) (stands.holds refl) b (s ∷ sites.items) ahead refl
        reads_opened (Post s) b ahead opens = absurd opens

        deep_opened : (e : Event) → OpensSite e → bound ≤ length sites.items → depth (h ++ e ∷ []) ≡ bound + 1
        deep_opened (Sys name arguments outcome) opens full = absurd opens
        deep_opened (Pre s) opens full = deep_more g bound (Has nodes) sites.items h (stands.holds refl) stands.told s full
        deep_opened (Post s) opens full = absurd opens

-- what is found along silent edges from the nodes ahead is what is after the event
pub after_found : (g : Graph) (Is New : ℕ → Type 0) (e : Event) (ahead found : List ℕ) → ((b : ℕ) → Contains ahead b ↔ IsAhead g Is e b) → ((c : ℕ) → Contains found c ↔ ((b : ℕ) × Contains ahead b × LeadsTo g b c)) → ((c : ℕ) → New c ↔ Contains found c)
    → (c : ℕ) → New c ↔ IsAfter g Is e c
after_found g Is New e ahead found first leads stored c = (
  λ is. let (b, has, rest) = (leads c).0 ((stored c).0 is) in record { first = b; ahead = (first b).0 has; rest = rest },
  λ after. (stored c).1 ((leads c).1 (after.first, (first after.first).1 after.ahead, after.rest)),
)
