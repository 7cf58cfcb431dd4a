-- Chains as paths from function to function.
use Rattle.std.proofs.Common.{ℕ, List, [], ◌∷◌, arith}
use Rattle.flow_model.specs.Graph.{Graph, HasCall}
use Rattle.flow_model.specs.Rules.{IsValid}
use Rattle.inline_model.specs.Chains.{Opening, LeadsOn, IsChain, IsGreatest, HasNoGreatest}
use Rattle.inline_model.specs.Chains.LeadsOn.{ends, opens}
use Rattle.inline_model.specs.Chains.IsChain.{empty, first}
use Rattle.inline_model.specs.Searching.{FromFunction}
use Rattle.inline_model.specs.Searching.FromFunction.{stays, goes}
use Rattle.inline_model.proofs.Basics.{at_one_site}

-- an opening of a site into any of its candidates
pub opening_into : {g : Graph} → IsValid g → {f s h a b k : ℕ} → Opening g f s h → HasCall g a s b k → Opening g f s k
opening_into {g} valid {f = f} one call = record {
  from = one.from;
  to = one.to;
  call = at_one_site valid one.call call;
  within = one.within;
}

pub from_leads : {g : Graph} → IsValid g → {f s h : ℕ} {sites : List ℕ} → Opening g f s h → LeadsOn g s sites → FromFunction g f (s ∷ sites)
from_leads valid opening ends = goes opening stays
from_leads valid opening (opens next rest) = goes (opening_into valid opening next.call) (from_leads valid next.opening rest)

pub from_chain : {g : Graph} → IsValid g → {sites : List ℕ} → IsChain g sites → FromFunction g g.start sites
from_chain valid empty = stays
from_chain valid (first there leads) = from_leads valid there.1 leads

pub leads_from : {g : Graph} {f s h : ℕ} {sites : List ℕ} → Opening g f s h → FromFunction g h sites → LeadsOn g s sites
leads_from opening stays = ends
leads_from {g} {f} {s} {h} opening (goes next rest) = opens (record { from = opening.from; to = opening.to; function = h; candidate = _; call = opening.call; opening = next }) (leads_from next rest)

pub chain_from : {g : Graph} {sites : List ℕ} → FromFunction g g.start sites → IsChain g sites
chain_from stays = empty
chain_from (goes {h = h} opening rest) = first (h, opening) (leads_from opening rest)

pub greatest_excludes : (g : Graph) (n : ℕ) → IsGreatest g n → HasNoGreatest g → ⊥
greatest_excludes g n greatest none = let longer = none n in omega (arith, longer.2, greatest.all longer.0 longer.1)
