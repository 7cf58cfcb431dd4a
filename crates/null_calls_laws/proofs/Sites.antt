-- The sites of a program are numbers of unsigned int (C99 5.2.4.1, 6.4.4.1).
use Rattle.std.proofs.Common.{inl, inr, ℕ, ◌<◌, Option, None, Some, sym, subst, arith}
use Rattle.std.proofs.lemmas.Bool.{cases_lt}
use Rattle.c_tree.specs.Tree.{Program}
use Rattle.c_tree.specs.Program.{IsProgram}
use Rattle.null_calls_laws.specs.MarkedCalls.{Called, marked_of, sites_of}
use Rattle.flow_graph.proofs.SitesLemmas.{no_site}
use Rattle.null_calls_laws.proofs.FineParts.{FitsWhere}

fits : (o : Option Called) (s : ℕ) → s < 4294967296 → FitsWhere o s
fits None s h = tt
fits (Some c) s h = h

pub sites_fit : (p : Program) (n : ℕ) → IsProgram p n → (s : ℕ) → FitsWhere (sites_of p s) s
sites_fit p n h s = elim (cases_lt s n) as (λ _. FitsWhere (sites_of p s) s) [
  | inl k ↦ fits (sites_of p s) s (let f = h.few_sites in omega (arith, k, f))
  | inr past ↦ subst (λ o. FitsWhere (marked_of p o) s) (sym (no_site s n p h past)) tt
]
