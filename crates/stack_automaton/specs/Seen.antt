-- What contracts see of a pool and of a monitor.
use Rattle.std.specs.Prelude.{◌≡◌, ◌⊎◌, ℕ, List, refl}
use Rattle.std.proofs.Common.{inl, inr}
use Rattle.std.specs.Coded.{Coded, code_by, coded×, coded⊎, coded_ℕ, coded_list}
use Rattle.std.specs.Ordering.{nat_cmp}
use Rattle.std.specs.FinMap as map
use Rattle.std.specs.FinMap.{FinMap}
use Rattle.dm_base.specs.declared.verdict.Step.{Step}
use Rattle.stack_automaton.specs.declared.place.Edge.{Edge}
use Rattle.stack_automaton.specs.declared.place.Fact.{Fact}
use Rattle.stack_automaton.specs.declared.place.Place.{Place}
use Rattle.stack_automaton.specs.declared.place.Place.TheVariants.{Held, Entered}
use Rattle.stack_automaton.specs.Held.{States}

-- an earlier event: the facts with which it began (nodes, and the key below each), and the key to which it led
pub record Memory : Type 0 where
  pub begin : List Fact
  pub key : ℕ

-- a pool: the edges of each state by its key, the final key, the keys that are noted, and the events that are remembered
pub record Contents : Type 0 where
  pub entries : FinMap nat_cmp (List Edge)
  pub final : ℕ
  pub noted : List ℕ
  pub remembered : List Memory

-- a monitor: its last answer, which is Kept at first, and a key of the pool
pub record Position : Type 0 where
  pub answer : Step
  pub key : ℕ

-- the edges of the state at each key of the pool
abbrev pub edges_at : Contents → States
edges_at p = map.get p.entries

-- the contents are stored as the tuple of their parts
abbrev pub edge_code : Coded Edge
edge_code = code_by (ℕ × ℕ) (coded× coded_ℕ coded_ℕ) (λ e. (e.label, e.to)) (λ p. record { label = p.0; to = p.1 }) (λ _. refl)

abbrev pub place_in : Place → ℕ ⊎ ℕ
place_in (Held q) = inl q
place_in (Entered f) = inr f

abbrev pub place_of : ℕ ⊎ ℕ → Place
place_of (inl q) = Held q
place_of (inr f) = Entered f

pub place_again : (p : Place) → place_of (place_in p) ≡ p
place_again (Held q) = refl
place_again (Entered f) = refl

abbrev pub fact_code : Coded Fact
fact_code =
    code_by
    (ℕ × (ℕ ⊎ ℕ))
    (coded× coded_ℕ (coded⊎ coded_ℕ coded_ℕ))
    (λ x. (x.node, place_in x.place))
    (λ p. record { node = p.0; place = place_of p.1 })
    (λ x. λ i. record { node = x.node; place = place_again x.place i })

abbrev pub memory_code : Coded Memory
memory_code = code_by (List Fact × ℕ) (coded× (coded_list fact_code) coded_ℕ) (λ m. (m.begin, m.key)) (λ p. record { begin = p.0; key = p.1 }) (λ _. refl)

abbrev pub contents_code : Coded Contents
contents_code =
    code_by
    (FinMap nat_cmp (List Edge) × (ℕ × (List ℕ × List Memory)))
    (coded× (map.code coded_ℕ (coded_list edge_code)) (coded× coded_ℕ (coded× (coded_list coded_ℕ) (coded_list memory_code))))
    (λ c. (c.entries, (c.final, (c.noted, c.remembered))))
    (λ p. record { entries = p.0; final = p.1.0; noted = p.1.1.0; remembered = p.1.1.1 })
    (λ _. refl)
