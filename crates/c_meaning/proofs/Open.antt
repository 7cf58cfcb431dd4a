-- How many calls are open in a word, by recursion on how it is read.
use Rattle.std.proofs.Common.{◌≡◌, ℕ, ◌-◌, ◌<◌, ◌≤◌, ℤ, List, [], ◌∷◌, Option, ap, refl, arith}
use Rattle.dm_base.specs.declared.event.Event.{Event}
use Rattle.dm_base.specs.declared.event.Event.TheVariants as events
use Rattle.dm_base.specs.Fits.{Fits}
use Rattle.dm_base.specs.Trace.{depth}
use Rattle.c_meaning.specs.Shape.{Shape, Shapes, Parts, Leave, shape_of}
use Rattle.c_meaning.specs.Words.{brackets, Whole, Rounds, Again, Falls, Picks, Front, FrontFalls, FrontPicks}
use Rattle.c_meaning.specs.Words as F
use Rattle.c_meaning.specs.CallDepth.{CallsAreBelow, CallsInAreBelow, CallsDescend}

-- a system call opens nothing
sys_opens : (x : ℕ) (q : List (Option ℤ)) (e : Event) (t : List Event) → Fits x q e → depth (e ∷ t) ≡ depth t
sys_opens x q (events.Sys y arguments outcome) t fits = refl
sys_opens x q e t fits = absurd fits

-- what is read in a call, one less being allowed there
opened : (s r k d : ℕ) (t u : List Event) → t ≡ events.Pre s ∷ u → r < k → k ≤ d → depth u ≤ d - 1 → depth t ≤ d
opened s r k d t u e below most inner = let same = ap depth e in omega (arith, same, below, most, inner)

closed : (s d : ℕ) (v w : List Event) → v ≡ events.Post s ∷ w → depth w ≤ d → depth v ≤ d - 1
closed s d v w e most = let same = ap depth e in omega (arith, same, most)

module _ (env : Shapes) (rank : ℕ → ℕ) (descends : CallsDescend rank env) where
  abbrev Below : ℕ → Shape → Type 0
  Below k S = CallsAreBelow env.candidates rank k S

  abbrev AllBelow : ℕ → Parts → Type 0
  AllBelow k ps = CallsInAreBelow env.candidates rank k ps

  mutual
    whole : (k d : ℕ) → k ≤ d → (S : Shape) (x : Leave) (t u : List Event) → Below k S → Whole env brackets S x t u → depth u ≤ d → depth t ≤ d
    whole k d n S x t u b F.skip h = h
    whole k d n S x t u b (F.sys {x = y} {q = q} {e = e} fits) h = let same = sys_opens y q e u fits in omega (arith, same, h)
    whole k d n S x t u b (F.call {s = s} {f = f} {x = y} {u = v} {v = w} among e run done f2) h =
        let below : rank f < k = b f among in
        opened s (rank f) k d t v e below n (whole (rank f) (d - 1) (omega (arith, below, n)) (shape_of env f) y v w (descends f) run (closed s d w u f2 h))
    whole k d n S x t u b (F.left h0) h = whole k d n _ _ _ _ b.0 h0 h
    whole k d n S x t u b (F.right h0) h = whole k d n _ _ _ _ b.1 h0 h
    whole k d n S x t u b (F.loop_end h0 h1) h = rounds k d n _ _ _ _ _ b h0 (whole k d n _ _ _ _ b.0 h1 h)
    whole k d n S x t u b (F.loop_break h0 h1 h2) h = rounds k d n _ _ _ _ _ b h0 (whole k d n _ _ _ _ b.0 h1 (whole k d n _ _ _ _ b.1 h2 h))
    whole k d n S x t u b (F.loop_return h0 h1 h2) h = rounds k d n _ _ _ _ _ b h0 (whole k d n _ _ _ _ b.0 h1 (whole k d n _ _ _ _ b.1 h2 h))
    whole k d n S x t u b (F.do_end h0 h1 h2 h3) h = agains k d n _ _ _ _ b h0 (whole k d n _ _ _ _ b.0 h2 (whole k d n _ _ _ _ b.1 h3 h))
    whole k d n S x t u b (F.do_break h0 h1) h = agains k d n _ _ _ _ b h0 (whole k d n _ _ _ _ b.0 h1 h)
    whole k d n S x t u b (F.do_return h0 h1) h = agains k d n _ _ _ _ b h0 (whole k d n _ _ _ _ b.0 h1 h)
    whole k d n S x t u b (F.in_order h0) h = falls k d n _ _ _ _ b h0 h
    whole k d n S x t u b (F.cases_end h0) h = picks k d n _ _ _ _ b h0 h
    whole k d n S x t u b (F.cases_break h0) h = picks k d n _ _ _ _ b h0 h
    whole k d n S x t u b (F.cases_continue h0) h = picks k d n _ _ _ _ b h0 h
    whole k d n S x t u b (F.cases_return h0) h = picks k d n _ _ _ _ b h0 h
    whole k d n S x t u b F.cases_none h = h
    whole k d n S x t u b F.break_out h = h
    whole k d n S x t u b F.continue_on h = h
    whole k d n S x t u b F.return_now h = h

    rounds : (k d : ℕ) → k ≤ d → (C B P : Shape) (t u : List Event) → Below k C × Below k B × Below k P → Rounds env brackets C B P t u → depth u ≤ d → depth t ≤ d
    rounds k d n C B P t u b F.none h = h
    rounds k d n C B P t u b (F.round h0 h1 h2 h3 h4) h =
        rounds k d n C B P _ _ b h0 (whole k d n C _ _ _ b.0 h1 (whole k d n B _ _ _ b.1 h3 (whole k d n P _ _ _ b.2 h4 h)))

    agains : (k d : ℕ) → k ≤ d → (B C : Shape) (t u : List Event) → Below k B × Below k C → Again env brackets B C t u → depth u ≤ d → depth t ≤ d
    agains k d n B C t u b F.first h = h
    agains k d n B C t u b (F.again h0 h1 h2 h3) h = agains k d n B C _ _ b h0 (whole k d n B _ _ _ b.0 h2 (whole k d n C _ _ _ b.1 h3 h))

    falls : (k d : ℕ) → k ≤ d → (ps : Parts) (x : Leave) (t u : List Event) → AllBelow k ps → Falls env brackets ps x t u → depth u ≤ d → depth t ≤ d
    falls k d n ps x t u b F.ended h = h
    falls k d n ps x t u b (F.falls_on h0 h1) h = whole k d n _ _ _ _ b.0 h0 (falls k d n _ _ _ _ b.1 h1 h)
    falls k d n ps x t u b (F.falls_away h0 h1) h = whole k d n _ _ _ _ b.0 h1 h

    picks : (k d : ℕ) → k ≤ d → (ps : Parts) (x : Leave) (t u : List Event) → AllBelow k ps → Picks env brackets ps x t u → depth u ≤ d → depth t ≤ d
    picks k d n ps x t u b (F.this h0) h = falls k d n _ _ _ _ b h0 h
    picks k d n ps x t u b (F.later h0) h = picks k d n _ _ _ _ b.1 h0 h

  -- where nothing is open in what is left
  none_open : (d : ℕ) (u : List Event) → depth u ≡ 0 → depth u ≤ d
  none_open d u e = omega (arith, e)

  mutual
    pub front : (k d : ℕ) → k ≤ d → (S : Shape) (t u : List Event) → Below k S → Front env brackets S t u → depth u ≡ 0 → depth t ≤ d
    front k d n S t u b F.nothing h = none_open d u h
    front k d n S t u b (F.all h0) h = whole k d n S _ t u b h0 (none_open d u h)
    front k d n S t u b (F.exits {q = q} {e = e} fits) h = let same = sys_opens _ q e u fits in omega (arith, same, h)
    front k d n S t u b (F.inside {s = s} {f = f} {u = v} among e run) h =
        let below : rank f < k = b f among in
        opened s (rank f) k d t v e below n (front (rank f) (d - 1) (omega (arith, below, n)) (shape_of env f) v u (descends f) run h)
    front k d n S t u b (F.in_left h0) h = front k d n _ _ _ b.0 h0 h
    front k d n S t u b (F.in_right h0) h = front k d n _ _ _ b.1 h0 h
    front k d n S t u b (F.in_test h0 h1) h = rounds k d n _ _ _ _ _ b h0 (front k d n _ _ _ b.0 h1 h)
    front k d n S t u b (F.in_body h0 h1 h2) h = rounds k d n _ _ _ _ _ b h0 (whole k d n _ _ _ _ b.0 h1 (front k d n _ _ _ b.1 h2 h))
    front k d n S t u b (F.in_step h0 h1 h2 h3 h4) h =
        rounds k d n _ _ _ _ _ b h0 (whole k d n _ _ _ _ b.0 h1 (whole k d n _ _ _ _ b.1 h3 (front k d n _ _ _ b.2 h4 h)))
    front k d n S t u b (F.in_do h0 h1) h = agains k d n _ _ _ _ b h0 (front k d n _ _ _ b.0 h1 h)
    front k d n S t u b (F.in_until h0 h1 h2 h3) h = agains k d n _ _ _ _ b h0 (whole k d n _ _ _ _ b.0 h2 (front k d n _ _ _ b.1 h3 h))
    front k d n S t u b (F.in_seq h0) h = front_falls k d n _ _ _ b h0 h
    front k d n S t u b (F.in_cases h0) h = front_picks k d n _ _ _ b h0 h

    front_falls : (k d : ℕ) → k ≤ d → (ps : Parts) (t u : List Event) → AllBelow k ps → FrontFalls env brackets ps t u → depth u ≡ 0 → depth t ≤ d
    front_falls k d n ps t u b (F.in_part h0) h = front k d n _ _ _ b.0 h0 h
    front_falls k d n ps t u b (F.in_next h0 h1) h = whole k d n _ _ _ _ b.0 h0 (front_falls k d n _ _ _ b.1 h1 h)

    front_picks : (k d : ℕ) → k ≤ d → (ps : Parts) (t u : List Event) → AllBelow k ps → FrontPicks env brackets ps t u → depth u ≡ 0 → depth t ≤ d
    front_picks k d n ps t u b (F.from_this h0) h = front_falls k d n _ _ _ b h0 h
    front_picks k d n ps t u b (F.from_later h0) h = front_picks k d n _ _ _ b.1 h0 h

-- a word has at most as many calls open as the rank of main says
pub bounded : (rank : ℕ → ℕ) (env : Shapes) → CallsDescend rank env → (t : List Event) → Front env brackets (shape_of env env.main) t [] → depth t ≤ rank env.main
bounded rank env descends t h =
    front env rank descends (rank env.main) (rank env.main) (omega arith) (shape_of env env.main) t [] (descends env.main) h refl
