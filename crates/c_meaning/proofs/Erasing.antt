-- The null calls of a word with brackets left out, what is left is a word without brackets.
use Rattle.std.proofs.Common.{ℕ, ℤ, List, ◌∷◌, Option, ap}
use Rattle.dm_base.specs.declared.event.Event.{Event}
use Rattle.dm_base.specs.declared.event.Event.TheVariants as events
use Rattle.dm_base.specs.Fits.{Fits}
use Rattle.dm_base.specs.Trace.{erase}
use Rattle.c_meaning.specs.Shape.{Shape, Shapes, Sys, Exit, Parts, Leave, goes_on, exit_call}
use Rattle.c_meaning.specs.Words.{brackets, no_brackets, Whole, Rounds, Again, Falls, Picks, Front, FrontFalls, FrontPicks}
use Rattle.c_meaning.specs.Words as F

module _ (env : Shapes) where
  sys_erased : {x : ℕ} {q : List (Option ℤ)} (t : List Event) (e : Event) → Fits x q e → Whole env no_brackets (Sys x q) goes_on (erase (e ∷ t)) (erase t)
  sys_erased t (events.Sys y arguments outcome) fits = F.sys fits
  sys_erased t e fits = absurd fits

  exit_erased : {q : List (Option ℤ)} (t : List Event) (e : Event) → Fits exit_call q e → Front env no_brackets (Exit q) (erase (e ∷ t)) (erase t)
  exit_erased t (events.Sys y arguments outcome) fits = F.exits fits
  exit_erased t e fits = absurd fits

  mutual
    pub whole : {S : Shape} {x : Leave} {t u : List Event} → Whole env brackets S x t u → Whole env no_brackets S x (erase t) (erase u)
    whole F.skip = F.skip
    whole (F.sys {e = e} {t = t} fits) = sys_erased t e fits
    whole (F.call h0 h1 h2 h3 h4) = F.call h0 (ap erase h1) (whole h2) h3 (ap erase h4)
    whole (F.left h0) = F.left (whole h0)
    whole (F.right h0) = F.right (whole h0)
    whole (F.loop_end h0 h1) = F.loop_end (rounds h0) (whole h1)
    whole (F.loop_break h0 h1 h2) = F.loop_break (rounds h0) (whole h1) (whole h2)
    whole (F.loop_return h0 h1 h2) = F.loop_return (rounds h0) (whole h1) (whole h2)
    whole (F.do_end h0 h1 h2 h3) = F.do_end (agains h0) h1 (whole h2) (whole h3)
    whole (F.do_break h0 h1) = F.do_break (agains h0) (whole h1)
    whole (F.do_return h0 h1) = F.do_return (agains h0) (whole h1)
    whole (F.in_order h0) = F.in_order (falls h0)
    whole (F.cases_end h0) = F.cases_end (picks h0)
    whole (F.cases_break h0) = F.cases_break (picks h0)
    whole (F.cases_continue h0) = F.cases_continue (picks h0)
    whole (F.cases_return h0) = F.cases_return (picks h0)
    whole F.cases_none = F.cases_none
    whole F.break_out = F.break_out
    whole F.continue_on = F.continue_on
    whole F.return_now = F.return_now

    rounds : {C B P : Shape} {t u : List Event} → Rounds env brackets C B P t u → Rounds env no_brackets C B P (erase t) (erase u)
    rounds F.none = F.none
    rounds (F.round h0 h1 h2 h3 h4) = F.round (rounds h0) (whole h1) h2 (whole h3) (whole h4)

    agains : {B C : Shape} {t u : List Event} → Again env brackets B C t u → Again env no_brackets B C (erase t) (erase u)
    agains F.first = F.first
    agains (F.again h0 h1 h2 h3) = F.again (agains h0) h1 (whole h2) (whole h3)

    falls : {ps : Parts} {x : Leave} {t u : List Event} → Falls env brackets ps x t u → Falls env no_brackets ps x (erase t) (erase u)
    falls F.ended = F.ended
    falls (F.falls_on h0 h1) = F.falls_on (whole h0) (falls h1)
    falls (F.falls_away h0 h1) = F.falls_away h0 (whole h1)

    picks : {ps : Parts} {x : Leave} {t u : List Event} → Picks env brackets ps x t u → Picks env no_brackets ps x (erase t) (erase u)
    picks (F.this h0) = F.this (falls h0)
    picks (F.later h0) = F.later (picks h0)

  mutual
    pub front : {S : Shape} {t u : List Event} → Front env brackets S t u → Front env no_brackets S (erase t) (erase u)
    front F.nothing = F.nothing
    front (F.all h0) = F.all (whole h0)
    front (F.exits {e = e} {t = t} fits) = exit_erased t e fits
    front (F.inside h0 h1 h2) = F.inside h0 (ap erase h1) (front h2)
    front (F.in_left h0) = F.in_left (front h0)
    front (F.in_right h0) = F.in_right (front h0)
    front (F.in_test h0 h1) = F.in_test (rounds h0) (front h1)
    front (F.in_body h0 h1 h2) = F.in_body (rounds h0) (whole h1) (front h2)
    front (F.in_step h0 h1 h2 h3 h4) = F.in_step (rounds h0) (whole h1) h2 (whole h3) (front h4)
    front (F.in_do h0 h1) = F.in_do (agains h0) (front h1)
    front (F.in_until h0 h1 h2 h3) = F.in_until (agains h0) h1 (whole h2) (front h3)
    front (F.in_seq h0) = F.in_seq (front_falls h0)
    front (F.in_cases h0) = F.in_cases (front_picks h0)

    front_falls : {ps : Parts} {t u : List Event} → FrontFalls env brackets ps t u → FrontFalls env no_brackets ps (erase t) (erase u)
    front_falls (F.in_part h0) = F.in_part (front h0)
    front_falls (F.in_next h0 h1) = F.in_next (whole h0) (front_falls h1)

    front_picks : {ps : Parts} {t u : List Event} → FrontPicks env brackets ps t u → FrontPicks env no_brackets ps (erase t) (erase u)
    front_picks (F.from_this h0) = F.from_this (front_falls h0)
    front_picks (F.from_later h0) = F.from_later (front_picks h0)
