-- The configurations of a valid model are nodes within the last function of a copy.
use Rattle.std.proofs.Common.{◌≡◌, ℕ, ◌+◌, reverse, List, [], ◌∷◌, ◌++◌, length, refl, sym, ◌∙◌, ap, subst, arith}
use Rattle.std.proofs.lemmas.List.{append-nil, append_assoc}
use Rattle.std.proofs.lemmas.Grind.{reverse_onto}
use Rattle.flow_model.specs.Graph.{Graph, HasCall, HasFunction}
use Rattle.flow_model.specs.Language.{Move, Steps}
use Rattle.flow_model.specs.Language.Steps.{silent, sys, enter, leave}
use Rattle.flow_model.specs.Rules.{IsValid}
use Rattle.inline_model.specs.Within.{Within}
use Rattle.inline_model.specs.Within.Within.{begins as w_begins, silent as w_silent, sys as w_sys, passes as w_passes}
use Rattle.inline_model.specs.Chains.{Opening}
use Rattle.inline_model.specs.Copies.{Opened, function_of, IsCopy}
use Rattle.inline_model.specs.Copies.IsCopy.{of_start, goes_on}
use Rattle.inline_model.proofs.Basics.{within_owns, one_owner, function_owns_exit, same_to}
use Rattle.inline_model.specs.Searching.{FromFunction}
use Rattle.inline_model.specs.Searching.FromFunction.{goes}

-- the sites of a copy, the newest first
abbrev pub sites_of : List Opened → List ℕ
sites_of [] = []
sites_of (call ∷ copy) = call.site ∷ sites_of copy

-- the open sites are those of a copy, and the node is within its function
pub record Stands (g : Graph) (node : ℕ) (sites : List ℕ) : Type 0 where
  pub copy : List Opened
  pub is_copy : IsCopy g copy
  pub sites_are : sites_of copy ≡ sites
  pub within : Within g (function_of g copy) node

abbrev pub stands_first : {g : Graph} {entry exit : ℕ} → HasFunction g g.start entry exit → Stands g entry []
stands_first function = record { copy = []; is_copy = of_start; sites_are = refl; within = w_begins function }

-- where a function is left, its copy goes back to the copy of the caller
pub record Leaves (g : Graph) (copy : List Opened) (s b f : ℕ) (rest : List ℕ) : Type 0 where
  pub call : Opened
  pub caller : List Opened
  pub is : copy ≡ call ∷ caller
  pub site : call.site ≡ s
  pub candidate : call.candidate ≡ f
  pub is_copy : IsCopy g caller
  pub opening : Opening g (function_of g caller) s f
  pub to : opening.to ≡ b
  pub sites_are : sites_of caller ≡ rest

leaves_from : {g : Graph} → IsValid g → {a s b f entry exit : ℕ} {rest : List ℕ} → HasCall g a s b f → HasFunction g f entry exit → (copy : List Opened) → IsCopy g copy → sites_of copy ≡ s ∷ rest → Within g (function_of g copy) exit → Leaves g copy s b f rest
leaves_from valid call function [] of_start sites within = absurd (cc)
leaves_from {g} valid {a = a} {s = s} {b = b} {f = f} {exit = exit} call function (opened ∷ caller) (goes_on before opening) sites within =
    let site : opened.site ≡ s = cc in
    let rest_are : sites_of caller ≡ _ = cc in
    let candidate : opened.candidate ≡ f = one_owner g.functions g.nodes opened.candidate f exit valid.entries (within_owns valid within) (function_owns_exit valid function) in
    let opening_here : Opening g (function_of g caller) s f = subst (λ h. Opening g (function_of g caller) s h) candidate (subst (λ u. Opening g (function_of g caller) u opened.candidate) site opening) in
    record {
      call = opened;
      caller = caller;
      is = refl;
      site = site;
      candidate = candidate;
      is_copy = before;
      opening = opening_here;
      to = same_to valid opening_here.call call;
      sites_are = rest_are;
    }

pub leaves : {g : Graph} → IsValid g → {a s b f entry exit : ℕ} {rest : List ℕ} → HasCall g a s b f → HasFunction g f entry exit → (there : Stands g exit (s ∷ rest)) → Leaves g there.copy s b f rest
leaves valid call function there = leaves_from valid call function there.copy there.is_copy there.sites_are there.within

-- after a return the node is within the caller
pub within_caller : {g : Graph} {s b f entry exit : ℕ} {rest : List ℕ} {copy : List Opened} → HasFunction g f entry exit → Within g (function_of g copy) exit → (there : Leaves g copy s b f rest) → Within g (function_of g there.caller) b
within_caller {g} {f = f} {exit = exit} function within there =
    let here : Within g f exit = subst (λ h. Within g h exit) there.candidate (subst (λ c. Within g (function_of g c) exit) there.is within) in
    subst (Within g (function_of g there.caller)) there.to (w_passes there.opening.within there.opening.call function here)

-- every step goes to such a configuration
pub stands_step : {g : Graph} → IsValid g → {a b : ℕ} {y z : List ℕ} {m : Move} → Steps g a y m b z → Stands g a y → Stands g b z
stands_step valid (silent has) there = record { copy = there.copy; is_copy = there.is_copy; sites_are = there.sites_are; within = w_silent there.within has }
stands_step valid (sys has) there = record { copy = there.copy; is_copy = there.is_copy; sites_are = there.sites_are; within = w_sys there.within has }
stands_step valid (enter {a = a} {s = s} {b = b} {f = f} call function) there = record {
  copy = record { site = s; candidate = f } ∷ there.copy;
  is_copy = goes_on there.is_copy (record { from = a; to = b; call = call; within = there.within });
  sites_are = ap (λ xs. s ∷ xs) there.sites_are;
  within = w_begins function;
}
stands_step {g} valid (leave {s = s} {b = b} {f = f} {z = z} call function) there =
    let back = leaves valid call function there in
    record { copy = back.caller; is_copy = back.is_copy; sites_are = back.sites_are; within = within_caller function there.within back }

-- the sites put before the others, so that the newest stands next to them
abbrev pub onto : List ℕ → List ℕ → List ℕ
onto [] sites = sites
onto (s ∷ newest_first) sites = onto newest_first (s ∷ sites)

pub length-onto : (xs ys : List ℕ) → length (onto xs ys) ≡ length xs + length ys
length-onto [] ys = omega arith
length-onto (x ∷ xs) ys = omega (arith, length-onto xs (x ∷ ys))

onto-reverse : (xs ys : List ℕ) → onto xs ys ≡ reverse xs ++ ys
onto-reverse [] ys = refl
onto-reverse (x ∷ xs) ys = onto-reverse xs (x ∷ ys) ∙ sym (append_assoc (reverse xs) (x ∷ []) ys) ∙ ap (λ zs. zs ++ ys) (sym (reverse_onto xs x []))

pub onto-none : (xs : List ℕ) → onto xs [] ≡ reverse xs
onto-none xs = onto-reverse xs [] ∙ append-nil (reverse xs)

-- the sites of a copy are a chain
pub copy_chain : {g : Graph} {copy : List Opened} → IsCopy g copy → (sites : List ℕ) → FromFunction g (function_of g copy) sites → FromFunction g g.start (onto (sites_of copy) sites)
copy_chain of_start sites rest = rest
copy_chain (goes_on {call = call} before opening) sites rest = copy_chain before (call.site ∷ sites) (goes opening rest)
