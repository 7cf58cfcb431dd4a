-- Records that are given to a builder one after another.
use Rattle.std.proofs.Common.{◌≡◌, ℕ, ◌+◌, ◌<◌, ◌≤◌, List, [], ◌∷◌, ◌++◌, map, length, drop, get_or, sym, ap, ◌∙◌}
use Rattle.std.proofs.lemmas.List.{append_assoc, append-nil, drop_more, drop_all}
use Rattle.flow_model.specs.declared.records.ModelFunction.{ModelFunction}
use Rattle.flow_model.specs.declared.records.SilentEdge.{SilentEdge}
use Rattle.flow_model.specs.declared.records.SysEdge.{SysEdge}
use Rattle.flow_model.specs.Call.{Call}
use Rattle.flow_model.specs.Built.{Records}

-- further records of one kind
abbrev pub with_functions : Records → List ModelFunction → Records
with_functions b xs = record b { functions = b.functions ++ xs }

abbrev pub with_silent : Records → List SilentEdge → Records
with_silent b xs = record b { silent = b.silent ++ xs }

abbrev pub with_sys : Records → List SysEdge → Records
with_sys b xs = record b { sys = b.sys ++ xs }

abbrev pub with_calls : Records → List Call → Records
with_calls b xs = record b { calls = b.calls ++ xs }

-- a way to give further records
record Gives {X : Type 0} (give : Records → List X → Records) : Type 0 where
  join : (b : Records) (xs ys : List X) → give (give b xs) ys ≡ give b (xs ++ ys)
  none : (b : Records) → give b [] ≡ b

gives_functions : Gives with_functions
gives_functions = record {
  join = λ b xs ys. λ i. record b { functions = append_assoc b.functions xs ys i };
  none = λ b. λ i. record b { functions = append-nil b.functions i };
}

gives_silent : Gives with_silent
gives_silent = record {
  join = λ b xs ys. λ i. record b { silent = append_assoc b.silent xs ys i };
  none = λ b. λ i. record b { silent = append-nil b.silent i };
}

gives_sys : Gives with_sys
gives_sys = record {
  join = λ b xs ys. λ i. record b { sys = append_assoc b.sys xs ys i };
  none = λ b. λ i. record b { sys = append-nil b.sys i };
}

gives_calls : Gives with_calls
gives_calls = record {
  join = λ b xs ys. λ i. record b { calls = append_assoc b.calls xs ys i };
  none = λ b. λ i. record b { calls = append-nil b.calls i };
}

module _ {X : Type 0} (give : Records → List X → Records) (gives : Gives give) where
  more : (mid new all : Records) (x : X) (left rest : List X) → left ≡ x ∷ rest → give mid left ≡ all → new ≡ give mid (x ∷ []) → give new rest ≡ all
  more mid new all x left rest is before step = ap (λ b. give b rest) step ∙ gives.join mid (x ∷ []) rest ∙ ap (give mid) (sym is) ∙ before

  over : (new all : Records) (left : List X) → left ≡ [] → give new left ≡ all → new ≡ all
  over new all left is before = sym (gives.none new) ∙ ap (give new) (sym is) ∙ before

pub dropped : {X : Type 0} (xs : List X) (i : ℕ) (d x : X) → i < length xs → x ≡ get_or xs i d → drop i xs ≡ x ∷ drop (i + 1) xs
dropped xs i d x lt is = drop_more xs i d lt ∙ ap (λ y. y ∷ drop (i + 1) xs) (sym is)

pub silent_more : (xs : List SilentEdge) (i : ℕ) (d x : SilentEdge) (mid new all : Records) → i < length xs → x ≡ get_or xs i d → with_silent mid (drop i xs) ≡ all → new ≡ with_silent mid (x ∷ []) → with_silent new (drop (i + 1) xs) ≡ all
silent_more xs i d x mid new all lt is = more with_silent gives_silent mid new all x (drop i xs) (drop (i + 1) xs) (dropped xs i d x lt is)

pub silent_end : (xs : List SilentEdge) (i : ℕ) (new all : Records) → length xs ≤ i → with_silent new (drop i xs) ≡ all → new ≡ all
silent_end xs i new all le = over with_silent gives_silent new all (drop i xs) (drop_all i xs le)

pub sys_more : (xs : List SysEdge) (i : ℕ) (d x : SysEdge) (mid new all : Records) → i < length xs → x ≡ get_or xs i d → with_sys mid (drop i xs) ≡ all → new ≡ with_sys mid (x ∷ []) → with_sys new (drop (i + 1) xs) ≡ all
sys_more xs i d x mid new all lt is = more with_sys gives_sys mid new all x (drop i xs) (drop (i + 1) xs) (dropped xs i d x lt is)

pub sys_end : (xs : List SysEdge) (i : ℕ) (new all : Records) → length xs ≤ i → with_sys new (drop i xs) ≡ all → new ≡ all
sys_end xs i new all le = over with_sys gives_sys new all (drop i xs) (drop_all i xs le)

pub calls_more : {X : Type 0} (f : X → Call) (xs : List X) (i : ℕ) (d x : X) (mid new all : Records) → i < length xs → x ≡ get_or xs i d → with_calls mid (map f (drop i xs)) ≡ all → new ≡ with_calls mid (f x ∷ []) → with_calls new (map f (drop (i + 1) xs)) ≡ all
calls_more f xs i d x mid new all lt is = more with_calls gives_calls mid new all (f x) (map f (drop i xs)) (map f (drop (i + 1) xs)) (ap (map f) (dropped xs i d x lt is))

pub calls_end : {X : Type 0} (f : X → Call) (xs : List X) (i : ℕ) (new all : Records) → length xs ≤ i → with_calls new (map f (drop i xs)) ≡ all → new ≡ all
calls_end f xs i new all le = over with_calls gives_calls new all (map f (drop i xs)) (ap (map f) (drop_all i xs le))

pub functions_more : (mid new all : Records) (x : ModelFunction) (left rest : List ModelFunction) → left ≡ x ∷ rest → with_functions mid left ≡ all → new ≡ with_functions mid (x ∷ []) → with_functions new rest ≡ all
functions_more = more with_functions gives_functions

pub functions_end : (new all : Records) (left : List ModelFunction) → left ≡ [] → with_functions new left ≡ all → new ≡ all
functions_end = over with_functions gives_functions

pub all_given : (start one two three four : Records) (fs : List ModelFunction) (ss : List SilentEdge) (ys : List SysEdge) (cs : List Call) → start ≡ record { functions = []; silent = []; sys = []; calls = [] }
    → one ≡ with_functions start fs → two ≡ with_silent one ss → three ≡ with_sys two ys → four ≡ with_calls three cs → four ≡ record { functions = fs; silent = ss; sys = ys; calls = cs }
all_given start one two three four fs ss ys cs empty a b c d =
    d ∙ ap (λ r. with_calls r cs) (c ∙ ap (λ r. with_sys r ys) (b ∙ ap (λ r. with_silent r ss) (a ∙ ap (λ r. with_functions r fs) empty)))
