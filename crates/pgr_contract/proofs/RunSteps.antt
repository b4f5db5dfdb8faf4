-- Runs, one step or one phase at a time.
use Rattle.std.proofs.Common.{◌≡◌, ℕ, zero, suc, ◌+◌, ℤ, Bool, ◌<◌, List, [], ◌∷◌, ◌++◌, length, take, get_or, refl, sym, subst, ◌∙◌, ap, append_assoc, arith}
use Rattle.std.proofs.lemmas.List.{append-nil, take_more}
use Rattle.pgr_words.specs.declared.method.Method.{Method}
use Rattle.pgr_contract.specs.State.{State}
use Rattle.pgr_contract.specs.Steps.{IsStep}
use Rattle.pgr_contract.specs.Run.{IsNext, Takes, IsPhase, IsRun, times_over}

-- one vertex more
pub Takes-push : (directed : Bool) (method : Method) (forbidden taken : List ℤ) (v : ℤ) (S R T : State) → Takes directed method forbidden taken S R
    → IsNext method forbidden R v → IsStep directed method v R T → Takes directed method forbidden (taken ++ v ∷ []) S T
Takes-push directed method forbidden [] v S R T same next step =
    (subst (λ Q. IsNext method forbidden Q v) (sym same) next, (T, (subst (λ Q. IsStep directed method v Q T) (sym same) step, refl)))
Takes-push directed method forbidden (x ∷ more) v S R T (first, (Q, (goes, rest))) next step =
    (first, (Q, (goes, Takes-push directed method forbidden more v Q R T rest next step)))

-- one phase more
pub IsRun-push : (directed : Bool) (forbidden : List ℤ) (methods : List Method) (method : Method) (S R T : State) → IsRun directed forbidden methods S R
    → IsPhase directed method forbidden R T → IsRun directed forbidden (methods ++ method ∷ []) S T
IsRun-push directed forbidden [] method S R T same phase = (T, (subst (λ Q. IsPhase directed method forbidden Q T) (sym same) phase, refl))
IsRun-push directed forbidden (m ∷ more) method S R T (Q, (first, rest)) phase = (Q, (first, IsRun-push directed forbidden more method Q R T rest phase))

-- one run after another
pub IsRun-append : (directed : Bool) (forbidden : List ℤ) (first second : List Method) (S R T : State) → IsRun directed forbidden first S R → IsRun directed forbidden second R T
    → IsRun directed forbidden (first ++ second) S T
IsRun-append directed forbidden [] second S R T same run = subst (λ Q. IsRun directed forbidden second Q T) (sym same) run
IsRun-append directed forbidden (m ∷ more) second S R T (Q, (phase, rest)) run = (Q, (phase, IsRun-append directed forbidden more second Q R T rest run))

-- once more at the end
pub times_over-push : (n : ℕ) (order : List Method) → times_over n order ++ order ≡ times_over (suc n) order
times_over-push zero order = sym (append-nil order)
times_over-push (suc n) order = append_assoc order (times_over n order) order ∙ ap (λ ms. order ++ ms) (times_over-push n order)

pub IsRun-more : (directed : Bool) (forbidden : List ℤ) (order : List Method) (i : ℕ) (method : Method) (S R T : State) → i < length order
    → IsRun directed forbidden (take i order) S R → IsPhase directed (get_or order i method) forbidden R T → IsRun directed forbidden (take (i + 1) order) S T
IsRun-more directed forbidden order i method S R T below run phase =
    subst (λ ms. IsRun directed forbidden ms S T) (sym (take_more order i method below)) (IsRun-push directed forbidden (take i order) (get_or order i method) S R T run phase)

pub IsRun-again : (directed : Bool) (forbidden : List ℤ) (n : ℕ) (order : List Method) (S R T : State) → IsRun directed forbidden (times_over n order) S R
    → IsRun directed forbidden order R T → IsRun directed forbidden (times_over (n + 1) order) S T
IsRun-again directed forbidden n order S R T first second =
    let one : suc n ≡ n + 1 = omega arith in
    subst (λ ms. IsRun directed forbidden ms S T) (times_over-push n order ∙ ap (λ k. times_over k order) one)
    (IsRun-append directed forbidden (times_over n order) order S R T first second)
