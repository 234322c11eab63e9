-- What a list of calls leads to, by its accepted calls.
use Rattle.std.proofs.Common.{◌≡◌, Bool, true, false, cond, eqb, List, [], ◌∷◌, ◌++◌, fold, sym, refl}
use Rattle.std.proofs.lemmas.Bool.{eqb-true}
use Rattle.plan.specs.declared.call.Call.{Call}
use Rattle.plan.specs.Accepted.{accepted_from}
use Rattle.plan.specs.Ledger.{answer, effect, after}
use Rattle.plan.specs.Standing.{Standing}

-- what holds of a standing, the accepted calls and the standing that they lead to
module _ (P : Standing → List Call → Standing → Type 0) (none : (st : Standing) → P st [] st) (more : (st end : Standing) (call : Call) (calls : List Call) → 0 ≡ answer st call → P (effect st call) calls end → P st (call ∷ calls) end) where
  step : (st : Standing) (call : Call) (calls : List Call) → ((s : Standing) → P s (accepted_from s calls) (fold after s calls)) → (b : Bool) → eqb (answer st call) 0 ≡ b → P st (cond b (call ∷ []) [] ++ accepted_from (cond b (effect st call) st) calls) (fold after (cond b (effect st call) st) calls)
  step st call calls rest true e = more st _ call _ (sym (eqb-true _ _ e)) (rest (effect st call))
  step st call calls rest false e = rest st

  pub by_accepted : (st : Standing) (calls : List Call) → P st (accepted_from st calls) (fold after st calls)
  by_accepted st [] = none st
  by_accepted st (call ∷ calls) = step st call calls (λ s. by_accepted s calls) (eqb (answer st call) 0) refl
