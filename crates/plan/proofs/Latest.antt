-- What the last call that passes a test gives, call by call.
use Rattle.std.proofs.Common.{◌≡◌, Bool, cond, List, [], ◌∷◌, None, fold, Option, unwrap_or, refl, arith}
use Rattle.std.specs.Option.{option_map}
use Rattle.plan.specs.declared.call.Call.{Call}
use Rattle.plan.specs.Accepted.{last_that, last_given}

-- what the last call that passes the test gives, or what there was before
module _ {X : Type 0} (given : Call → Option X) (test : Call → Bool) where
  abbrev pub latest : Option X → Call → Option X
  latest o call = cond (test call) (given call) o

  latest_all : (calls : List Call) (o : Option X) → fold latest o calls ≡ unwrap_or (option_map given (last_that test calls)) o
  latest_all [] o = refl
  latest_all (call ∷ calls) o = grind (arith, latest_all calls (latest o call))

  pub last_from_latest : (calls : List Call) → fold latest None calls ≡ last_given given test calls
  last_from_latest calls = grind (arith, latest_all calls None)
