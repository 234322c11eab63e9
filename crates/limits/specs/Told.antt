-- What a call told.
use Rattle.std.specs.Prelude.{ℕ, Ok, Err, Result}

-- 0 where the call was accepted, else that figure of its refusal: the number, or the detail
abbrev pub told_by : {X E : Type 0} → (E → ℕ) → Result X E → ℕ
told_by figure (Ok x) = 0
told_by figure (Err e) = figure e
