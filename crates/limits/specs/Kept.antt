-- A rule that still holds, as a breach that is still 0.
use Rattle.std.specs.Prelude.{◌≡◌, ℕ, ◌≤◌, Bool, true, false, nat_le, refl}
use Rattle.std.proofs.Common.{le_trans, arith}
use Rattle.std.proofs.lemmas.Bool.{leb-true, le-leb, false≢true}
use Rattle.limits.specs.Breach.{unless}

-- breach 0 says that the rule holds
pub holds_from_unless : (b : Bool) → unless b ≡ 0 → b ≡ true
holds_from_unless true h = refl
holds_from_unless false h = absurd (omega arith)

-- a rule that holds has breach 0
pub unless_from_holds : (b : Bool) → b ≡ true → unless b ≡ 0
unless_from_holds true h = refl
unless_from_holds false h = absurd (false≢true h)

-- a rule that holds where another did has breach 0 where that had
pub still_within : (old new : Bool) → (old ≡ true → new ≡ true) → unless old ≡ 0 → unless new ≡ 0
still_within old new keeps h = unless_from_holds new (keeps (holds_from_unless old h))

-- less is still within a bound
pub less_within : (small large most : ℕ) → small ≤ large → nat_le large most ≡ true → nat_le small most ≡ true
less_within small large most le h = le-leb small most (le_trans le (leb-true large most h))
