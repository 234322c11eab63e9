-- A number in range, by its bounds.
use Rattle.std.specs.Prelude.{◌≡◌, ℕ, ◌≤◌, true}
use Rattle.std.proofs.lemmas.Bool.{leb-true, le-leb, and_parts, and_from}
use Rattle.limits.specs.Range.{within}

-- a number between the bounds is in range
pub within_from_le : (low high x : ℕ) → low ≤ x → x ≤ high → within low high x ≡ true
within_from_le low high x l h = and_from _ _ (le-leb low x l) (le-leb x high h)

-- a number in range is between the bounds
pub le_from_within : (low high x : ℕ) → within low high x ≡ true → (low ≤ x) × (x ≤ high)
le_from_within low high x h = let a = and_parts _ _ h in (leb-true low x a.0, leb-true x high a.1)
