-- The sizes of rows, in bytes.
use Rattle.std.proofs.Common.{ℕ, ◌<◌, ◌≤◌, ◌*◌, ◌^◌, mul-le-mul_right, arith}

-- one of n rows fits where all do
pub one_fits : (n size : ℕ) → 0 < n → n * size < 2 ^ 63 → size < 2 ^ 63
one_fits n size some all = let one : 1 * size ≤ n * size = mul-le-mul_right size some in omega (arith, one, all)
