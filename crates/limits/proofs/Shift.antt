-- A shift by the place of its one bit divides by a gap.
use Rattle.std.proofs.Common.{◌≡◌, ℕ, ◌/◌, ◌^◌, true, refl}
use Rattle.std.specs.Int.Count.{count_trailing_zeros}
use Rattle.limits.specs.Among.{all_among}
use Rattle.limits.specs.Gaps.{eight_gaps}
use Rattle.limits.specs.Range.{among}

pub shifted : (x gap : ℕ) → among eight_gaps gap ≡ true → x / 2 ^ count_trailing_zeros 16 gap ≡ x / gap
unfolding count_trailing_zeros
shifted x gap h = all_among (λ g. x / 2 ^ count_trailing_zeros 16 g ≡ x / g) eight_gaps gap (refl, (refl, (refl, (refl, (refl, (refl, (refl, (refl, tt)))))))) h
