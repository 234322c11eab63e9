-- How long lines are.
use Rattle.std.proofs.Common.{◌≡◌, ℕ, ◌+◌, ◌^◌, ◌<◌, ◌≤◌, suc, List, [], ◌∷◌, ◌++◌, length, take, decimal, refl, length-append, arith}
use Rattle.std.specs.Prelude.{slice_index_or}
use Rattle.std.specs.List.{flat_map}
use Rattle.std.proofs.lemmas.Fmt.{length-decimal-le}
use Rattle.std.proofs.lemmas.List.Folds.{length-flat_map-take}
use Rattle.script.specs.Lines.{after_space, line}

-- a line is as long as its numbers, and a newline
pub line_long : (first : ℕ) (others : List ℕ) → length (line first others) ≡ length (decimal first) + length (flat_map after_space others) + 1
line_long first others =
    let whole : length (line first others) ≡ length (decimal first ++ flat_map after_space others) + 1 = length-append (decimal first ++ flat_map after_space others) (10 ∷ []) in
    omega (arith, whole, length-append (decimal first) (flat_map after_space others))

-- where a line has room, its next number has room after a space
pub next_fits : (old now : List ℕ) (first : ℕ) (others : List ℕ) (i : ℕ) → i < length others → length old + length (line first others) ≤ 2048
    → now ≡ old ++ (decimal first ++ flat_map after_space (take i others)) → length now + 1 + length (decimal (slice_index_or others i 0)) ≤ 2048
next_fits old now first others i lt room is =
    let so_far : length now ≡ length old + (length (decimal first) + length (flat_map after_space (take i others))) = rw is (omega (arith, length-append old (decimal first ++ flat_map after_space (take i others)), length-append (decimal first) (flat_map after_space (take i others)))) in
    omega (arith, so_far, room, line_long first others, length-flat_map-take after_space others i 0 lt)

one_more : (n : ℕ) (ns : List ℕ) → length (flat_map after_space (n ∷ ns)) ≡ length (decimal n) + 1 + length (flat_map after_space ns)
one_more n ns =
    let whole : length (flat_map after_space (n ∷ ns)) ≡ suc (length (decimal n ++ flat_map after_space ns)) = refl in
    omega (arith, whole, length-append (decimal n) (flat_map after_space ns))

two_long : (a b : ℕ) → length (flat_map after_space (a ∷ b ∷ [])) ≡ length (decimal a) + length (decimal b) + 2
two_long a b = omega (arith, one_more a (b ∷ []), one_more b [])

-- a number of 32 bits has at most ten digits, and one of 16 bits at most five
pub long_digits : (n : ℕ) → n < 2 ^ 32 → length (decimal n) ≤ 10
long_digits n lt = length-decimal-le 10 n (omega arith) (omega (arith, lt)) (omega (arith, lt))

pub short_digits : (n : ℕ) → n < 2 ^ 16 → length (decimal n) ≤ 5
short_digits n lt = length-decimal-le 5 n (omega arith) (omega (arith, lt)) (omega (arith, lt))

-- the first line of a solve has at most 55 bytes
pub figures_short : (command units bytes visits : ℕ) → command < 2 ^ 32 → units < 2 ^ 32 → bytes < 2 ^ 32 → visits < 2 ^ 32 → length (line command (0 ∷ units ∷ bytes ∷ visits ∷ [])) ≤ 55
figures_short command units bytes visits c u b v =
    let numbers : length (flat_map after_space (0 ∷ units ∷ bytes ∷ visits ∷ [])) ≡ length (decimal 0) + length (decimal units) + length (flat_map after_space (bytes ∷ visits ∷ [])) + 2 = omega (arith, one_more 0 (units ∷ bytes ∷ visits ∷ []), one_more units (bytes ∷ visits ∷ [])) in
    omega (arith, line_long command (0 ∷ units ∷ bytes ∷ visits ∷ []), numbers, two_long bytes visits, long_digits 0 (omega arith), long_digits command c, long_digits units u, long_digits bytes b, long_digits visits v)

-- the line of a row has at most 18 bytes
pub row_line_short : (link gap mtu : ℕ) → link < 2 ^ 16 → gap < 2 ^ 16 → mtu < 2 ^ 16 → length (line link (gap ∷ mtu ∷ [])) ≤ 18
row_line_short link gap mtu l g m =
    omega (arith, line_long link (gap ∷ mtu ∷ []), two_long gap mtu, short_digits link l, short_digits gap g, short_digits mtu m)

-- the line of an accepted command has at most 22 bytes
pub answer_short : (command : ℕ) → command < 2 ^ 32 → length (line command (0 ∷ [])) ≤ 22
answer_short command c = omega (arith, line_long command (0 ∷ []), one_more 0 [], long_digits command c, long_digits 0 (omega arith))

-- the line of a refused command has at most 33 bytes
pub refusal_short : (command number detail : ℕ) → command < 2 ^ 32 → number < 2 ^ 32 → detail < 2 ^ 32 → length (line command (number ∷ detail ∷ [])) ≤ 33
refusal_short command number detail c n d =
    omega (arith, line_long command (number ∷ detail ∷ []), two_long number detail, long_digits command c, long_digits number n, long_digits detail d)
