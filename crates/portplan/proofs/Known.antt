-- What a reader that stops at a limit has read.
use Rattle.std.proofs.Common.{◌≡◌, ℕ, List, ◌++◌, take, Some, None, Option, Ok, Err, subst, OnOk, IfSome}
use Rattle.std.specs.Prelude.{Result}
use Rattle.std.specs.Option.{option_map}
use Rattle.std.specs.declared.io.traits.Take.{Take}
use Rattle.std.specs.Io.Take.{take_remaining}

-- of known bytes those up to the limit
pub cut_known : {E : Type 0} (r : Result ℕ E) (known : Option (List ℕ)) (n : ℕ) (old new : List ℕ)
    → OnOk r (IfSome (option_map (take n) known) (λ xs. new ≡ old ++ xs))
    → OnOk r (IfSome known (λ xs. new ≡ old ++ take n xs))
cut_known (Ok k) (Some xs) n old new h = h
cut_known (Ok k) None n old new h = tt
cut_known (Err e) known n old new h = tt

-- the same of a reader that stops at a limit
pub cut : {R : Type 0} {E : Type 0} (remaining : R → Option (List ℕ)) (r : Result ℕ E) (t : Take R) (reader : R) (m : ℕ) (old new : List ℕ)
    → t.limit ≡ m → t.inner ≡ reader
    → OnOk r (IfSome (take_remaining remaining t) (λ xs. new ≡ old ++ xs))
    → OnOk r (IfSome (remaining reader) (λ xs. new ≡ old ++ take m xs))
cut remaining r t reader m old new same_limit same_reader h =
    subst (λ n. OnOk r (IfSome (remaining reader) (λ xs. new ≡ old ++ take n xs))) same_limit
    (subst (λ q. OnOk r (IfSome (remaining q) (λ xs. new ≡ old ++ take t.limit xs))) same_reader
    (cut_known r (remaining t.inner) t.limit old new h))
