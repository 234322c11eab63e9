-- A flow amended: its place, and that it is struck and entered anew.
use Rattle.std.proofs.Common.{◌≡◌, ℕ, ◌<◌, false, List, [], ◌∷◌, get_or, set, refl, arith}
use Rattle.std.proofs.ByRecursion.{All-get_or, All-weaker}
use Rattle.std.proofs.lemmas.Bool.Decides.{nat_tests}
use Rattle.plan.specs.declared.flow.Flow.{Flow}
use Rattle.plan.specs.Edited.{flow_with, insert, without, amended}
use Rattle.plan.specs.Standing.{named, link_of_flow}
use Rattle.plan.proofs.Empty.{nil}
use Rattle.plan.proofs.Every.{Up}
use Rattle.plan.proofs.Found.{Found, here, there, found_within, found_name}
use Rattle.plan.proofs.Inserted.{insert_first}
use Rattle.plan.proofs.Removed.{without_none}

module _ (p c : ℕ) where
  amended_none : (n : ℕ) (fs : List Flow) → named fs n ≡ false → amended n p c fs ≡ fs
  amended_none n [] h = refl
  amended_none n (f ∷ fs) h = grind (arith, amended_none n fs)

  -- at its place it has the new figures
  pub amended_at : {n : ℕ} {fs : List Flow} {k : ℕ} → Found n fs k → set fs k (flow_with (get_or fs k nil).link (get_or fs k nil).name p c) ≡ amended n p c fs
  amended_at {n} (here {f = f} {fs = fs} e none) = grind (arith, nat_tests, amended_none n fs none)
  amended_at {n} (there {f = f} ne r) = grind (arith, nat_tests, amended_at r)

  -- the flow that it becomes
  abbrev new : ℕ → List Flow → Flow
  new n fs = flow_with (link_of_flow n fs) n p c

  -- it is struck, and entered anew with its old link
  pub amended_anew : {n : ℕ} {fs : List Flow} {k : ℕ} → Found n fs k → Up fs → amended n p c fs ≡ insert (new n fs) (without n fs)
  amended_anew {n} (here {f = f} {fs = fs} e none) up =
      let first = insert_first (flow_with f.link n p c) fs (All-weaker _ (λ g. n < g.name) (λ g lt. omega arith) fs up.0) in
      grind (arith, nat_tests, first, amended_none n fs none, without_none n fs none)
  amended_anew {n} (there {f = f} {fs = fs} {k = k} ne r) up =
      let name = found_name r in
      let lt : f.name < n = omega (arith, All-get_or (λ g. f.name < g.name) fs k nil (found_within r) up.0) in
      grind (arith, nat_tests, amended_anew r up.1)
