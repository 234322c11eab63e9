-- Rows that name the links: they are as many, and each names a link that stands.
use Rattle.std.proofs.Common.{◌≡◌, ℕ, true, ◌&&◌, eqb, List, [], ◌∷◌, length, sym, refl, ◌∙◌, arith}
use Rattle.std.specs.List.{AllByRecursion, list_all, zip}
use Rattle.std.proofs.ByRecursion.{All-weaker}
use Rattle.std.proofs.lemmas.Bool.{and_parts, eq-eqb, eqb-true, or_left, or_right, false≢true}
use Rattle.limits.specs.Range.{among}
use Rattle.planner.specs.declared.row.Row.{Row}
use Rattle.planner.specs.Setting.{name_links}

-- the test of the lengths, and of each link beside its row
pub named_in_order : (links : List ℕ) (rows : List Row) → name_links links rows ≡ (eqb (length links) (length rows) && list_all (λ (p : ℕ × Row). eqb p.1.link p.0) (zip links rows))
named_in_order [] [] = refl
named_in_order [] (row ∷ rows) = grind arith
named_in_order (link ∷ links) [] = grind arith
named_in_order (link ∷ links) (row ∷ rows) = grind (arith, named_in_order links rows)

pub as_many : (links : List ℕ) (rows : List Row) → name_links links rows ≡ true → length links ≡ length rows
as_many links rows h = eqb-true _ _ (and_parts _ _ (sym (named_in_order links rows) ∙ h)).0

-- each row names one of the links
pub rows_stand : (links : List ℕ) (rows : List Row) → name_links links rows ≡ true → AllByRecursion (λ row. among links row.link ≡ true) rows
rows_stand [] [] h = tt
rows_stand [] (row ∷ rows) h = absurd (false≢true h)
rows_stand (link ∷ links) [] h = absurd (false≢true h)
rows_stand (link ∷ links) (row ∷ rows) h =
    let a = and_parts _ _ h in (
      or_left _ _ (eq-eqb link row.link (sym (eqb-true row.link link a.0))),
      All-weaker _ (λ r. among (link ∷ links) r.link ≡ true) (λ r e. or_right (eqb link r.link) _ e) rows (rows_stand links rows a.1),
    )
