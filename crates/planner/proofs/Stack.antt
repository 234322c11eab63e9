-- The rows of the work table above the link that is tried, and what is left at each.
use Rattle.std.proofs.Common.{◌≡◌, ℕ, zero, suc, ◌+◌, ◌<◌, ◌≤◌, List, [], ◌∷◌, ◌++◌, map, reverse, length, get_or, take, drop, set, refl, sym, ap, ◌∙◌, append_assoc, arith}
use Rattle.std.proofs.lemmas.List.{reverse-append, length-reverse, length-take-le, take_more, take_more_set, take-map, map-set, set-get_or, get_or-map, get_or-take, drop_more, set_at, map_more, length-map, drop-drop}
use Rattle.limits.specs.declared.pair.Pair.{Pair}
use Rattle.planner.specs.declared.search_row.Level.{Level}
use Rattle.planner.specs.declared.search_row.SearchRow.{SearchRow}
use Rattle.planner.proofs.Left.{nodes}

-- a write behind the pairs that stand already
pub put : {X : Type 0} (us ys : List X) (i : ℕ) (x : X) → length us ≡ i → i < length ys → set (us ++ drop i ys) i x ≡ (us ++ x ∷ []) ++ drop (i + 1) ys
put us ys i x e h = ap (λ zs. set (us ++ zs) i x) (drop_more ys i x h) ∙ set_at us (get_or ys i x) (drop (i + 1) ys) x i e ∙ sym (append_assoc us (x ∷ []) (drop (i + 1) ys))

module _ {B T W C : Type 0} where
  -- the rows above a link, the nearest first
  abbrev pub stack : List (SearchRow B T W C) → ℕ → List (SearchRow B T W C)
  stack work depth = reverse (take depth work)

  -- there are as many as links before
  pub stack_length : (work : List (SearchRow B T W C)) (depth : ℕ) → depth ≤ length work → length (stack work depth) ≡ depth
  stack_length work depth h = length-reverse (take depth work) ∙ length-take-le depth work h

  -- one link down, with a row written
  pub stack_push : (work : List (SearchRow B T W C)) (depth : ℕ) (row : SearchRow B T W C) → depth < length work → stack (set work depth row) (depth + 1) ≡ row ∷ stack work depth
  stack_push work depth row h = ap reverse (take_more_set work depth row h) ∙ reverse-append (take depth work) (row ∷ [])

  -- one link up
  pub stack_pop : (work : List (SearchRow B T W C)) (depth : ℕ) (x : SearchRow B T W C) → depth < length work → stack work (depth + 1) ≡ get_or work depth x ∷ stack work depth
  stack_pop work depth x h = ap reverse (take_more work depth x h) ∙ reverse-append (take depth work) (get_or work depth x ∷ [])

  -- the pairs that the rows above chose
  abbrev pub base : List (SearchRow B T W C) → List Pair
  base [] = []
  base (r ∷ rs) = base rs ++ r.pair ∷ []

  base_last : (rs : List (SearchRow B T W C)) (r : SearchRow B T W C) → base (rs ++ r ∷ []) ≡ r.pair ∷ base rs
  base_last [] r = refl
  base_last (x ∷ rs) r = ap (λ s. s ++ x.pair ∷ []) (base_last rs r)

  -- they are the pairs of the rows, from the first link on
  pub base_reverse : (rows : List (SearchRow B T W C)) → base (reverse rows) ≡ map (λ row. row.pair) rows
  base_reverse [] = refl
  base_reverse (r ∷ rows) = ap base (reverse-append (r ∷ []) rows) ∙ base_last (reverse rows) r ∙ ap (λ s. r.pair ∷ s) (base_reverse rows)

  -- one more of the pairs, written into its place
  pub chosen_more : (work : List (SearchRow B T W C)) (old setting : List Pair) (depth i : ℕ) (row : SearchRow B T W C) → i < depth → depth ≤ length work → depth < length old → setting ≡ map (λ r. r.pair) (take i work) ++ drop i old → row ≡ get_or (take depth work) i row → set setting i row.pair ≡ map (λ r. r.pair) (take (i + 1) work) ++ drop (i + 1) old
  chosen_more work old setting depth i row deep rows places is read =
      let f : SearchRow B T W C → Pair = λ r. r.pair in
      let long : length (map f (take i work)) ≡ i = length-map (take i work) f ∙ length-take-le i work (omega arith) in
      ap (λ s. set s i row.pair) is
      ∙ put (map f (take i work)) old i row.pair long (omega arith)
      ∙ ap (λ p. (map f (take i work) ++ p ∷ []) ++ drop (i + 1) old) (ap f (read ∙ get_or-take depth work i row deep))
      ∙ ap (λ us. us ++ drop (i + 1) old) (sym (map_more f work i row (omega arith)))

  -- the last of them
  pub chosen_last : (work : List (SearchRow B T W C)) (old setting : List Pair) (depth i : ℕ) (p : Pair) → i ≡ depth → depth ≤ length work → depth < length old → setting ≡ map (λ r. r.pair) (take i work) ++ drop i old → set setting depth p ≡ (map (λ r. r.pair) (take depth work) ++ p ∷ []) ++ drop (depth + 1) old
  chosen_last work old setting depth i p at rows places is =
      let f : SearchRow B T W C → Pair = λ r. r.pair in
      let long : length (map f (take depth work)) ≡ depth = length-map (take depth work) f ∙ length-take-le depth work rows in
      ap (λ s. set s depth p) (is ∙ ap (λ k. map f (take k work) ++ drop k old) at)
      ∙ put (map f (take depth work)) old depth p long places

  -- a row is written and keeps what f reads of it: so do the first n rows
  pub rows_set : {X : Type 0} (f : SearchRow B T W C → X) (blank : X) (n : ℕ) (work : List (SearchRow B T W C)) (i : ℕ) (row : SearchRow B T W C) → i < length work → f row ≡ f (get_or work i row) → map f (take n (set work i row)) ≡ map f (take n work)
  rows_set f blank n work i row h e =
      sym (take-map f n (set work i row))
      ∙ ap (take n) (map-set f work i row ∙ ap (set (map f work) i) (e ∙ sym (get_or-map f work i row blank h)) ∙ set-get_or (map f work) i blank)
      ∙ take-map f n work

  -- what f reads of a row
  pub rows_at : {X : Type 0} (f : SearchRow B T W C → X) (blank : X) (n : ℕ) (work : List (SearchRow B T W C)) (i : ℕ) (x : SearchRow B T W C) → i < n → i < length work → get_or (map f (take n work)) i blank ≡ f (get_or work i x)
  rows_at f blank n work i x h l =
      ap (λ ys. get_or ys i blank) (sym (take-map f n work)) ∙ get_or-take n (map f work) i blank h ∙ get_or-map f work i x blank l

  module _ (cs : List (List Pair)) where
    -- the candidates of the link below those rows
    abbrev pub row_of : List (SearchRow B T W C) → List Pair
    row_of rs = get_or cs (length rs) []

    -- the candidates of the links after it
    abbrev pub below_of : List (SearchRow B T W C) → List (List Pair)
    below_of rs = drop (suc (length rs)) cs

    -- what is left at that link, and at the rows above
    abbrev pub level_left : Level B T → List (SearchRow B T W C) → List (List Pair)
    level_left level rs = nodes (base rs) (drop level.tried (row_of rs)) (below_of rs)

    -- what is left at the rows above
    abbrev pub rows_left : List (SearchRow B T W C) → List (List Pair)
    rows_left [] = []
    rows_left (r ∷ rs) = level_left r.level rs ++ rows_left rs

-- how many turns may be left: a turn for each candidate of a row, with those below it, and one to leave the row
abbrev pub row_turns : ℕ → List Pair → ℕ
row_turns each [] = 1
row_turns each (p ∷ c) = each + row_turns each c

-- of some links
abbrev pub all_turns : List (List Pair) → ℕ
all_turns [] = 0
all_turns (c ∷ cs) = row_turns (suc (all_turns cs)) c

-- a row takes a turn at least
pub row_turns_pos : (each : ℕ) (c : List Pair) → 0 < row_turns each c
row_turns_pos each [] = omega arith
row_turns_pos each (p ∷ c) = omega (arith, row_turns_pos each c)

-- fewer candidates take no more turns
pub row_turns_drop : (each n k : ℕ) (c : List Pair) → row_turns each (drop (n + k) c) ≤ row_turns each (drop n c)
row_turns_drop each n k c = omega (arith, ap (row_turns each) (drop-drop k n c), fewer (drop n c) k)
  where
    fewer : (d : List Pair) (m : ℕ) → row_turns each (drop m d) ≤ row_turns each d
    fewer d zero = omega arith
    fewer [] (suc m) = omega arith
    fewer (p ∷ d) (suc m) = omega (arith, fewer d m)

module _ {B T W C : Type 0} (cs : List (List Pair)) where
  -- of the link that is tried
  abbrev pub level_turns : Level B T → List (SearchRow B T W C) → ℕ
  level_turns level rs = row_turns (suc (all_turns (below_of cs rs))) (drop level.tried (row_of cs rs))

  -- of the rows above
  abbrev pub rows_turns : List (SearchRow B T W C) → ℕ
  rows_turns [] = 0
  rows_turns (r ∷ rs) = level_turns r.level rs + rows_turns rs

  -- of both
  abbrev pub turns : Level B T → List (SearchRow B T W C) → ℕ
  turns here rs = level_turns here rs + rows_turns rs
