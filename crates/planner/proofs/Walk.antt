-- The turns of the search, as the work table holds them.
use Rattle.std.proofs.Common.{◌≡◌, Bool, ℕ, suc, ◌+◌, ◌-◌, ◌<◌, ◌≤◌, true, false, leb, List, [], ◌∷◌, ◌++◌, map, length, get_or, take, drop, set, slice_get, Some, None, Option, sym, ap, ap₂, ◌∙◌, subst, inl, inr, length-set, arith}
use Rattle.std.specs.Option.{option_map_or, OnSome}
use Rattle.std.proofs.lemmas.Bool.{both_ways}
use Rattle.std.proofs.lemmas.List.{length-map, length-take-le, get_or_default, get_or-map, get_or-take}
use Rattle.std.proofs.lemmas.Option.{none-some, slice_get_cases, slice_get_within, get_or_from_slice_get}
use Rattle.limits.specs.declared.pair.Pair.{Pair}
use Rattle.limits.specs.Selection.{Selection}
use Rattle.limits.specs.Taken.{MayTake, Takes}
use Rattle.planner.specs.declared.outcome.Outcome.{Outcome}
use Rattle.planner.specs.declared.outcome.Outcome.TheVariants.{Spent, NoneWithin, Found}
use Rattle.planner.specs.declared.search_row.Figures.{Figures}
use Rattle.planner.specs.declared.search_row.Level.{Level}
use Rattle.planner.specs.declared.search_row.SearchRow.{SearchRow}
use Rattle.planner.specs.Named.{Aim, visits, named}
use Rattle.planner.specs.Outcome.{outcome, placed}
use Rattle.planner.specs.Table.{LawfulCandidates}
use Rattle.planner.specs.Work.{held, noted}
use Rattle.planner.proofs.Fold.{beats}
use Rattle.planner.proofs.Laws.{Laws}
use Rattle.planner.proofs.Stack.{stack, stack_length, stack_push, stack_pop, base, base_reverse, rows_set, rows_at, row_of, turns}
use Rattle.planner.proofs.Turns.{tried_one, Reached, Stands, Holds, beaten, beaten_is, closed, close, leave, end_told, end_placed, start, visit_selection, spent, spent_below, passed, kept, deeper, leave_less, close_no_more, tried_less, deeper_less}

-- a place without element is past the end
past : {X : Type 0} (xs : List X) (i : ℕ) → slice_get xs i ≡ None → length xs ≤ i
past xs i e = elim (slice_get_cases xs i).1 [ inl h ↦ absurd (none-some h.0 (sym e ∙ h.2)) | inr h ↦ h.0 ]

-- the search before a turn: the link at that depth is tried, and the rows above it hold where it was left
pub record Walks {B T W C : Type 0} (loaded : List Pair → B) (f : Pair → Figures W C) (a : Aim T) (links : ℕ) (cs : List (List Pair)) (allowance : ℕ) (old : List Pair) (here : Level B T) (depth : ℕ) (work : List (SearchRow B T W C)) (best : Option T) (setting : List Pair) (v : ℕ) : Type 0 where
  pub deep : depth < links
  pub long : links ≤ length work
  pub same : held links work ≡ cs
  pub noted_is : noted links work ≡ map (map f) cs
  pub holds : Holds loaded a cs allowance old here (stack work depth) best setting v

-- how many links there are, and the row of one
count_links : {B T W C : Type 0} (links : ℕ) (cs : List (List Pair)) (work : List (SearchRow B T W C)) → links ≤ length work → held links work ≡ cs → length cs ≡ links
count_links links cs work long same = ap length (sym same) ∙ length-map (take links work) (λ row. row.candidates.items) ∙ length-take-le links work long

row_at : {B T W C : Type 0} (links : ℕ) (cs : List (List Pair)) (work : List (SearchRow B T W C)) (depth : ℕ) → links ≤ length work → held links work ≡ cs → depth < links → (row : SearchRow B T W C) → row_of cs (stack work depth) ≡ (get_or work depth row).candidates.items
row_at links cs work depth long same deep row =
    ap (λ n. get_or cs n []) (stack_length work depth (omega arith))
    ∙ ap (λ ds. get_or ds depth []) (sym same)
    ∙ rows_at (λ r. r.candidates.items) [] links work depth row deep (omega arith)

-- the start
pub begin : {B T W C : Type 0} {loaded : List Pair → B} {f : Pair → Figures W C} {a : Aim T} {cs : List (List Pair)} (laws : Laws a) (lawful : LawfulCandidates cs) (links allowance : ℕ) (old : List Pair) (work : List (SearchRow B T W C)) → 0 < links → links ≤ length work → held links work ≡ cs → noted links work ≡ map (map f) cs → links ≤ length old → (here : Level B T) (load : B) (total : T) → here ≡ record { load = load; total = total; tried = 0 } → load ≡ loaded [] → total ≡ a.total [] → a.within [] ≡ true → Walks loaded f a links cs allowance old here 0 work None old 0
begin {loaded = loaded} {a = a} {cs = cs} laws lawful links allowance old work some long same noted_is room here load total here_is load_is total_is within =
    let n = count_links links cs work long same in
    record { deep = some; long = long; same = same; noted_is = noted_is; holds = start loaded a cs laws lawful allowance old here (omega arith) (omega arith) (ap (λ l. l.load) here_is ∙ load_is) (ap (λ l. l.total) here_is ∙ total_is) (ap (λ l. l.tried) here_is) within }

-- a turn at which the candidates of the link are used up
pub record UsedUp {B T W C : Type 0} (loaded : List Pair → B) (f : Pair → Figures W C) (a : Aim T) (links : ℕ) (cs : List (List Pair)) (allowance : ℕ) (old : List Pair) (here : Level B T) (depth : ℕ) (work : List (SearchRow B T W C)) (best : Option T) (setting : List Pair) (v : ℕ) : Type 0 where
  pub laws : Laws a
  pub lawful : LawfulCandidates cs
  pub walks : Walks loaded f a links cs allowance old here depth work best setting v
  pub used : length (row_of cs (stack work depth)) ≤ here.tried

-- a turn at which p is the next candidate
pub record HasNext {B T W C : Type 0} (loaded : List Pair → B) (f : Pair → Figures W C) (a : Aim T) (links : ℕ) (cs : List (List Pair)) (allowance : ℕ) (old : List Pair) (here : Level B T) (depth : ℕ) (work : List (SearchRow B T W C)) (best : Option T) (setting : List Pair) (v : ℕ) (p : Pair) : Type 0 where
  pub laws : Laws a
  pub lawful : LawfulCandidates cs
  pub walks : Walks loaded f a links cs allowance old here depth work best setting v
  pub inside : here.tried < 8
  pub more : here.tried < length (row_of cs (stack work depth))
  pub at : get_or (row_of cs (stack work depth)) here.tried p ≡ p

-- which of them it is, as the row tells
module _ {B T W C : Type 0} {loaded : List Pair → B} {f : Pair → Figures W C} {a : Aim T} {links : ℕ} {cs : List (List Pair)} {allowance : ℕ} {old : List Pair} {here : Level B T} {depth : ℕ} {work : List (SearchRow B T W C)} {best : Option T} {setting : List Pair} {v : ℕ} (laws : Laws a) (lawful : LawfulCandidates cs) (w : Walks loaded f a links cs allowance old here depth work best setting v) (row : SearchRow B T W C) (next : Option Pair) (read : next ≡ slice_get (get_or work depth row).candidates.items here.tried) where
  row_is : row_of cs (stack work depth) ≡ (get_or work depth row).candidates.items
  row_is = row_at links cs work depth w.long w.same w.deep row

  -- the row has no candidate at that place
  pub used_up_at : next ≡ None → UsedUp loaded f a links cs allowance old here depth work best setting v
  used_up_at none = record {
    laws = laws;
    lawful = lawful;
    walks = w;
    used = omega (arith, ap length row_is, past (get_or work depth row).candidates.items here.tried (sym read ∙ none));
  }

  -- the row has p there
  pub next_at : OnSome next (here.tried < 8) → (p : Pair) → next ≡ Some p → HasNext loaded f a links cs allowance old here depth work best setting v p
  next_at bound p some = record {
    laws = laws;
    lawful = lawful;
    walks = w;
    inside = subst (λ o. OnSome o (here.tried < 8)) some bound;
    more = omega (arith, ap length row_is, slice_get_within (get_or work depth row).candidates.items here.tried p (sym read ∙ some));
    at = ap (λ c. get_or c here.tried p) row_is ∙ get_or_from_slice_get (get_or work depth row).candidates.items here.tried p p (sym read ∙ some);
  }

  -- its figures stand in the same place
  pub figures_at : (p : Pair) → next ≡ Some p → (again : SearchRow B T W C) (x : Figures W C) → get_or (get_or work depth again).figures here.tried x ≡ f p
  figures_at p some again x =
      let items = (get_or work depth row).candidates.items in
      let figures = (get_or work depth row).figures in
      let deep = w.deep in
      let long = w.long in
      let inside = slice_get_within items here.tried p (sym read ∙ some) in
      let held_here : get_or cs depth [] ≡ items = ap (λ ds. get_or ds depth []) (sym w.same) ∙ rows_at (λ r. r.candidates.items) [] links work depth row deep (omega arith) in
      let noted_here : take (length items) figures ≡ map f items =
      sym (rows_at (λ r. take (length r.candidates.items) r.figures) [] links work depth row deep (omega arith))
      ∙ ap (λ ns. get_or ns depth []) w.noted_is
      ∙ get_or-map (map f) cs depth [] [] (omega (arith, count_links links cs work w.long w.same))
      ∙ ap (map f) held_here in
      ap (λ r. get_or r.figures here.tried x) (get_or_default work depth again row (omega arith))
      ∙ sym (get_or-take (length items) figures here.tried x inside)
      ∙ ap (λ ns. get_or ns here.tried x) noted_here
      ∙ get_or-map f items here.tried p x inside
      ∙ ap f (get_or_from_slice_get items here.tried p p (sym read ∙ some))

height : {B T W C : Type 0} (links depth : ℕ) (work : List (SearchRow B T W C)) → depth < links → links ≤ length work → length (stack work depth) ≡ depth
height links depth work deep long = stack_length work depth (omega arith)

module _ {B T W C : Type 0} {loaded : List Pair → B} {f : Pair → Figures W C} {a : Aim T} {links : ℕ} {cs : List (List Pair)} {allowance : ℕ} {old : List Pair} {here : Level B T} {depth : ℕ} {work : List (SearchRow B T W C)} {best : Option T} {setting : List Pair} {v : ℕ} (t : UsedUp loaded f a links cs allowance old here depth work best setting v) where
  -- at the first link: the search is over
  module _ (first : depth ≡ 0) where
    at_first : Holds {W = W} {C = C} loaded a cs allowance old here [] best setting v
    at_first = subst (λ d. Holds loaded a cs allowance old here (stack work d) best setting v) first t.walks.holds

    used_first : length (get_or cs 0 []) ≤ here.tried
    used_first = subst (λ d. length (row_of cs (stack work d)) ≤ here.tried) first t.used

    -- what is told is the outcome
    pub over_told : (told : Outcome T) → told ≡ option_map_or (λ total. Found total v) best (NoneWithin v) → told ≡ outcome a cs allowance
    over_told told told_is = told_is ∙ end_told loaded a cs t.laws t.lawful allowance old at_first used_first

    -- and the places hold the named setting
    pub over_placed : setting ≡ placed (named a cs) old
    over_placed = end_placed loaded a cs t.laws t.lawful allowance old at_first used_first

  -- at another link: the search goes back to the link before
  module _ (other : depth ≡ 0 → ⊥) (row_back : SearchRow B T W C) where
    popped : stack work depth ≡ get_or work (depth - 1) row_back ∷ stack work (depth - 1)
    popped =
        let deep = t.walks.deep in
        let long = t.walks.long in
        let up : depth ≡ (depth - 1) + 1 = omega arith in
        ap (stack work) up ∙ stack_pop work (depth - 1) row_back (omega arith)

    left_here : Holds loaded a cs allowance old here ((get_or work (depth - 1) row_back) ∷ stack work (depth - 1)) best setting v
    left_here = subst (λ rs. Holds loaded a cs allowance old here rs best setting v) popped t.walks.holds

    used_here : length (row_of cs ((get_or work (depth - 1) row_back) ∷ stack work (depth - 1))) ≤ here.tried
    used_here = subst (λ rs. length (row_of cs rs) ≤ here.tried) popped t.used

    at_back : Stands loaded a cs allowance old (get_or work (depth - 1) row_back).level (stack work (depth - 1)) best setting v
    at_back = leave loaded a cs t.laws t.lawful allowance old left_here used_here

    -- the search stands at the link before
    pub back_walks : Walks loaded f a links cs allowance old (closed (beaten a best (get_or work (depth - 1) row_back).level.total) (get_or work (depth - 1) row_back).level) (depth - 1) work best setting v
    back_walks =
        let deep = t.walks.deep in
        record {
          deep = omega arith;
          long = t.walks.long;
          same = t.walks.same;
          noted_is = t.walks.noted_is;
          holds = close loaded a cs t.laws t.lawful allowance old at_back;
        }

    -- with fewer turns left
    pub back_less : turns cs (closed (beaten a best (get_or work (depth - 1) row_back).level.total) (get_or work (depth - 1) row_back).level) (stack work (depth - 1)) < turns cs here (stack work depth)
    back_less =
        let less : turns cs (get_or work (depth - 1) row_back).level (stack work (depth - 1)) < turns cs here ((get_or work (depth - 1) row_back) ∷ stack work (depth - 1)) = leave_less cs here (get_or work (depth - 1) row_back) (stack work (depth - 1)) in
        let same : turns cs here (stack work depth) ≡ turns cs here ((get_or work (depth - 1) row_back) ∷ stack work (depth - 1)) = ap (turns cs here) popped in
        omega (arith, close_no_more cs (beaten a best (get_or work (depth - 1) row_back).level.total) (get_or work (depth - 1) row_back).level (stack work (depth - 1)) at_back.reached.few)

module _ {B T W C : Type 0} {loaded : List Pair → B} {f : Pair → Figures W C} {a : Aim T} {links : ℕ} {cs : List (List Pair)} {allowance : ℕ} {old : List Pair} {here : Level B T} {depth : ℕ} {work : List (SearchRow B T W C)} {best : Option T} {setting : List Pair} {v : ℕ} {p : Pair} (t : HasNext loaded f a links cs allowance old here depth work best setting v p) where
  -- the selection with p
  pub taken : Selection (base (stack work depth) ++ p ∷ [])
  taken = visit_selection loaded a cs t.laws t.lawful allowance old t.walks.holds p t.inside t.more t.at

  here_is : Reached loaded a (base (stack work depth)) here
  here_is = t.walks.holds.stands.reached

  -- what is kept of the selection that is visited
  pub load_of : (load : B) → Takes loaded here.load p load → load ≡ loaded (base (stack work depth) ++ p ∷ [])
  load_of load takes = takes (base (stack work depth)) here_is.load taken

  -- its total
  pub total_of : (total : T) → Takes a.total here.total p total → total ≡ a.total (base (stack work depth) ++ p ∷ [])
  total_of total takes = takes (base (stack work depth)) here_is.total taken

  -- the load may take p
  pub may_take_load : MayTake loaded here.load p
  may_take_load = (base (stack work depth), here_is.load, taken)

  -- the total may take p
  pub may_take_total : MayTake a.total here.total p
  may_take_total = (base (stack work depth), here_is.total, taken)

  -- where the allowance is used up, the search is spent
  pub spent_told : v ≡ allowance → Spent ≡ outcome a cs allowance
  spent_told = spent loaded a cs t.laws t.lawful allowance old t.walks.holds p t.inside t.more t.at

  -- and no setting is asked for
  pub spent_placed : v ≡ allowance → leb (visits a cs) allowance ≡ true → setting ≡ placed (named a cs) old
  spent_placed e enough = absurd (both_ways (leb (visits a cs) allowance) (spent_below loaded a cs t.laws t.lawful allowance old t.walks.holds p t.inside t.more t.at e) enough)

  -- with fewer turns left
  pub tried_turns : turns cs (tried_one here) (stack work depth) < turns cs here (stack work depth)
  tried_turns = tried_less cs here (stack work depth) p t.more

  module _ (unspent : v ≡ allowance → ⊥) where
    with_tried : Holds loaded a cs allowance old (tried_one here) (stack work depth) best setting (v + 1) → Walks loaded f a links cs allowance old (tried_one here) depth work best setting (v + 1)
    with_tried h = record { deep = t.walks.deep; long = t.walks.long; same = t.walks.same; noted_is = t.walks.noted_is; holds = h }

    -- the selection with it is not within
    pub outside_walks : a.within (base (stack work depth) ++ p ∷ []) ≡ false → Walks loaded f a links cs allowance old (tried_one here) depth work best setting (v + 1)
    outside_walks e = with_tried (passed loaded a cs t.laws t.lawful allowance old t.walks.holds p t.inside t.more t.at unspent (inl e))

    module _ (total : T) (total_is : total ≡ a.total (base (stack work depth) ++ p ∷ [])) (verdict : Bool) (verdict_is : verdict ≡ beaten a best total) where
      beats_is : verdict ≡ beats a t.walks.holds.stands.found (base (stack work depth) ++ p ∷ [])
      beats_is = verdict_is ∙ beaten_is a t.walks.holds.stands.found best total (base (stack work depth) ++ p ∷ []) t.walks.holds.stands.best_is total_is

      -- the best so far totals no t.more
      pub beaten_walks : verdict ≡ true → Walks loaded f a links cs allowance old (tried_one here) depth work best setting (v + 1)
      beaten_walks e = with_tried (passed loaded a cs t.laws t.lawful allowance old t.walks.holds p t.inside t.more t.at unspent (inr (sym beats_is ∙ e)))

      module _ (within : a.within (base (stack work depth) ++ p ∷ []) ≡ true) (unbeaten : verdict ≡ false) where
        ahead : beats a t.walks.holds.stands.found (base (stack work depth) ++ p ∷ []) ≡ false
        ahead = sym beats_is ∙ unbeaten

        -- at the last link it is the best so far
        module _ (last : links ≤ depth + 1) (new : List Pair) (new_is : new ≡ (map (λ r. r.pair) (take depth work) ++ p ∷ []) ++ drop (depth + 1) setting) where
          new_setting : new ≡ (base (stack work depth) ++ p ∷ []) ++ drop (suc (length (stack work depth))) setting
          new_setting =
              let up : depth + 1 ≡ suc (length (stack work depth)) = omega (arith, height links depth work t.walks.deep t.walks.long) in
              new_is ∙ ap₂ (λ s n. (s ++ p ∷ []) ++ drop n setting) (sym (base_reverse (take depth work))) up

          -- the search stands at the same link
          pub best_walks : Walks loaded f a links cs allowance old (closed (beaten a (Some total) here.total) (tried_one here)) depth work (Some total) new (v + 1)
          best_walks =
              let deep = t.walks.deep in
              let end : length cs ≡ suc (length (stack work depth)) = omega (arith, height links depth work t.walks.deep t.walks.long, count_links links cs work t.walks.long t.walks.same) in
              record {
                deep = t.walks.deep;
                long = t.walks.long;
                same = t.walks.same;
                noted_is = t.walks.noted_is;
                holds = close loaded a cs t.laws t.lawful allowance old (kept loaded a cs t.laws t.lawful allowance old t.walks.holds p t.inside t.more t.at unspent within ahead end total total_is new new_setting);
              }

          -- with fewer turns left
          pub best_less : turns cs (closed (beaten a (Some total) here.total) (tried_one here)) (stack work depth) < turns cs here (stack work depth)
          best_less = let inside = t.inside in omega (arith, tried_turns, close_no_more cs (beaten a (Some total) here.total) (tried_one here) (stack work depth) (omega arith))

        -- at another link the search goes on to the next
        module _ (not_last : depth + 1 < links) (again new : SearchRow B T W C) (new_is : new ≡ record { candidates = (get_or work depth again).candidates; figures = (get_or work depth again).figures; level = tried_one here; pair = p }) (fresh : Level B T) (load : B) (fresh_is : fresh ≡ record { load = load; total = total; tried = 0 }) (load_is : load ≡ loaded (base (stack work depth) ++ p ∷ [])) where
          untried : fresh.tried ≡ 0
          untried = ap (λ l. l.tried) fresh_is

          inside : depth < length work
          inside = let long = t.walks.long in omega arith

          pushed : stack (set work depth new) (depth + 1) ≡ new ∷ stack work depth
          pushed = stack_push work depth new inside

          -- the search stands at the next link
          pub next_walks : Walks loaded f a links cs allowance old fresh (depth + 1) (set work depth new) best setting (v + 1)
          next_walks =
              let on : suc (length (stack work depth)) < length cs = omega (arith, height links depth work t.walks.deep t.walks.long, count_links links cs work t.walks.long t.walks.same) in
              record {
                deep = not_last;
                long = omega (arith, t.walks.long, length-set work depth new);
                same = rows_set (λ r. r.candidates.items) [] links work depth new inside (ap (λ r. r.candidates.items) new_is ∙ ap (λ r. r.candidates.items) kept_row) ∙ t.walks.same;
                noted_is = rows_set notes [] links work depth new inside (ap notes new_is ∙ ap notes kept_row) ∙ t.walks.noted_is;
                holds = subst (λ rs. Holds loaded a cs allowance old fresh rs best setting (v + 1)) (sym pushed)
                    (deeper loaded a cs t.laws t.lawful allowance old t.walks.holds p t.inside t.more t.at unspent within ahead on new (ap (λ r. r.level) new_is) (ap (λ r. r.pair) new_is) fresh (ap (λ l. l.load) fresh_is ∙ load_is) (ap (λ l. l.total) fresh_is ∙ total_is) untried);
              }
            where
              notes : SearchRow B T W C → List (Figures W C)
              notes r = take (length r.candidates.items) r.figures

              kept_row : get_or work depth again ≡ get_or work depth new
              kept_row = get_or_default work depth again new inside

          -- with fewer turns left
          pub next_less : turns cs fresh (stack (set work depth new) (depth + 1)) < turns cs here (stack work depth)
          next_less =
              let on : suc (length (stack work depth)) < length cs = omega (arith, height links depth work t.walks.deep t.walks.long, count_links links cs work t.walks.long t.walks.same) in
              let less : turns cs fresh (new ∷ stack work depth) < turns cs here (stack work depth) = deeper_less cs here (stack work depth) p t.more on new (ap (λ r. r.level) new_is) fresh untried in
              subst (λ rs. turns cs fresh rs < turns cs here (stack work depth)) (sym pushed) less
