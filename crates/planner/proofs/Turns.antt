-- What each turn of the search does to what is left.
use Rattle.std.proofs.Common.{◌≡◌, ℕ, zero, suc, ◌+◌, ◌-◌, ◌<◌, ◌≤◌, Bool, true, false, not, ◌&&◌, if◌then◌else◌, ltb, leb, List, [], ◌∷◌, ◌++◌, map, length, get_or, drop, Some, None, Option, option_map, refl, sym, ap, ap₂, ◌∙◌, subst, subst₂, ◌⊎◌, inr, length-append, length-drop, append_assoc, drop-cons, drop_at, arith}
use Rattle.std.specs.List.{AllByRecursion}
use Rattle.std.specs.Option.{option_map_or, IfSome}
use Rattle.std.proofs.lemmas.Bool.{and_from, and_left, not_from_false, cond-true, cond-false, lt-ltb, lt-leb}
use Rattle.std.proofs.lemmas.List.{drop_more, drop_all}
use Rattle.limits.specs.declared.pair.Pair.{Pair}
use Rattle.limits.specs.Selection.{Lawful, Selection}
use Rattle.planner.specs.declared.outcome.Outcome.{Outcome}
use Rattle.planner.specs.declared.outcome.Outcome.TheVariants.{Spent, NoneWithin, Found}
use Rattle.planner.specs.declared.search_row.Level.{Level}
use Rattle.planner.specs.declared.search_row.SearchRow.{SearchRow}
use Rattle.planner.specs.Named.{Aim, visits, named}
use Rattle.planner.specs.Outcome.{told_of, outcome, placed}
use Rattle.planner.specs.Selections.{partial}
use Rattle.planner.specs.Table.{LawfulCandidates}
use Rattle.planner.proofs.Chosen.{final_named}
use Rattle.planner.proofs.Fold.{beats, next, seen, seens_all}
use Rattle.planner.proofs.Laws.{Laws}
use Rattle.planner.proofs.Left.{selection_append, parent_push, Owes, owes_whole, owes_skip, owes_back, owes_visit, owes_more, Idle, Lost, lost_next, idle_all, nodes, nodes_cons, from_nothing}
use Rattle.std.proofs.ByRecursion.{All-append, All-drop}
use Rattle.planner.proofs.Order.{full, full_long, full_short}
use Rattle.planner.proofs.Told.{told_unspent}
use Rattle.planner.proofs.Stack.{base, row_of, below_of, level_left, rows_left, row_turns, all_turns, row_turns_pos, row_turns_drop, level_turns, turns}

-- the candidates of each link are lawful
lawful_at : (cs : List (List Pair)) (k : ℕ) → AllByRecursion (λ c. AllByRecursion Lawful c) cs → AllByRecursion Lawful (get_or cs k [])
lawful_at [] k a = tt
lawful_at (c ∷ cs) zero a = a.0
lawful_at (c ∷ cs) (suc k) a = lawful_at cs k a.1

-- a level whose next candidate was tried
abbrev pub tried_one : {B T : Type 0} → Level B T → Level B T
tried_one level = record { load = level.load; total = level.total; tried = level.tried + 1 }

-- a level is what its pairs come to, and they are within
pub record Reached {B T : Type 0} (loaded : List Pair → B) (a : Aim T) (s : List Pair) (level : Level B T) : Type 0 where
  pub load : level.load ≡ loaded s
  pub total : level.total ≡ a.total s
  pub within : a.within s ≡ true
  pub lawful : AllByRecursion Lawful s
  pub few : level.tried ≤ 8

-- so is each row above
abbrev AllReached : {B T W C : Type 0} → (List Pair → B) → Aim T → List (SearchRow B T W C) → Type 0
AllReached loaded a [] = Unit {0}
AllReached loaded a (r ∷ rs) = Reached loaded a (base rs) r.level × AllReached loaded a rs

-- where the search stands between two turns, before it looks whether the best so far closes the level
pub record Stands {B T W C : Type 0} (loaded : List Pair → B) (a : Aim T) (cs : List (List Pair)) (allowance : ℕ) (old : List Pair) (here : Level B T) (rs : List (SearchRow B T W C)) (best : Option T) (setting : List Pair) (v : ℕ) : Type 0 where
  pub deep : length rs < length cs
  pub room : length cs ≤ length setting
  pub reached : Reached loaded a (base rs) here
  pub above : AllReached loaded a rs
  pub spare : v ≤ allowance
  pub found : Option (List Pair)
  pub best_is : best ≡ option_map a.total found
  pub setting_is : setting ≡ placed found old
  pub whole : IfSome found (λ s. length s ≡ length cs)
  pub owes : Owes a cs found v (level_left cs here rs ++ rows_left cs rs)

-- the same, with a level that the best so far does not close
pub record Holds {B T W C : Type 0} (loaded : List Pair → B) (a : Aim T) (cs : List (List Pair)) (allowance : ℕ) (old : List Pair) (here : Level B T) (rs : List (SearchRow B T W C)) (best : Option T) (setting : List Pair) (v : ℕ) : Type 0 where
  pub stands : Stands loaded a cs allowance old here rs best setting v
  pub unbeaten : here.tried < 8 → beats a stands.found (base rs) ≡ false

-- whether the best total so far is no more than this one
abbrev pub beaten : {T : Type 0} → Aim T → Option T → T → Bool
beaten a best total = option_map_or (λ least. a.at_most least total) best false

-- it is whether the best so far beats the selection of that total
pub beaten_is : {T : Type 0} (a : Aim T) (found : Option (List Pair)) (best : Option T) (total : T) (s : List Pair) → best ≡ option_map a.total found → total ≡ a.total s → beaten a best total ≡ beats a found s
beaten_is a None best total s b t = ap (λ o. beaten a o total) b
beaten_is a (Some x) best total s b t = ap₂ (λ o y. beaten a o y) b t

-- the level as the search goes on with it
abbrev pub closed : {B T : Type 0} → Bool → Level B T → Level B T
closed k level = if k then record { load = level.load; total = level.total; tried = 8 } else level

-- what the search tells at its end, by the best total and the visits
abbrev pub told : {T : Type 0} → Option T → ℕ → Outcome T
told best v = option_map_or (λ total. Found total v) best (NoneWithin v)

told_found : {T : Type 0} (a : Aim T) (found : Option (List Pair)) (best : Option T) (v : ℕ) → best ≡ option_map a.total found → told best v ≡ told_of a v found
told_found a None best v b = ap (λ o. told o v) b
told_found a (Some s) best v b = ap (λ o. told o v) b

module _ {B T W C : Type 0} (loaded : List Pair → B) (a : Aim T) (cs : List (List Pair)) (laws : Laws a) (lawful : LawfulCandidates cs) (allowance : ℕ) (old : List Pair) where
  -- a row whose candidates are used up has nothing left
  used_up : (level : Level B T) (rs : List (SearchRow B T W C)) → length (row_of cs rs) ≤ level.tried → level_left cs level rs ≡ []
  used_up level rs h = ap (λ c. nodes (base rs) c (below_of cs rs)) (drop_all level.tried (row_of cs rs) h)

  -- below a level that is beaten nothing is left to visit
  level_idle : (b : Option (List Pair)) (level : Level B T) (rs : List (SearchRow B T W C)) → AllByRecursion Lawful (base rs) → length (base rs) ≡ length rs → length rs < length cs → Lost a cs b (base rs) → AllByRecursion (Idle a cs b) (level_left cs level rs)
  level_idle b level rs l e deep lost =
      let f = lawful.few in
      idle_all a cs laws b (base rs) (drop level.tried (row_of cs rs) ∷ below_of cs rs) l
      (All-drop Lawful level.tried (row_of cs rs) (lawful_at cs (length rs) lawful.lawful), All-drop (λ c. AllByRecursion Lawful c) (suc (length rs)) cs lawful.lawful)
      (omega (arith, length-drop (suc (length rs)) cs)) lost

  base_length : (rs : List (SearchRow B T W C)) → length (base rs) ≡ length rs
  base_length [] = refl
  base_length (r ∷ rs) = omega (arith, length-append (base rs) (r.pair ∷ []), base_length rs)

  module _ {here : Level B T} {rs : List (SearchRow B T W C)} {best : Option T} {setting : List Pair} {v : ℕ} where
    close_by : (st : Stands loaded a cs allowance old here rs best setting v) (k : Bool) → k ≡ beats a st.found (base rs) → Holds loaded a cs allowance old (closed k here) rs best setting v
    close_by st false e = record { stands = st; unbeaten = λ _. sym e }
    close_by st true e =
        let shut : Level B T = record { load = here.load; total = here.total; tried = 8 } in
        let idle = λ (level : Level B T). level_idle st.found level rs st.reached.lawful (base_length rs) st.deep (inr (sym e)) in
        let left : Owes a cs st.found v (rows_left cs rs) = owes_skip a cs st.found v (level_left cs here rs) (rows_left cs rs) (idle here) st.owes in
        record {
          stands = record {
            deep = st.deep;
            room = st.room;
            reached = record { load = st.reached.load; total = st.reached.total; within = st.reached.within; lawful = st.reached.lawful; few = omega arith };
            above = st.above;
            spare = st.spare;
            found = st.found;
            best_is = st.best_is;
            setting_is = st.setting_is;
            whole = st.whole;
            owes = owes_back a cs st.found v (level_left cs shut rs) (rows_left cs rs) (idle shut) left;
          };
          unbeaten = λ l. absurd (omega arith);
        }

    -- a level is closed where the best so far is no more
    pub close : Stands loaded a cs allowance old here rs best setting v → Holds loaded a cs allowance old (closed (beaten a best here.total) here) rs best setting v
    close st = close_by st (beaten a best here.total) (beaten_is a st.found best here.total (base rs) st.best_is st.reached.total)

    -- a row is left for the one above it
    pub leave : {r : SearchRow B T W C} → Holds loaded a cs allowance old here (r ∷ rs) best setting v → length (row_of cs (r ∷ rs)) ≤ here.tried → Stands loaded a cs allowance old r.level rs best setting v
    leave {r} h used =
        let st = h.stands in
        let deep = st.deep in
        record {
          deep = omega arith;
          room = st.room;
          reached = st.above.0;
          above = st.above.1;
          spare = st.spare;
          found = st.found;
          best_is = st.best_is;
          setting_is = st.setting_is;
          whole = st.whole;
          owes = subst (λ ps. Owes a cs st.found v (ps ++ rows_left cs (r ∷ rs))) (used_up here (r ∷ rs) used) st.owes;
        }

  -- the search is over
  module _ {here : Level B T} {best : Option T} {setting : List Pair} {v : ℕ} (h : Holds {W = W} {C = C} loaded a cs allowance old here [] best setting v) (used : length (get_or cs 0 []) ≤ here.tried) where
    end_owes : Owes a cs h.stands.found v []
    end_owes = subst (λ ps. Owes a cs h.stands.found v (ps ++ [])) (used_up here [] used) h.stands.owes

    some_links : 0 < length cs
    some_links = h.stands.deep

    named_found : named a cs ≡ h.stands.found
    named_found = final_named a laws.ranks cs some_links lawful h.stands.found (sym end_owes.ends)

    -- what is told is the outcome
    pub end_told : told best v ≡ outcome a cs allowance
    end_told =
        let st = h.stands in
        let c = end_owes.count in
        let spare = st.spare in
        let all : v ≡ visits a cs = omega (arith, seens_all a laws.ranks cs some_links lawful) in
        told_found a st.found best v st.best_is ∙ told_unspent a cs allowance v st.found all spare named_found

    -- and the places hold the named setting
    pub end_placed : setting ≡ placed (named a cs) old
    end_placed = h.stands.setting_is ∙ ap (λ o. placed o old) (sym named_found)

  -- the start
  pub start : (here : Level B T) → 0 < length cs → length cs ≤ length old → here.load ≡ loaded [] → here.total ≡ a.total [] → here.tried ≡ 0 → a.within [] ≡ true → Holds {W = W} {C = C} loaded a cs allowance old here [] None old 0
  start here some room load total fresh within =
      record {
        stands = record {
          deep = some;
          room = room;
          reached = record { load = load; total = total; within = within; lawful = tt; few = omega arith };
          above = tt;
          spare = omega arith;
          found = None;
          best_is = refl;
          setting_is = refl;
          whole = tt;
          owes = subst (λ ps. Owes a cs None 0 ps) (sym (all_left cs some)) (owes_whole a cs);
        };
        unbeaten = λ _. refl;
      }
    where
      from_first : (ds : List (List Pair)) → 0 < length ds → map (λ y. [] ++ y) (partial (get_or ds 0 [] ∷ drop 1 ds)) ++ [] ≡ partial ds
      from_first [] l = absurd (omega arith)
      from_first (d ∷ ds) l = from_nothing (partial (d ∷ ds))

      all_left : (ds : List (List Pair)) → 0 < length ds → level_left {W = W} {C = C} ds here [] ++ [] ≡ partial ds
      all_left ds l = ap (λ n. map (λ y. [] ++ y) (partial (drop n (get_or ds 0 []) ∷ drop 1 ds)) ++ []) fresh ∙ from_first ds l

  -- a turn that visits the next candidate
  module _ {here : Level B T} {rs : List (SearchRow B T W C)} {best : Option T} {setting : List Pair} {v : ℕ} (h : Holds loaded a cs allowance old here rs best setting v) (p : Pair) (inside : here.tried < 8) (more : here.tried < length (row_of cs rs)) (at : get_or (row_of cs rs) here.tried p ≡ p) where
    row_is : drop here.tried (row_of cs rs) ≡ p ∷ drop (here.tried + 1) (row_of cs rs)
    row_is = drop_more (row_of cs rs) here.tried p more ∙ ap (λ x. x ∷ drop (here.tried + 1) (row_of cs rs)) at

    visit_length : length (base rs ++ p ∷ []) ≡ suc (length rs)
    visit_length = omega (arith, length-append (base rs) (p ∷ []), base_length rs)

    p_lawful : Lawful p
    p_lawful = (subst (λ c. AllByRecursion Lawful c) row_is (All-drop Lawful here.tried (row_of cs rs) (lawful_at cs (length rs) lawful.lawful))).0

    visit_lawful : AllByRecursion Lawful (base rs ++ p ∷ [])
    visit_lawful = All-append Lawful (base rs) (p ∷ []) h.stands.reached.lawful (p_lawful, tt)

    -- it is a selection
    pub visit_selection : Selection (base rs ++ p ∷ [])
    visit_selection =
        let f = lawful.few in
        let deep = h.stands.deep in
        selection_append (base rs) (p ∷ []) h.stands.reached.lawful (p_lawful, tt) (omega (arith, base_length rs))

    -- the selections below it
    abbrev sub : List (List Pair)
    sub = map (λ y. (base rs ++ p ∷ []) ++ y) (partial (below_of cs rs))

    abbrev rest : List (List Pair)
    rest = level_left cs (tried_one here) rs ++ rows_left cs rs

    -- it is visited
    visit_seen : seen a h.stands.found (base rs ++ p ∷ []) ≡ true
    visit_seen =
        ap (λ z. a.within z && not (beats a h.stands.found z)) (parent_push (base rs) p)
        ∙ and_from (a.within (base rs)) (not (beats a h.stands.found (base rs))) h.stands.reached.within (not_from_false (beats a h.stands.found (base rs)) (h.unbeaten inside))

    -- what is left begins with it
    visit_owes : Owes a cs h.stands.found v ((base rs ++ p ∷ []) ∷ (sub ++ rest))
    visit_owes =
        let left = level_left cs (tried_one here) rs in
        let was : level_left cs here rs ++ rows_left cs rs ≡ (base rs ++ p ∷ []) ∷ (sub ++ rest) =
        ap (λ c. nodes (base rs) c (below_of cs rs) ++ rows_left cs rs) row_is
        ∙ ap (λ ps. ps ++ rows_left cs rs) (nodes_cons (base rs) p (drop (here.tried + 1) (row_of cs rs)) (below_of cs rs))
        ∙ ap (λ ps. (base rs ++ p ∷ []) ∷ ps) (append_assoc sub left (rows_left cs rs)) in
        subst (λ ps. Owes a cs h.stands.found v ps) was h.stands.owes

    -- where the allowance is used up, it is below the visits
    pub spent : v ≡ allowance → Spent ≡ outcome a cs allowance
    spent e =
        let deep = h.stands.deep in
        let some : 0 < length cs = omega arith in
        let less : allowance < visits a cs = omega (arith, owes_more a cs h.stands.found v (base rs ++ p ∷ []) (sub ++ rest) visit_seen visit_owes, seens_all a laws.ranks cs some lawful) in
        sym (cond-true (ltb allowance (visits a cs)) Spent (told_of a (visits a cs) (named a cs)) (lt-ltb allowance (visits a cs) less))

    -- and so the visits are not within the allowance
    pub spent_below : v ≡ allowance → leb (visits a cs) allowance ≡ false
    spent_below e =
        let deep = h.stands.deep in
        let some : 0 < length cs = omega arith in
        lt-leb (visits a cs) allowance (omega (arith, owes_more a cs h.stands.found v (base rs ++ p ∷ []) (sub ++ rest) visit_seen visit_owes, seens_all a laws.ranks cs some lawful))

    -- what is left after it
    next_owes : Owes a cs (next a cs h.stands.found (base rs ++ p ∷ [])) (v + 1) (sub ++ rest)
    next_owes = owes_visit a cs h.stands.found v (base rs ++ p ∷ []) (sub ++ rest) visit_seen visit_owes

    tried_reached : Reached loaded a (base rs) (tried_one here)
    tried_reached = record { load = h.stands.reached.load; total = h.stands.reached.total; within = h.stands.reached.within; lawful = h.stands.reached.lawful; few = omega arith }

    module _ (unspent : v ≡ allowance → ⊥) where
      spare_one : v + 1 ≤ allowance
      spare_one = let spare = h.stands.spare in omega arith

      -- it is not within, or it is beaten: nothing below it is visited
      pub passed : (a.within (base rs ++ p ∷ []) ≡ false) ⊎ (beats a h.stands.found (base rs ++ p ∷ []) ≡ true) → Holds loaded a cs allowance old (tried_one here) rs best setting (v + 1)
      passed lost =
          let b = h.stands.found in
          let deep = h.stands.deep in
          let f = lawful.few in
          let idle : AllByRecursion (Idle a cs b) sub = idle_all a cs laws b (base rs ++ p ∷ []) (below_of cs rs) visit_lawful (All-drop (λ c. AllByRecursion Lawful c) (suc (length rs)) cs lawful.lawful) (omega (arith, visit_length, length-drop (suc (length rs)) cs)) lost in
          let stays : Owes a cs b (v + 1) (sub ++ rest) = subst (λ c. Owes a cs c (v + 1) (sub ++ rest)) (lost_next a cs b (base rs ++ p ∷ []) lost) next_owes in
          record {
            stands = record {
              deep = deep;
              room = h.stands.room;
              reached = tried_reached;
              above = h.stands.above;
              spare = spare_one;
              found = b;
              best_is = h.stands.best_is;
              setting_is = h.stands.setting_is;
              whole = h.stands.whole;
              owes = owes_skip a cs b (v + 1) sub rest idle stays;
            };
            unbeaten = λ l. h.unbeaten inside;
          }

      module _ (within : a.within (base rs ++ p ∷ []) ≡ true) (unbeaten : beats a h.stands.found (base rs ++ p ∷ []) ≡ false) where
        -- at the last link: it is the best so far
        pub kept : length cs ≡ suc (length rs) → (t : T) → t ≡ a.total (base rs ++ p ∷ []) → (new : List Pair) → new ≡ (base rs ++ p ∷ []) ++ drop (suc (length rs)) setting → Stands loaded a cs allowance old (tried_one here) rs (Some t) new (v + 1)
        kept last t t_is new new_is =
            let b = h.stands.found in
            let q = base rs ++ p ∷ [] in
            let room = h.stands.room in
            let deep = h.stands.deep in
            let full_q : full cs q ≡ true = full_long cs q (visit_length ∙ sym last) in
            let next_is : next a cs b q ≡ Some q = cond-true (full cs q && (a.within q && not (beats a b q))) (Some q) b (and_from (full cs q) (a.within q && not (beats a b q)) full_q (and_from (a.within q) (not (beats a b q)) within (not_from_false (beats a b q) unbeaten))) in
            let no_sub : sub ≡ [] = ap (λ u. map (λ y. q ++ y) (partial u)) (drop_all (suc (length rs)) cs (omega arith)) in
            let behind : drop (suc (length rs)) setting ≡ drop (length q) old = ap (λ n. drop n setting) (sym visit_length) ∙ drop_found b (length q) h.stands.setting_is h.stands.whole (visit_length ∙ sym last) in
            record {
              deep = deep;
              room = omega (arith, ap length new_is, length-append q (drop (suc (length rs)) setting), length-drop (suc (length rs)) setting, visit_length);
              reached = tried_reached;
              above = h.stands.above;
              spare = spare_one;
              found = Some q;
              best_is = ap (λ x. Some x) t_is;
              setting_is = new_is ∙ ap (λ z. q ++ z) behind;
              whole = visit_length ∙ sym last;
              owes = subst (λ z. Owes a cs (Some q) (v + 1) (z ++ rest)) no_sub (subst (λ c. Owes a cs c (v + 1) (sub ++ rest)) next_is next_owes);
            }
          where
            drop_found : (o : Option (List Pair)) (n : ℕ) → setting ≡ placed o old → IfSome o (λ s. length s ≡ length cs) → n ≡ length cs → drop n setting ≡ drop n old
            drop_found None n e w m = ap (drop n) e
            drop_found (Some s) n e w m = ap (drop n) e ∙ drop_at s (drop (length s) old) n (w ∙ sym m) ∙ ap (λ k. drop k old) (w ∙ sym m)

        -- at another link: the search goes on below it
        pub deeper : suc (length rs) < length cs → (r : SearchRow B T W C) → r.level ≡ tried_one here → r.pair ≡ p → (fresh : Level B T) → fresh.load ≡ loaded (base rs ++ p ∷ []) → fresh.total ≡ a.total (base rs ++ p ∷ []) → fresh.tried ≡ 0 → Holds loaded a cs allowance old fresh (r ∷ rs) best setting (v + 1)
        deeper not_last r r_level r_pair fresh load total fresh_tried =
            let b = h.stands.found in
            let q = base rs ++ p ∷ [] in
            let base_is : base (r ∷ rs) ≡ q = ap (λ x. base rs ++ x ∷ []) r_pair in
            let part : full cs q ≡ false = full_short cs q (omega (arith, visit_length)) in
            let next_is : next a cs b q ≡ b = cond-false (full cs q && (a.within q && not (beats a b q))) (Some q) b (and_left (full cs q) (a.within q && not (beats a b q)) part) in
            let sub_is : sub ≡ level_left cs fresh (r ∷ rs) =
            ap (λ u. map (λ y. q ++ y) (partial u)) (drop-cons cs (suc (length rs)) [] not_last)
            ∙ ap₂ (λ x n. nodes x (drop n (get_or cs (suc (length rs)) [])) (drop (suc (suc (length rs))) cs)) (sym base_is) (sym fresh_tried) in
            let stays : Owes a cs b (v + 1) (sub ++ rest) = subst (λ c. Owes a cs c (v + 1) (sub ++ rest)) next_is next_owes in
            record {
              stands = record {
                deep = not_last;
                room = h.stands.room;
                reached = record { load = load ∙ ap loaded (sym base_is); total = total ∙ ap a.total (sym base_is); within = ap a.within base_is ∙ within; lawful = subst (λ x. AllByRecursion Lawful x) (sym base_is) visit_lawful; few = omega arith };
                above = (subst (λ x. Reached loaded a (base rs) x) (sym r_level) tried_reached, h.stands.above);
                spare = spare_one;
                found = b;
                best_is = h.stands.best_is;
                setting_is = h.stands.setting_is;
                whole = h.stands.whole;
                owes = subst₂ (λ x y. Owes a cs b (v + 1) (x ++ (level_left cs y rs ++ rows_left cs rs))) sub_is (sym r_level) stays;
              };
              unbeaten = λ _. ap (λ x. beats a b x) base_is ∙ unbeaten;
            }

-- how many turns may be left falls at each turn
module _ {B T W C : Type 0} (cs : List (List Pair)) where
  -- by leaving a row
  pub leave_less : (here : Level B T) (r : SearchRow B T W C) (rs : List (SearchRow B T W C)) → turns cs r.level rs < turns cs here (r ∷ rs)
  leave_less here r rs = omega (arith, row_turns_pos (suc (all_turns (below_of cs (r ∷ rs)))) (drop here.tried (row_of cs (r ∷ rs))))

  -- closing a level takes none more
  pub close_no_more : (k : Bool) (level : Level B T) (rs : List (SearchRow B T W C)) → level.tried ≤ 8 → turns cs (closed k level) rs ≤ turns cs level rs
  close_no_more false level rs h = omega arith
  close_no_more true level rs h =
      let each = suc (all_turns (below_of cs rs)) in
      let row = row_of cs rs in
      let all : level.tried + (8 - level.tried) ≡ 8 = omega arith in
      let same : row_turns each (drop (level.tried + (8 - level.tried)) row) ≡ row_turns each (drop 8 row) = ap (λ n. row_turns each (drop n row)) all in
      omega (arith, row_turns_drop each level.tried (8 - level.tried) row)

  module _ (here : Level B T) (rs : List (SearchRow B T W C)) (p : Pair) (more : here.tried < length (row_of cs rs)) where
    turns_was : turns cs here rs ≡ suc (all_turns (below_of cs rs)) + turns cs (tried_one here) rs
    turns_was =
        let each = suc (all_turns (below_of cs rs)) in
        let was : row_turns each (drop here.tried (row_of cs rs)) ≡ each + row_turns each (drop (here.tried + 1) (row_of cs rs)) = ap (row_turns each) (drop_more (row_of cs rs) here.tried p more) in
        omega arith

    -- by trying a candidate
    pub tried_less : turns cs (tried_one here) rs < turns cs here rs
    tried_less = omega (arith, turns_was)

    -- by going on to the next link
    pub deeper_less : suc (length rs) < length cs → (r : SearchRow B T W C) → r.level ≡ tried_one here → (fresh : Level B T) → fresh.tried ≡ 0 → turns cs fresh (r ∷ rs) < turns cs here rs
    deeper_less not_last r r_level fresh fresh_tried =
        let below : all_turns (below_of cs rs) ≡ all_turns (get_or cs (suc (length rs)) [] ∷ drop (suc (suc (length rs))) cs) = ap all_turns (drop-cons cs (suc (length rs)) [] not_last) in
        let now : level_turns cs fresh (r ∷ rs) ≡ all_turns (get_or cs (suc (length rs)) [] ∷ drop (suc (suc (length rs))) cs) = ap (λ n. row_turns (suc (all_turns (below_of cs (r ∷ rs)))) (drop n (row_of cs (r ∷ rs)))) fresh_tried in
        let up : level_turns cs r.level rs ≡ level_turns cs (tried_one here) rs = ap (λ l. level_turns cs l rs) r_level in
        omega (arith, turns_was)
