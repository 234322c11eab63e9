-- What a setting at a port is told, by the rules of the field.
use Rattle.std.proofs.Common.{◌≡◌, ℕ, Bool, true, false, cond, ◌&&◌, eqb, List, [], ◌∷◌, Some, None, Option, sym, refl, ap, ◌∙◌}
use Rattle.std.specs.Option.{is_none}
use Rattle.std.proofs.Math.Bool.{and-true, and_comm, and_assoc}
use Rattle.std.proofs.lemmas.Bool.{true≢false}
use Rattle.limits.specs.declared.port.Port.{Port}
use Rattle.limits.specs.Gaps.{eight_gaps}
use Rattle.limits.specs.Port.{port_breach}
use Rattle.limits.specs.Range.{among}
use Rattle.std.specs.List.{list_all}
use Rattle.limits.specs.Rules.{above_floor, within_share, within_jitter}
use Rattle.limits.specs.Selection.{Selection}
use Rattle.limits.proofs.Both.{admits_by_rules}
use Rattle.plan.specs.Queries.{first_without_flow}
use Rattle.plan.specs.Sound.{good}
use Rattle.plan.specs.Standing.{Standing}
use Rattle.planner.specs.declared.row.Row.{Row}
use Rattle.planner.specs.Asked.{told_or, refusal, first_failing}
use Rattle.planner.specs.Field.{bandwidth_kept, jitter_kept, JudgedByField}
use Rattle.planner.specs.Setting.{pairs, name_links, gap_of_row_lawful, mtu_of_row_lawful, messages_served, plainly, if_any, setting_questions}
use Rattle.planner.proofs.Fractions.{bandwidth_exact, jitter_exact}
use Rattle.planner.proofs.Failing.{every_passes}
use Rattle.planner.proofs.Lawful.{lawful_selection}

-- ---- what is told of the first questions
-- their numbers
abbrev first_four : List ℕ
first_four = 13 ∷ 19 ∷ 20 ∷ 21 ∷ []

-- nothing fails a question of them where none of their numbers is told
unfailed : (n : ℕ) (rest : ℕ × ℕ) (o : Option ℕ) → among first_four n ≡ true → among first_four (told_or n rest o).0 ≡ false → (None ≡ o) × (among first_four rest.0 ≡ false)
unfailed n rest None is h = (refl, h)
unfailed n rest (Some d) is h = absurd (true≢false (sym is ∙ h))

named_from_plainly : (b : Bool) → None ≡ plainly b → b ≡ true
named_from_plainly true e = refl
named_from_plainly false e = absurd (true≢false (ap is_none e))

-- ---- when 0 is told
zero_told : (n : ℕ) (rest : ℕ × ℕ) (o : Option ℕ) → eqb n 0 ≡ false → eqb (told_or n rest o).0 0 ≡ (is_none o && eqb rest.0 0)
zero_told n rest None ne = refl
zero_told n rest (Some d) ne = ne

no_breach : (b : ℕ) → is_none (if_any b) ≡ eqb b 0
no_breach b = elim (eqb b 0) as (λ t. is_none (cond t None (Some b)) ≡ t) [ true ↦ refl | false ↦ refl ]

floor_last : (floor share jitter : Bool) → (floor && (share && jitter)) ≡ (share && (jitter && floor))
floor_last floor share jitter = and_comm floor (share && jitter) ∙ and_assoc share jitter floor

module _ (port : Port) (st : Standing) (rows : List Row) (sound : good st ≡ true) where
  abbrev last_two : ℕ × ℕ
  last_two = refusal ((22, first_failing (messages_served st) rows) ∷ (23, if_any (port_breach port (pairs rows))) ∷ [])

  by_rules : eqb last_two.0 0 ≡ (list_all (messages_served st) rows && eqb (port_breach port (pairs rows)) 0)
  by_rules =
      zero_told 22 _ (first_failing (messages_served st) rows) refl
      ∙ (λ i. every_passes (messages_served st) rows i && (zero_told 23 (0, 0) (if_any (port_breach port (pairs rows))) refl ∙ and-true _ ∙ no_breach (port_breach port (pairs rows))) i)

  -- the port's rules are those of the field
  in_fractions : Selection (pairs rows) → eqb (port_breach port (pairs rows)) 0 ≡ (bandwidth_kept port.share (pairs rows) && (jitter_kept port.rate (pairs rows) && above_floor port.floor (pairs rows)))
  in_fractions sel =
      let s = pairs rows in
      let floor = above_floor port.floor s in
      admits_by_rules port s ∙ floor_last floor (within_share port.share s) (within_jitter port.rate s)
      ∙ sym (λ i. bandwidth_exact port.share s sel.each i && (jitter_exact port.rate s i && floor))

  pub judged_by_field : JudgedByField port st rows (refusal (setting_questions eight_gaps (port_breach port) st rows))
  judged_by_field h =
      let flows = unfailed 13 _ (first_without_flow st) refl h in
      let names = unfailed 19 _ (plainly (name_links st.links rows)) refl flows.1 in
      let gaps = unfailed 20 _ (first_failing (gap_of_row_lawful eight_gaps) rows) refl names.1 in
      let mtus = unfailed 21 _ (first_failing mtu_of_row_lawful rows) refl gaps.1 in
      let sel = lawful_selection (record { sound = sound; named = named_from_plainly _ names.0; gaps = gaps.0; mtus = mtus.0 }) in
      ap (λ t. eqb t.0 0) (sym (λ i. told_or 13 (told_or 19 (told_or 20 (told_or 21 last_two (mtus.0 i)) (gaps.0 i)) (names.0 i)) (flows.0 i)))
      ∙ by_rules ∙ ap (λ b. list_all (messages_served st) rows && b) (in_fractions sel)
