use Rattle.std.proofs.Common.{◌≡◌, sym, ap, ◌∙◌, subst}
use Rattle.limits.specs.Gaps.{eight_gaps}
use Rattle.limits.specs.Port.{layers_breach, port_breach}
use Rattle.plan.specs.Held.{standing}
use Rattle.planner.specs.Asked.{refusal}
use Rattle.planner.specs.Field.{JudgedByField}
use Rattle.planner.specs.Setting.{setting_questions}
use Rattle.planner.specs.SettingFault.{told}
use Rattle.planner.proofs.ByField.{judged_by_field}
use Rattle.planner.proofs.port_check.check_port_setting.Goals as goal

pub returns : goal.returns
returns c =
    let port = c.args.port in
    let st = standing c.args.plan.now in
    let rows = c.args.rows.now in
    let is : told c.check_setting.result ≡ refusal (setting_questions eight_gaps (port_breach port) st rows) = c.check_setting.ensures ∙ ap (λ l. refusal (setting_questions eight_gaps (layers_breach l) st rows)) c.limit.ensures in
    record { told = is; field = subst (JudgedByField port st rows) (sym is) (judged_by_field port st rows c.args.plan.now.sound) }
