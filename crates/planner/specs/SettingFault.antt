-- The refusals of a setting: per case its number, its detail and its words.
use Rattle.std.specs.Prelude.{ℕ, List, codes, Result}
use Rattle.limits.specs.Told.{told_by}
use Rattle.planner.specs.declared.setting_fault.SettingFault.{SettingFault}
use Rattle.planner.specs.declared.setting_fault.SettingFault.TheVariants.{LinkWithoutFlow, RowsNotTheLinks, GapUnlawful, MtuUnlawful, MessagesUnserved, NotWithin}

-- the number of the question that was answered no
abbrev pub number : SettingFault → ℕ
number (LinkWithoutFlow link) = 13
number RowsNotTheLinks = 19
number (GapUnlawful row) = 20
number (MtuUnlawful row) = 21
number (MessagesUnserved row) = 22
number (NotWithin breach) = 23

-- what is told beside the number: the name of the link, the place of the row from 1, or the breach
abbrev pub detail : SettingFault → ℕ
detail (LinkWithoutFlow link) = link
detail RowsNotTheLinks = 0
detail (GapUnlawful row) = row
detail (MtuUnlawful row) = row
detail (MessagesUnserved row) = row
detail (NotWithin breach) = breach

-- what the refusal says in words, as the codes of its characters
unfoldable pub text : SettingFault → List ℕ
text (LinkWithoutFlow link) = codes "a link has no flow"
text RowsNotTheLinks = codes "the rows are not the links in plan order"
text (GapUnlawful row) = codes "the gap of a row is not one of the eight"
text (MtuUnlawful row) = codes "the MTU of a row is not from 1 to 1471 bytes"
text (MessagesUnserved row) = codes "the pair of a row does not serve the flows of its link"
text (NotWithin breach) = codes "the setting is not within the limit"

-- what a call told: 0 and 0 where it was accepted, else the number and the detail of its refusal
abbrev pub told : {X : Type 0} → Result X SettingFault → ℕ × ℕ
told r = (told_by number r, told_by detail r)
