-- The refusals of a solve: per case its number, its detail and its words.
use Rattle.std.specs.Prelude.{ℕ, Bool, List, [], ◌∷◌, codes, Result}
use Rattle.limits.specs.Range.{among}
use Rattle.limits.specs.Told.{told_by}
use Rattle.planner.specs.declared.solve_fault.SolveFault.{SolveFault}
use Rattle.planner.specs.declared.solve_fault.SolveFault.TheVariants.{LinkWithoutFlow, AnswerTableTooShort, WorkTableTooShort, LinkWithoutCandidate, Spent, NothingWithin}

-- the number of the question that was answered no
abbrev pub number : SolveFault → ℕ
number (LinkWithoutFlow link) = 13
number AnswerTableTooShort = 14
number WorkTableTooShort = 15
number (LinkWithoutCandidate link) = 16
number Spent = 17
number NothingWithin = 18

-- a refusal of this number calls the port unmeetable
abbrev pub unmeetable : ℕ → Bool
unmeetable number = among (16 ∷ 18 ∷ []) number

-- what is told beside the number: the name of the link, or nothing, which is 0
abbrev pub detail : SolveFault → ℕ
detail (LinkWithoutFlow link) = link
detail AnswerTableTooShort = 0
detail WorkTableTooShort = 0
detail (LinkWithoutCandidate link) = link
detail Spent = 0
detail NothingWithin = 0

-- what the refusal says in words, as the codes of its characters
unfoldable pub text : SolveFault → List ℕ
text (LinkWithoutFlow link) = codes "a link has no flow"
text AnswerTableTooShort = codes "the answer table has fewer rows than there are links"
text WorkTableTooShort = codes "the work table has no more rows than there are links"
text (LinkWithoutCandidate link) = codes "no pair serves the flows of a link"
text Spent = codes "the visits are more than the allowance"
text NothingWithin = codes "no setting that serves the links is within the limit"

-- what a call told: 0 and 0 where it was accepted, else the number and the detail of its refusal
abbrev pub told : {X : Type 0} → Result X SolveFault → ℕ × ℕ
told r = (told_by number r, told_by detail r)
