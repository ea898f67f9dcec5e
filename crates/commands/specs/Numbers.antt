-- The numbers that a check tells behind its words.
use Rattle.std.specs.Prelude.{ℕ, List, [], ◌++◌, Option, Some, None, codes}
use Rattle.std.specs.Fmt.{decimal}
use Rattle.verdict_judge.specs.declared.outcome.Reason.{Reason}
use Rattle.verdict_judge.specs.declared.outcome.Reason.TheVariants as reason
use Rattle.verdict_judge.specs.declared.core_outcome.CoreReason.{CoreReason}
use Rattle.verdict_judge.specs.declared.core_outcome.CoreReason.TheVariants as core_reason
use Rattle.commands.specs.declared.judgement.Numbers.{Numbers}
use Rattle.commands.specs.declared.judgement.Numbers.TheVariants as numbers
use Rattle.commands.specs.declared.judgement.Judgement.{Judgement}
use Rattle.commands.specs.declared.judgement.Judgement.TheVariants as judgement
use Rattle.commands.specs.declared.core_judgement.CoreJudgement.{CoreJudgement}
use Rattle.commands.specs.declared.core_judgement.CoreJudgement.TheVariants as core_judgement

-- each number after a space
abbrev pub numbers_text : Numbers → List ℕ
numbers_text numbers.Absent = []
numbers_text (numbers.One n) = codes " " ++ decimal n
numbers_text (numbers.Two n m) = codes " " ++ (decimal n ++ (codes " " ++ decimal m))

-- those of a test of a verdict: a side, a row, or a number or place of lines
abbrev pub reason_numbers : Reason → Numbers
reason_numbers (reason.Order side) = numbers.One side
reason_numbers (reason.Tree side row) = numbers.Two side row
reason_numbers (reason.Complete side) = numbers.One side
reason_numbers (reason.Length count) = numbers.One count
reason_numbers (reason.Pair line) = numbers.One line
reason_numbers (reason.Repeat line) = numbers.One line
reason_numbers (reason.Join line) = numbers.One line
reason_numbers other = numbers.Absent

-- those of what is found of the bytes of a verdict
abbrev pub judgement_numbers : Judgement → Numbers
judgement_numbers (judgement.Fails r) = reason_numbers r
judgement_numbers other = numbers.Absent

-- one number after a space, or nothing
abbrev pub number_text : Option ℕ → List ℕ
number_text None = []
number_text (Some n) = codes " " ++ decimal n

-- that of a test of a core: a row, or a number or place of lines
abbrev pub core_reason_number : CoreReason → Option ℕ
core_reason_number (core_reason.Order row) = Some row
core_reason_number (core_reason.Length count) = Some count
core_reason_number (core_reason.Pair line) = Some line
core_reason_number (core_reason.Repeat line) = Some line
core_reason_number (core_reason.Join line) = Some line
core_reason_number other = None

-- that of what is found of the bytes of the text of a core
abbrev pub core_judgement_number : CoreJudgement → Option ℕ
core_judgement_number (core_judgement.Fails r) = core_reason_number r
core_judgement_number other = None
