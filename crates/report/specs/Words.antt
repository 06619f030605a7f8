-- What a refusal and an error of the report are written as.
use Rattle.std.specs.Prelude.{ℕ, List, ◌++◌, codes, decimal}
use Rattle.report.specs.declared.refusals.Refusal.{Refusal}
use Rattle.report.specs.declared.refusals.Refusal.TheVariants.{BufferSmall}
use Rattle.report.specs.declared.refusals.ReportError.{ReportError}
use Rattle.report.specs.declared.refusals.ReportError.TheVariants.{Refused, Memory}
use Rattle.report.specs.Numbers.{number}

-- the number of the refusal, and what is wrong
abbrev pub refusal_text : Refusal → List ℕ
refusal_text BufferSmall = codes "refused " ++ (decimal (number BufferSmall) ++ codes ": the buffer has fewer than 4096 bytes")

-- what a refused report, or want of memory, is written as
abbrev pub error_text : ReportError → List ℕ
error_text (Refused why) = refusal_text why
error_text Memory = codes "no memory for the report"
