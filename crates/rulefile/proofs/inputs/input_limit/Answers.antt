use Rattle.std.proofs.Common.{◌≡◌, ℕ, ◌<◌, ◌≤◌, length, take, Ok, Err, Result, refl, sym, ap, ◌∙◌, ⊎_elim, arith}
use Rattle.std.proofs.Math.ListN.{replicate, length-replicate}
use Rattle.std.proofs.lemmas.List.{length-take, take_all, take-replicate}
use Rattle.std.proofs.lemmas.Bool.{cases_lt}
use Rattle.rulefile.specs.declared.refusals.Refusal.{Refusal}
use Rattle.rulefile.specs.declared.refusals.Refusal.TheVariants.{FileTooLong, RecordCut, LengthRange}
use Rattle.rulefile.specs.declared.refusals.BadFile.{BadFile}
use Rattle.rulefile.specs.Model.{FileModel}
use Rattle.rulefile.specs.Parser.{little}
use Rattle.rulefile.specs.Format.{first, bad, decode}
use Rattle.rulefile.specs.Reading.{Enough}
use Rattle.rulefile.proofs.Frames.{cut_short, cut_range}
use Rattle.rulefile.proofs.Drafts.{whole_uncut, decode_long, decode_refused}
use Rattle.rulefile.proofs.inputs.input_limit.Goals as goal

-- why a file is refused; of an accepted one this is never asked
abbrev why_of : Result FileModel BadFile → Refusal
why_of (Ok f) = FileTooLong
why_of (Err b) = b.why

-- bytes of 0 are too few for a length, or say a length of 0, and both are other refusals
zeros : (m : ℕ) → m ≤ 32768 → decode (replicate m 0) ≡ bad FileTooLong 0 → ⊥
zeros m le e =
    let long : length {A = ℕ} (replicate m 0) ≡ m = length-replicate m 0 in
    ⊎_elim
    (λ lt.
    let f : decode (replicate m 0) ≡ bad RecordCut 0 = decode_refused (replicate m 0) (omega (arith, long)) (whole_uncut first (replicate m 0) (cut_short (replicate m 0) (omega (arith, long)))) in
    let other : RecordCut ≡ FileTooLong = ap why_of (sym f ∙ e) in cc)
    (λ ge.
    let low : little (take 4 (replicate m 0)) ≡ 0 = ap little (take-replicate 4 m 0 ge) in
    let f : decode (replicate m 0) ≡ bad LengthRange 0 = decode_refused (replicate m 0) (omega (arith, long)) (whole_uncut first (replicate m 0) (cut_range (replicate m 0) 0 (omega (arith, long)) low refl)) in
    let other : LengthRange ≡ FileTooLong = ap why_of (sym f ∙ e) in cc)
    (cases_lt m 4)

-- n bytes of 0 are too long, and the first m of them are not
few : (n m : ℕ) → 32768 < n → m ≤ 32768 → Enough m → ⊥
few n m long le enough =
    zeros m le
    (ap decode (sym (take-replicate m n 0 (omega arith))) ∙ enough (replicate n 0)
    ∙ decode_long (replicate n 0) (omega (arith, length-replicate {A = ℕ} n 0)))

pub returns-clause-fewest : goal.returns-clause-fewest
returns-clause-fewest c m enough = ⊎_elim
    (λ lt. absurd (few 32769 m (omega arith) (omega arith) enough))
    (λ le. omega arith)
    (cases_lt m 32769)

pub returns-clause-enough : goal.returns-clause-enough
returns-clause-enough c bytes = ⊎_elim
    (λ lt. decode_long (take 32769 bytes) (omega (arith, length-take 32769 bytes)) ∙ sym (decode_long bytes (omega arith)))
    (λ le. ap decode (take_all 32769 bytes le))
    (cases_lt 32769 (length bytes))
