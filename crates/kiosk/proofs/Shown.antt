-- What is made is the report on all that there is, and what is written is its front.
use Rattle.std.proofs.Common.{◌≡◌, ℕ, ◌+◌, ◌-◌, List, ◌++◌, length, take, drop, Option, None, Some, IfSome, sym, subst, ap, ◌∙◌}
use Rattle.std.proofs.lemmas.List.{take_rest}
use Rattle.std.specs.Io.KnownBytes.{Keeps, Appends}
use Rattle.std.proofs.KnownBytes.{Appends-trans, Appends-kept}
use lib.Seq.{take-add}
use Rattle.rulefile.specs.Format.{decode}
use Rattle.report.specs.Reports.{IsReport, ReportThatFits, Report}

same_report : (bytes others lines : List ℕ) → decode bytes ≡ decode others → Report bytes lines → Report others lines
same_report bytes others lines e r = record {
  fitting = subst (λ d. ReportThatFits d lines) e r.fitting;
  only = λ other h. r.only other (subst (λ d. IsReport d other) (sym e) h);
}

-- bytes that mean what all that are known do have the same report
pub whole : (known : Option (List ℕ)) (read lines : List ℕ) → Report read lines → IfSome known (λ bytes. decode read ≡ decode bytes) → IfSome known (λ bytes. Report bytes lines)
whole None read lines report means = tt
whole (Some all) read lines report means = same_report read all lines means report

-- n bytes more were written behind the first w
pub written_more : (old mid new : Option (List ℕ)) (bytes : List ℕ) (w n m : ℕ) → m ≡ w + n → Appends old mid (take w bytes)
    → Appends mid new (take n (take (length bytes - w) (drop w bytes))) → Appends old new (take m bytes)
written_more old mid new bytes w n m more before written =
    subst (Appends old new)
    (ap (λ l. take w bytes ++ take n l) (take_rest bytes w) ∙ sym (take-add w n bytes) ∙ ap (λ k. take k bytes) (sym more))
    (Appends-trans _ _ _ _ _ before written)

-- no byte was written
pub written_same : (old mid new : Option (List ℕ)) (bytes : List ℕ) (w m : ℕ) → m ≡ w → Appends old mid (take w bytes) → Keeps mid new → Appends old new (take m bytes)
written_same old mid new bytes w m same before kept =
    subst (Appends old new) (ap (λ k. take k bytes) (sym same)) (Appends-kept _ _ _ _ before kept)
