use Rattle.std.proofs.Common.{◌≡◌, ℕ, ◌+◌, ◌/◌, ◌%◌, ◌<◌, [], ◌∷◌, decimal, sym, ap, ◌∙◌, arith}
use Rattle.std.proofs.lemmas.Fmt.{decimal_digit, decimal_step}
use Rattle.report.proofs.Pieces.{room_first, room_rest, room_like, writes_join, writes_like}
use Rattle.report.proofs.writing.Writer.+number.Goals as goal
use Rattle.report.proofs.writing.Writer.+number.Goals.{then-n-ge10, else-n-ge10}

-- a number below ten is its last digit
one : (n : ℕ) → n < 10 → decimal n ≡ (48 + n % 10) ∷ []
one n lt = decimal_digit n lt ∙ ap (λ (d : ℕ). (48 + d) ∷ []) (omega arith)

pub number-requires : goal.number-requires
number-requires t c =
    let n = c.args.n in
    (omega arith, room_first (decimal (n / 10)) ((48 + n % 10) ∷ []) (room_like (decimal_step n c.if-n-ge10.true (omega arith)) c.requires))

pub text-requires : goal.text-requires
text-requires t c =
    let n = c.args.n in
    elim c.if-n-ge10.branch [
      | then-n-ge10 w ↦ rw w.self-is (room_rest ((48 + n % 10) ∷ []) w.number.ensures (room_like (decimal_step n w.if-n-ge10.true (omega arith)) c.requires))
      | else-n-ge10 w ↦ rw w.self-is (room_like (one n w.if-n-ge10.false) c.requires)
    ]

pub returns : goal.returns
returns t c =
    let n = c.args.n in
    elim c.if-n-ge10.branch [
      | then-n-ge10 w ↦ writes_like (sym (decimal_step n w.if-n-ge10.true (omega arith))) (writes_join w.number.ensures (rw w.self-is at c.text.ensures))
      | else-n-ge10 w ↦ writes_like (sym (one n w.if-n-ge10.false)) (rw w.self-is at c.text.ensures)
    ]
