use Rattle.std.proofs.Common.{◌≡◌, ℕ, ◌-◌, ◌++◌, drop, length, sym, ap, ◌∙◌, arith, w64}
use Rattle.std.specs.Int.{from_le_bytes}
use Rattle.std.proofs.Math.ListN.{replicate, length-replicate}
use Rattle.std.proofs.lemmas.List.{drop-replicate, length-append}
use Rattle.rulefile.proofs.Fields.{little_of_8, little_zeros}
use Rattle.rulefile.proofs.body.sheet_of.Goals as goal

pub returns : goal.returns
returns c =
    let bytes = c.args.bytes.now in
    let n = length bytes in
    let long : length (bytes ++ replicate (8 - n) 0) ≡ 8 = length-append bytes (replicate (8 - n) 0) ∙ omega (arith, length-replicate {A = ℕ} (8 - n) 0, c.requires) in
    let tail : drop n (replicate 8 0) ≡ replicate (8 - n) 0 = drop-replicate n 8 0 in
    let h : c.from_le_bytes.result ≡ from_le_bytes w64 (c.copy_from_slice.new.self ++ drop n (replicate 8 0)) = c.from_le_bytes.ensures in
    let word = ap (λ xs. xs ++ drop n (replicate 8 0)) c.copy_from_slice.ensures.after ∙ ap (λ ys. bytes ++ ys) tail in
    h ∙ ap (from_le_bytes w64) word ∙ sym (little_of_8 (bytes ++ replicate (8 - n) 0) long) ∙ little_zeros bytes (8 - n)
