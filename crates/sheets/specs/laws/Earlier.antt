-- Lemmas; no contract names what stands here. Of two sheets one is the earlier.
use Rattle.std.specs.Prelude.{◌≡◌, ℕ, zero, suc, ◌<◌, true, false, ◌⊎◌}
use Rattle.std.proofs.Common.{sym, ap, ◌∙◌, inl, inr, ⊎_elim, arith}
use Rattle.std.proofs.lemmas.Bool.{cases_Bool, cases_lt}
use Rattle.sheets.specs.Sheets.{has, Earlier}

-- the sheets agree on the marks below n, or one of them is the earlier
pub compared : (n y z : ℕ) → ((i : ℕ) → i < n → has y i ≡ has z i) ⊎ (Earlier y z ⊎ Earlier z y)
compared zero y z = inl (λ i lt. absurd (omega arith))
compared (suc n) y z = ⊎_elim (λ same. go same (cases_Bool (has y n)) (cases_Bool (has z n))) inr (compared n y z)
  where
    more : ((i : ℕ) → i < n → has y i ≡ has z i) → has y n ≡ has z n → (i : ℕ) → i < suc n → has y i ≡ has z i
    more same here i lt = ⊎_elim (same i) (λ le. let e : i ≡ n = omega arith in ap (has y) e ∙ here ∙ ap (has z) (sym e)) (cases_lt i n)

    go : ((i : ℕ) → i < n → has y i ≡ has z i) → (has y n ≡ true) ⊎ (has y n ≡ false) → (has z n ≡ true) ⊎ (has z n ≡ false) → ((i : ℕ) → i < suc n → has y i ≡ has z i) ⊎ (Earlier y z ⊎ Earlier z y)
    go same (inl a) (inl b) = inl (more same (a ∙ sym b))
    go same (inr a) (inr b) = inl (more same (a ∙ sym b))
    go same (inr a) (inl b) = inr (inl (record { mark = n; lacks = a; other = b; agree = same }))
    go same (inl a) (inr b) = inr (inr (record { mark = n; lacks = b; other = a; agree = λ i lt. sym (same i lt) }))
